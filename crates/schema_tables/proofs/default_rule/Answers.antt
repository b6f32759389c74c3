use mathlib.Core.Path.{◌≡◌, ap, ap₂, ◌∙◌}
use mathlib.Core.Bool.{Bool, not, ◌&&◌, ◌||◌}
use Prim.Native.Nat.{ℕ, ◌+◌, ◌*◌}
use lib.Dec.{ltb, eqb}
use Rattle.schema.specs.Bytes.{bit, word}
use Rattle.schema.specs.Fields.{table_start, columns_of, default_null_of}
use Rattle.schema_tables.proofs.default_rule.Goals as goal

pub returns : goal.returns
returns c =
    let s = c.args.s.now in
    let t = c.args.t in
    let i = c.args.c in
    let columns : c.byte_at-columns.result ≡ columns_of s t = c.byte_at-columns.ensures.0 in
    let nulls : c.byte_at-nulls.result ≡ default_null_of s t = c.byte_at-nulls.ensures.0 in
    let value : c.word_at.result ≡ word s (table_start t + 16 + 8 * i) = c.word_at.ensures in
    ap₂ ◌||◌ (ap (λ w. eqb w 0) value) (ap₂ (λ (n : ℕ) (b : Bool). ltb i n && not b) columns (c.is_bit.ensures ∙ ap (bit i) nulls))
