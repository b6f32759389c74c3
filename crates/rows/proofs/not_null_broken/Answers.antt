use mathlib.Core.Path.{refl, ap, ◌∙◌}
use mathlib.Core.Bool.{Bool, ◌&&◌}
use Prim.Native.Nat.{ℕ}
use native.Mathlib.Nat.{sub-zero}
use Rattle.std.proofs.Common.{rules, tests}
use Rattle.schema.specs.Bytes.{bit}
use Rattle.schema.specs.Fields.{schema_of}
use Rattle.schema.specs.Records.{table_of}
use Rattle.schema.proofs.RangeChains.{any_in_range}
use Rattle.words.proofs.Signed.{back}
use Rattle.rules.specs.Values.{nat_of}
use Rattle.rows.proofs.CellLaws.{broken_is}
use Rattle.rows.proofs.ChainLaws.{any_up}
use Rattle.rows.proofs.not_null_broken.Goals as goal

pub returns : goal.returns
returns c =
    let n = c.columns-n.result in
    let P : ℕ → Bool = λ i. bit i c.not_null-mask.result && bit i c.nat_of-state.result in
    let T = table_of (schema_of c.args.schema.now.bytes) c.args.t in
    let e = c.nat_of-state.ensures ∙ ap nat_of (back _ c.nat_of-arg-1.given) in
    any_in_range P _ _ _ 0 n n refl (sub-zero n) c.any.ensures.ran (λ x q k. search (rules, tests)) (λ x q k. search (rules, tests))
    ∙ any_up P n 0
    ∙ broken_is T c.args.image c.not_null-mask.ensures.0 c.columns-n.ensures.0 e
