use Rattle.schema.specs.Ranges.{every, and_all}
use Rattle.schema.specs.Check.{within, header_rest}
use Rattle.schema.specs.Bytes.{half}
use Rattle.schema.specs.Fields.{table_count, key_count, room_of}
use mathlib.Core.Path.{◌≡◌, ap, ap₂, ◌∙◌}
use mathlib.Core.Bool.{◌&&◌}
use Prim.Native.Nat.{ℕ, ◌+◌, ◌*◌}
use lib.Dec.{leb, eqb}
use lib.ListN.{length}
use Rattle.schema_tables.proofs.header_rest.Goals as goal

pub returns : goal.returns
unfolding header_rest every and_all
returns c =
    let s = c.args.s.now in
    let tables : c.half_at-tables.result ≡ table_count s = c.half_at-tables.ensures.0 in
    let keys : c.half_at-keys.result ≡ key_count s = c.half_at-keys.ensures.0 in
    let first : c.half_at.result ≡ half s 8 = c.half_at.ensures.0 in
    let second : c.half_at-2.result ≡ half s 10 = c.half_at-2.ensures.0 in
    let room : c.half_at-3.result ≡ room_of s = c.half_at-3.ensures.0 in
    let last : c.half_at-4.result ≡ half s 14 = c.half_at-4.ensures.0 in
    let end = ap (λ n. 16 + 80 * n) tables in
    let whole = ap₂ (λ (m n : ℕ). 16 + 80 * m + 16 * n) tables keys in
    let counts = ap₂ ◌&&◌ (c.is_within.ensures ∙ ap (within 1 16) tables) (ap (λ n. leb n 32) keys) in
    let offsets = ap₂ ◌&&◌ (ap₂ ◌&&◌ counts (ap (λ n. eqb n 16) first)) (ap₂ eqb second end) in
    let rooms = ap₂ ◌&&◌ offsets (c.is_within-2.ensures ∙ ap (within 1 4096) room) in
    ap₂ ◌&&◌ (ap₂ ◌&&◌ rooms (ap₂ eqb last whole)) (ap (eqb (length s)) whole)
