use mathlib.Core.Path.{◌≡◌, sym, ap, ap₂, ◌∙◌}
use mathlib.Core.Bool.{Bool, ◌&&◌}
use Prim.Native.Nat.{ℕ}
use native.Mathlib.Omega.{arith}
use borrow.Author.Tests.{lt-ltb, le-ltb}
use lib.Dec.{ltb}
use lib.ListN.{length, take}
use lib.Seq.{length-take-le}
use Rattle.words.proofs.Signed.{back}
use Rattle.rules.specs.Values.{nat_of}
use Rattle.rows.proofs.CellLaws.{half_vacant, half_live}
use Rattle.rows.proofs.image_half_key.Goals as goal

pub returns-else-is_live : goal.returns-else-is_live
returns-else-is_live c =
    let e = c.nat_of-state.ensures ∙ ap nat_of (back _ c.nat_of-arg-1.given) in
    c.if-is_live.false ∙ half_vacant _ e _ (sym c.is_live.ensures ∙ c.if-is_live.false)

pub returns-then-nulls-gt0 : goal.returns-then-nulls-gt0
returns-then-nulls-gt0 c =
    let m = c.null_columns-nulls.result in
    let e = c.nat_of-state.ensures ∙ ap nat_of (back _ c.nat_of-arg-1.given) in
    let half = half_live _ e _ (sym c.is_live.ensures ∙ c.if-is_live.true) c.null_columns-nulls.ensures in
    let size : length (take c.args.n c.args.cs) ≡ c.args.n = length-take-le c.args.n c.args.cs (omega (arith, c.requires.few, c.requires.size)) in
    ap₂ (λ (b : Bool) (l : ℕ). b && ltb m l) (sym (lt-ltb 0 m c.if-nulls-gt0.true)) (sym size) ∙ half

pub returns-else-nulls-gt0 : goal.returns-else-nulls-gt0
returns-else-nulls-gt0 c =
    let m = c.null_columns-nulls.result in
    let e = c.nat_of-state.ensures ∙ ap nat_of (back _ c.nat_of-arg-1.given) in
    let half = half_live _ e _ (sym c.is_live.ensures ∙ c.if-is_live.true) c.null_columns-nulls.ensures in
    let none = le-ltb 0 m c.if-nulls-gt0.false in
    none ∙ sym (ap (λ (b : Bool). b && ltb m (length (take c.args.n c.args.cs))) none) ∙ half
