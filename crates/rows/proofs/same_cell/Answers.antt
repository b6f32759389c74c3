use mathlib.Core.Path.{◌≡◌, sym, ap, ◌∙◌}
use mathlib.Core.Bool.{not}
use Prim.Native.Nat.{◌+◌}
use native.Mathlib.Omega.{arith}
use borrow.Author.Rules.{rules}
use lib.ListN.{length, get_or}
use Rattle.words.proofs.Signed.{back}
use Rattle.schema.specs.Bytes.{bit}
use Rattle.rules.specs.Lists.{𝟘}
use Rattle.rules.specs.Values.{nat_of, folded}
use Rattle.folding.proofs.FoldLaws.{fold_again}
use Rattle.rows.proofs.ActionLaws.{cell_held}
use Rattle.rows.proofs.same_cell.Goals as goal

pub holds_value-requires : goal.holds_value-requires
holds_value-requires c =
    let a = c.args in
    let v = back _ c.compared-v.type_inv ∙ c.compared-v.ensures ∙ ap (folded a.f) (back (get_or a.y (a.d + 1) 𝟘) c.compared-arg-1.given) in
    let size : length a.x ≡ 9 = search rules in
    (omega (arith, c.requires.0, size), ap (folded a.f) v ∙ fold_again a.f _ ∙ sym v)

pub returns-then-holds_value : goal.returns-then-holds_value
returns-then-holds_value c =
    let a = c.args in
    let v = back _ c.compared-v.type_inv ∙ c.compared-v.ensures ∙ ap (folded a.f) (back (get_or a.y (a.d + 1) 𝟘) c.compared-arg-1.given) in
    ap not (c.bit_of.ensures ∙ ap (bit a.d) (c.nat_of.ensures ∙ ap nat_of (back (get_or a.y 0 𝟘) c.nat_of-arg-1.given)))
    ∙ cell_held a.x a.y a.f a.c a.d v (sym c.holds_value.ensures ∙ c.if-holds_value.true)

pub returns-else-holds_value : goal.returns-else-holds_value
returns-else-holds_value c =
    let a = c.args in
    let v = back _ c.compared-v.type_inv ∙ c.compared-v.ensures ∙ ap (folded a.f) (back (get_or a.y (a.d + 1) 𝟘) c.compared-arg-1.given) in
    c.if-holds_value.false ∙ cell_held a.x a.y a.f a.c a.d v (sym c.holds_value.ensures ∙ c.if-holds_value.false)
