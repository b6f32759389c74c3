use mathlib.Core.Path.{refl, sym, ap, ◌∙◌}
use mathlib.Core.Bool.{false}
use native.Mathlib.Omega.{arith}
use lib.IntN.{ℤ}
use Rattle.words.proofs.Signed.{back}
use Rattle.folding.proofs.FoldLaws.{not_folded}
use Rattle.rules.specs.Rows.{live_state, live}
use Rattle.rules.specs.Found.{cell_is}
use Rattle.bridge.specs.Ready.{row_in}
use Rattle.rows.proofs.CellLaws.{row_is, row_long}
use Rattle.rows.proofs.SoughtLaws.{value_not, value_live}
use Rattle.rows.proofs.has_value.Goals as goal

pub holds_value-requires : goal.holds_value-requires
holds_value-requires c =
    let a = c.args in
    let long = row_long a.area.now a.p a.w c.requires.0 in
    ((omega (arith, long, c.requires.1), omega (arith, long, c.requires.0.narrow)), sym (not_folded false _ refl))

pub returns-else-holds_value : goal.returns-else-holds_value
returns-else-holds_value c =
    let a = c.args in
    let row = row_in a.area.now a.p a.w in
    let h = rw row_is at c.holds_value.ensures in
    let e = h ∙ ap (λ (v : ℤ). cell_is false false v a.c row) (back _ c.ranges.v.sfits) in
    c.if-holds_value.false ∙ value_not row a.c _ (sym e ∙ c.if-holds_value.false)

pub returns-then-holds_value : goal.returns-then-holds_value
unfolding live
returns-then-holds_value c =
    let a = c.args in
    let row = row_in a.area.now a.p a.w in
    let h = rw row_is at c.holds_value.ensures in
    let e = h ∙ ap (λ (v : ℤ). cell_is false false v a.c row) (back _ c.ranges.v.sfits) in
    c.is_live.ensures ∙ ap live_state (rw row_is at c.nat_at.ensures) ∙ value_live row a.c _ (sym e ∙ c.if-holds_value.true)
