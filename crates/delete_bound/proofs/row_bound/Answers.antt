use mathlib.Core.Path.{sym, ◌∙◌}
use native.Mathlib.Omega.{arith}
use lib.Bits.{and_le_l}
use Rattle.delete_bound.proofs.RowBounds.{vacant_bound, live_bound, ones_few}
use Rattle.delete_bound.proofs.row_bound.Goals as goal

pub returns-then-not-is_live : goal.returns-then-not-is_live
returns-then-not-is_live c =
    let a = c.args in
    (vacant_bound a.cleared a.state (sym c.is_live.ensures ∙ c.if-not-is_live.true), omega arith)

pub overflow_sub-cleared : goal.overflow_sub-cleared
overflow_sub-cleared c = and_le_l _ _

pub overflow_add-result : goal.overflow_add-result
overflow_add-result c = omega (arith, ones_few c.args.cleared c.args.state c.requires c.ones_of-columns.ensures)

pub returns : goal.returns
returns c =
    let a = c.args in
    let live = sym c.is_live.ensures ∙ c.if-not-is_live.false in
    (live_bound a.cleared a.state c.requires c.ones_of-columns.ensures live, omega (arith, ones_few a.cleared a.state c.requires c.ones_of-columns.ensures))
