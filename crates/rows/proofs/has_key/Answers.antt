use mathlib.Core.Path.{sym, ap, ◌∙◌}
use Rattle.rules.specs.Rows.{live_state, live}
use Rattle.bridge.specs.Ready.{row_in}
use Rattle.rows.proofs.CellLaws.{row_is}
use Rattle.rows.proofs.SoughtLaws.{sought_not, sought_live}
use Rattle.rows.proofs.has_key.Goals as goal

pub returns-else-holds_key : goal.returns-else-holds_key
returns-else-holds_key c =
    let a = c.args in
    let h = rw row_is at c.holds_key.ensures in
    c.if-holds_key.false ∙ sought_not (row_in a.area.now a.p a.w) a.key.now (sym h ∙ c.if-holds_key.false)

pub returns-then-holds_key : goal.returns-then-holds_key
unfolding live
returns-then-holds_key c =
    let a = c.args in
    let h = rw row_is at c.holds_key.ensures in
    c.is_live.ensures ∙ ap live_state (rw row_is at c.nat_at.ensures) ∙ sought_live (row_in a.area.now a.p a.w) a.key.now (sym h ∙ c.if-holds_key.true)
