use mathlib.Core.Path.{sym, ap, ◌∙◌}
use Rattle.rules.specs.DeleteBound.{is_set_null}
use Rattle.delete_bound.proofs.ClearLaws.{other_action, other_table, own_column}
use Rattle.delete_bound.proofs.clears.Goals as goal

pub returns-then-not-is_set_null : goal.returns-then-not-is_set_null
returns-then-not-is_set_null c = other_action _ _ _ (ap is_set_null (sym c.on_delete.ensures) ∙ sym c.is_set_null.ensures ∙ c.if-not-is_set_null.true)

pub returns-then-child-t : goal.returns-then-child-t
returns-then-child-t c =
    let yes = ap is_set_null (sym c.on_delete.ensures) ∙ sym c.is_set_null.ensures ∙ c.if-not-is_set_null.false in
    other_table _ _ _ yes (λ z. c.if-child-t.true (c.child.ensures.0 ∙ z))

pub returns : goal.returns
returns c =
    let yes = ap is_set_null (sym c.on_delete.ensures) ∙ sym c.is_set_null.ensures ∙ c.if-not-is_set_null.false in
    let own = sym c.child.ensures.0 ∙ c.if-child-t.false in
    let columns = c.child_columns-cs in
    c.has_column.ensures ∙ own_column _ _ _ yes own columns.result c.width-n.ensures.0 columns.ensures.0
