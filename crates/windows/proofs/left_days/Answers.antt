use mathlib.Core.Path.{sym, ap, ap₂, ◌∙◌}
use Rattle.rules.specs.Keys.{first_day, end_day}
use Rattle.windows.specs.declared.Days.TheVariants.{Within}
use Rattle.windows.specs.WindowKey.{cut}
use Rattle.windows.proofs.WindowLaws.{left_all, left_some}
use Rattle.windows.proofs.left_days.Goals as goal

pub returns-then-not-keeps_pairs : goal.returns-then-not-keeps_pairs
returns-then-not-keeps_pairs c =
    let a = c.args in
    c.child_days.ensures ∙ left_all a.key a.old a.new (sym c.keeps_pairs.ensures ∙ c.if-not-keeps_pairs.true)

pub returns : goal.returns
unfolding first_day end_day
returns c =
    let a = c.args in
    ap (Within a.key.day) (c.cut_by.ensures ∙ ap₂ cut c.window_in-before.ensures c.window_in-after.ensures)
    ∙ left_some a.key a.old a.new (sym c.keeps_pairs.ensures ∙ c.if-not-keeps_pairs.false)
