use mathlib.Core.Path.{sym, ◌∙◌}
use Rattle.change_parts.proofs.WindowTurns.{restrict_fail, restrict_pass}
use Rattle.change_parts.proofs.restrict.Goals as goal

pub returns-then-leaves_any : goal.returns-then-leaves_any
returns-then-leaves_any c = restrict_fail (sym c.leaves_any.ensures ∙ c.if-leaves_any.true)

pub returns : goal.returns
returns c = restrict_pass (sym c.leaves_any.ensures ∙ c.if-leaves_any.false)
