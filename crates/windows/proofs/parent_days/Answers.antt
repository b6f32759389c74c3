use mathlib.Core.Path.{ap, ◌∙◌}
use Rattle.words.proofs.Signed.{back}
use Rattle.windows.specs.declared.Days.TheVariants.{Holding}
use Rattle.windows.specs.WindowKey.{parent_days}
use Rattle.windows.proofs.parent_days.Goals as goal

pub returns : goal.returns
unfolding parent_days
returns c = ap (Holding c.args.key.first) (back _ c.value_of.type_inv ∙ c.value_of.ensures)
