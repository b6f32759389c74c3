use mathlib.Core.Path.{ap}
use Rattle.rules.specs.Keys.{first_day, end_day}
use Rattle.windows.specs.declared.Days.TheVariants.{Within}
use Rattle.windows.specs.WindowKey.{child_days}
use Rattle.windows.proofs.child_days.Goals as goal

pub returns : goal.returns
unfolding child_days first_day end_day
returns c = ap (Within c.args.key.day) c.window_in.ensures
