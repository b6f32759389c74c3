use mathlib.Core.Path.{ap}
use Rattle.rules.specs.Keys.{first_day, end_day}
use Rattle.windows.specs.declared.Days.TheVariants.{Sharing}
use Rattle.windows.specs.WindowKey.{clash_days}
use Rattle.windows.proofs.clash_days.Goals as goal

pub returns : goal.returns
unfolding clash_days first_day end_day
returns c = ap (Sharing c.args.key.first) c.window_in.ensures
