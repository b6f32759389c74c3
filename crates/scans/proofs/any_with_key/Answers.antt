use mathlib.Core.Path.{◌∙◌}
use Rattle.rows.specs.Sought.{has_sought}
use Rattle.scans.proofs.FirstLaws.{any_is}
use Rattle.scans.proofs.any_with_key.Goals as goal

pub returns : goal.returns
returns c = c.is_some.ensures ∙ any_is (has_sought c.args.key) c.args.area.now c.args.table c.first_with_key.result c.first_with_key.ensures
