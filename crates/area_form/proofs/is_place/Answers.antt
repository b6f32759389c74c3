use Rattle.rules.specs.Calls.{in_table}
use Rattle.area_form.proofs.is_place.Goals as goal

pub returns : goal.returns
unfolding in_table
returns c = c.is_in_table.ensures
