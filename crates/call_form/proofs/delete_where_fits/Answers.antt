use Rattle.std.proofs.Common.{arith}
use Rattle.std.proofs.lemmas.Grind.{common_steps}
use Rattle.rules.specs.Calls.{seeks_null, allowed}
use Rattle.call_form.specs.Requests.{call_of}
use Rattle.call_form.proofs.delete_where_fits.Goals as goal

pub returns : goal.returns
unfolding call_of allowed seeks_null
returns c = grind (arith, common_steps)
