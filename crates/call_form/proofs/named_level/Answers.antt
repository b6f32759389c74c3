use Rattle.std.proofs.Common.{arith}
use Rattle.std.proofs.lemmas.Grind.{common_steps}
use Rattle.call_form.specs.Requests.{names_level}
use Rattle.call_form.proofs.named_level.Goals as goal

pub returns : goal.returns
unfolding names_level
returns c = grind (arith, common_steps)
