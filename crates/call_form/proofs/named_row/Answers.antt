use Rattle.std.proofs.Common.{arith}
use Rattle.std.proofs.lemmas.Grind.{common_steps}
use Rattle.rules.specs.Calls.{in_table}
use Rattle.call_form.specs.Requests.{names_row}
use Rattle.call_form.proofs.named_row.Goals as goal

pub returns : goal.returns
unfolding names_row in_table
returns c = grind (arith, common_steps)
