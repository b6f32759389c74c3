use Rattle.std.proofs.Common.{arith}
use Rattle.std.proofs.lemmas.Grind.{common_steps}
use Rattle.std.proofs.lemmas.Bool.Decides.{nat_tests}
use Rattle.rules.specs.Calls.{level_number}
use Rattle.call_form.proofs.is_level.Goals as goal

pub returns : goal.returns
unfolding level_number
returns c = let h = c.new.ensures in grind (arith, common_steps, nat_tests)
