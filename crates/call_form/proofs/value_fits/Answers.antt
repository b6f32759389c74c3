use Rattle.std.proofs.Common.{arith}
use Rattle.std.proofs.lemmas.Grind.{common_steps}
use Rattle.rules.specs.Calls.{value_fits}
use Rattle.call_form.proofs.value_fits.Goals as goal

pub returns-then-not-bit_of : goal.returns-then-not-bit_of
unfolding value_fits
returns-then-not-bit_of c = grind (arith, common_steps)

pub returns-else-not-bit_of : goal.returns-else-not-bit_of
unfolding value_fits
returns-else-not-bit_of c = grind (arith, common_steps)
