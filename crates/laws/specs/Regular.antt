-- Answers that areas reached from a fresh one can give.
-- Assumes nothing.
use Rattle.std.specs.Prelude.{Bool, true, not, ◌&&◌, eqb, Ok, Err}
use Rattle.rules.specs.declared.Refusal.{Refusal}
use Rattle.rules.specs.Refusals.{Answer, number}

-- neither 10 nor 19
unfoldable pub regular : Refusal → Bool
regular r = not (eqb (number r) 10) && not (eqb (number r) 19)

unfoldable pub regular_answer : Answer → Bool
regular_answer (Ok d) = true
regular_answer (Err r) = regular r
