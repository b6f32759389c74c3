-- Demand 3 of `runs::run`.
-- Assumes nothing.
use Rattle.std.specs.Prelude.{◌≡◌, List, ◌++◌, ℕ, ◌*◌, ◌≤◌, ℤ, length, drop}
use Rattle.schema.specs.Fields.{schema_of}
use Rattle.rules.specs.Lists.{flat, chunks}
use Rattle.rules.specs.Step.{Logged}
use Rattle.rules.specs.Area.{fresh_words}
use Rattle.rules.specs.Strike.{calls_of, left_of, Demand3}
use Rattle.runs.specs.Runs.{answers_words, calls_run, run_calls}

-- demand 3 of calls laid end to end, from a fresh area
pub record RunDemand3 (bs : List ℕ) (calls answers : List ℤ) : Type 0 where
  -- of the calls that are run
  pub demand : Demand3 bs (fresh_words (schema_of bs)) (chunks 12 (calls_run (length calls) (length answers)) calls)
  -- what is left of them, laid end to end and run on another fresh area with room for the answers, gets the same answers and ends equal in every word
  pub again : (left : List Logged) → left ≡ left_of bs (fresh_words (schema_of bs)) (chunks 12 (calls_run (length calls) (length answers)) calls)
      → (answers' : List ℤ) → length left * 3 ≤ length answers'
      → run_calls bs (flat (calls_of left)) (fresh_words (schema_of bs)) answers'
      ≡ (length left, (run_calls bs calls (fresh_words (schema_of bs)) answers).1, answers_words left ++ drop (length left * 3) answers')
