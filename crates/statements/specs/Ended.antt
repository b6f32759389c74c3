-- A statement's end: what its functions require, and what they leave.
-- Assumes nothing.
use Rattle.std.specs.Prelude.{◌≡◌, List, ℕ, ◌-◌, ◌≤◌, ℤ, length, Ok, Err}
use Rattle.schema.specs.Records.{Schema}
use Rattle.schema.specs.Fields.{schema_of}
use Rattle.rules.specs.Refusals.{Verdict, Answer, did}
use Rattle.rules.specs.Lists.{sum, plus}
use Rattle.rules.specs.Statement.{after_statement}
use Rattle.rules.specs.Area.{view}
use Rattle.bridge.specs.Fit.{work_of, Holds}
use Rattle.bridge.specs.Ready.{Undoable}
use Rattle.area.specs.Undone.{Undone}
use Rattle.settlement.specs.Settled.{Settling}

-- the verdict on a statement: on its row changes, then on what is settled
unfoldable pub concluded : Verdict → Verdict → Verdict
concluded (Ok tt) v = v
concluded (Err c) v = Err c

-- what the end of a statement requires that began at the use n
pub record Ending (b : List ℕ) (a tally : List ℤ) (n : ℕ) : Type 0 where
  pub settling : Settling b a tally
  pub undoable : Undoable b a
  pub begun : n ≤ length (work_of (schema_of b) a).used

-- a statement ended by a verdict: its answer and its area, put back where it is refused
unfoldable pub Ended : Schema → Verdict → ℕ → List ℤ → Answer → List ℤ → List ℤ → Type 0
Ended s (Ok tt) n tally x a a' =
    (x ≡ did (length (work_of s a).used - n) (sum tally)) × Holds s a' (after_statement (work_of s a) (plus (view s a).kept tally) (view s a))
Ended s (Err c) n tally x a a' = (x ≡ Err c) × Undone s n a a'
