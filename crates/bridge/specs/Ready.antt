-- What the engine's functions require.
-- Assumes nothing.
use Rattle.std.specs.Prelude.{◌≡◌, true, List, ℕ, ◌<◌, ℤ, length, take, drop, Ok, Err}
use Rattle.schema.specs.Check.{Accepted, check_schema}
use Rattle.schema.specs.Ranges.{all}
use Rattle.schema.specs.Records.{table_of}
use Rattle.schema.specs.Fields.{schema_of}
use Rattle.rules.specs.State.{placed, undamaged}
use Rattle.rules.specs.Area.{view}
use Rattle.rules.specs.Book.{Work}
use Rattle.rules.specs.Change.{Result, go, stop}
use Rattle.rules.specs.Refusals.{Verdict}
use Rattle.bridge.specs.Fit.{work_of, Fit}

-- the schema's bytes are accepted, and the area's words are a book
pub record Ready (b : List ℕ) (a : List ℤ) : Type 0 where
  pub accepted : check_schema b ≡ Accepted
  pub fit : Fit (schema_of b) a

-- and row r of table t is in it
pub record Placed (b : List ℕ) (a : List ℤ) (t r : ℕ) : Type 0 where
  pub ready : Ready b a
  pub table : t < length (schema_of b).tables
  pub row : r < (table_of (schema_of b) t).rows

-- and every used journal record has its place in a table
pub record Undoable (b : List ℕ) (a : List ℤ) : Type 0 where
  pub ready : Ready b a
  pub places : all (placed (schema_of b)) (work_of (schema_of b) a).used ≡ true

-- the schema's bytes are accepted, and refusal 10 does not apply
pub record Sound (b : List ℕ) (a : List ℤ) : Type 0 where
  pub ready : Ready b a
  pub undamaged_is : undamaged (schema_of b) (view (schema_of b) a) ≡ true

-- the row of w words at p
unfoldable pub row_in : List ℤ → ℕ → ℕ → List ℤ
row_in a p w = take w (drop p a)

-- how row changes end, with the work that they leave
unfoldable pub result_of : Verdict → Work → Result
result_of (Ok tt) w = go w
result_of (Err c) w = stop c w
