-- Rows by their numbers.
-- Assumes nothing.
use Rattle.std.specs.Prelude.{◌≡◌, List, ℕ, ◌<◌, length}
use Rattle.schema.specs.Check.{Accepted, check_schema}
use Rattle.schema.specs.Records.{table_of}
use Rattle.schema.specs.Fields.{schema_of}

-- the schema's bytes are accepted, and its table t has a row r
pub record RowPlace (b : List ℕ) (t r : ℕ) : Type 0 where
  pub accepted : check_schema b ≡ Accepted
  pub table : t < length (schema_of b).tables
  pub row : r < (table_of (schema_of b) t).rows
