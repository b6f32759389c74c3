-- The tally of a statement: by how much the orphans of each foreign key have moved since it began.
-- Assumes nothing.
use Rattle.std.specs.Prelude.{◌≡◌, true, List, ℕ, ◌<◌, ℤ, length}
use Rattle.schema.specs.Ranges.{all}
use Rattle.schema.specs.Records.{Schema, table_of}
use Rattle.schema.specs.Fields.{schema_of}
use Rattle.rules.specs.Lists.{less}
use Rattle.rules.specs.Values.{in_range}
use Rattle.rules.specs.Keys.{counts}
use Rattle.bridge.specs.Fit.{work_of, Keeps}
use Rattle.bridge.specs.Ready.{Ready}

-- the counted orphans less the tally: the counts when the statement began. Every row write leaves it as it is
unfoldable pub ahead : Schema → List ℤ → List ℤ → List ℤ
ahead s tally a = less (counts s (work_of s a).tabs) tally

-- the book is kept but for its work, and the tally has followed the counts
pub record Follows (s : Schema) (tally a tally' a' : List ℤ) : Type 0 where
  pub keeps : Keeps s a a'
  pub even : ahead s tally' a' ≡ ahead s tally a
  pub size : length tally' ≡ length tally

-- what the functions that carry a tally require: the counts when the statement began were counts of rows
pub record Tallied (b : List ℕ) (tally a : List ℤ) : Type 0 where
  pub ready : Ready b a
  pub size : length tally ≡ 32
  pub small : all (in_range 1024) (ahead (schema_of b) tally a) ≡ true

-- and row r of table t is in the area
pub record TalliedAt (b : List ℕ) (tally a : List ℤ) (t r : ℕ) : Type 0 where
  pub tallied : Tallied b tally a
  pub table : t < length (schema_of b).tables
  pub row : r < (table_of (schema_of b) t).rows
