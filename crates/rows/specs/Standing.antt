-- Rows and tables as they stand in an area's words.
-- Assumes nothing.
use Rattle.std.specs.Prelude.{◌≡◌, List, ℕ, suc, ◌+◌, ◌*◌, ◌≤◌, ◌<◌, ℤ, length}
use Rattle.schema.specs.Ranges.{list_from}
use Rattle.schema.specs.Records.{table_of}
use Rattle.schema.specs.Fields.{schema_of}
use Rattle.schema.specs.Sizes.{table_offset}
use Rattle.rules.specs.Rows.{Row}
use Rattle.bridge.specs.Ready.{Placed, row_in}
use Rattle.rows.specs.declared.TableRows.{TableRows}

-- a row of w words, its state and at most eight values, stands at p
pub record RowAt (a : List ℤ) (p w : ℕ) : Type 0 where
  pub some : 0 < w
  pub narrow : w ≤ 9
  pub within : p + w ≤ length a

-- the rows of a table stand in the area
pub record Standing (a : List ℤ) (t : TableRows) : Type 0 where
  pub some : 0 < t.width
  pub narrow : t.width ≤ 9
  pub few : t.count ≤ 1024
  pub within : t.start + t.count * t.width ≤ length a

-- the rows themselves
unfoldable pub rows_in : List ℤ → TableRows → List Row
rows_in a t = list_from (λ j. row_in a (t.start + j * t.width) t.width) t.count 0

-- they are where the schema has those of table t
pub record RowsOf (b : List ℕ) (t : ℕ) (x : TableRows) : Type 0 where
  pub start_is : x.start ≡ table_offset (schema_of b) t
  pub width_is : x.width ≡ suc (table_of (schema_of b) t).columns
  pub count_is : x.count ≡ (table_of (schema_of b) t).rows

-- row j of table t is in the area, and stands at p, in w words
pub record PlacedAt (b : List ℕ) (a : List ℤ) (t j p w : ℕ) : Type 0 where
  pub placed : Placed b a t j
  pub place_is : p ≡ table_offset (schema_of b) t + j * w
  pub width_is : w ≡ suc (table_of (schema_of b) t).columns
