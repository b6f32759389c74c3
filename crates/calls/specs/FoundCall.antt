-- What kinds 10 and 11 require, and the cells that they name.
-- Assumes nothing.
use Rattle.std.specs.Prelude.{◌≡◌, List, ℕ, ◌<◌, ℤ, length, get_or}
use Rattle.schema.specs.Bytes.{bit}
use Rattle.schema.specs.Records.{table_of}
use Rattle.schema.specs.Fields.{schema_of}
use Rattle.rules.specs.Lists.{𝟘}
use Rattle.rules.specs.Values.{nat_of}
use Rattle.bridge.specs.Ready.{Sound}
use Rattle.call_form.specs.declared.ColumnPlace.{ColumnPlace}
use Rattle.found.specs.declared.Cell.{Cell}
use Rattle.found.specs.Sought.{cell_with}

-- column c, with NULL by bit i of word 3, and the value of word k
unfoldable pub cell_of : List ℤ → ℕ → ℕ → ℕ → Cell
cell_of ws c i k = cell_with c (bit i (nat_of (get_or ws 3 𝟘))) (get_or ws k 𝟘)

-- the rows of a table are searched by its column, in a sound area
pub record FoundCall (b : List ℕ) (a ws : List ℤ) (p : ColumnPlace) : Type 0 where
  pub sound : Sound b a
  pub table : p.table < length (schema_of b).tables
  pub column : p.column < (table_of (schema_of b) p.table).columns
  pub size : length ws ≡ 12
