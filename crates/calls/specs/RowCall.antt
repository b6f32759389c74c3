-- What the kinds that change one row require, and the statement that each is.
-- Assumes nothing.
use Rattle.std.specs.Prelude.{Bool, true, false, not, List, ℕ, ◌<◌, ℤ, length, get_or, drop}
use Rattle.schema.specs.Records.{Schema, table_of}
use Rattle.schema.specs.Fields.{schema_of}
use Rattle.rules.specs.Lists.{𝟘}
use Rattle.rules.specs.Values.{nat_of}
use Rattle.rules.specs.Rows.{Row, row_at, live, live_image}
use Rattle.rules.specs.Book.{Book}
use Rattle.rules.specs.Statement.{Turn, row_statement}
use Rattle.bridge.specs.Ready.{Sound}
use Rattle.call_form.specs.declared.RowPlace.{RowPlace}

-- the row is in its table, in a sound area
pub record RowCall (b : List ℕ) (a : List ℤ) (p : RowPlace) : Type 0 where
  pub sound : Sound b a
  pub table : p.table < length (schema_of b).tables
  pub row : p.row < (table_of (schema_of b) p.table).rows

-- a row is live, or is not, as is asked
abbrev pub stands_as : Bool → Bool → Bool
stands_as true v = v
stands_as false v = not v

-- a row becomes an image as one statement, if it stands as is asked
abbrev pub placed_statement : Schema → RowPlace → Bool → Row → Book → Turn
placed_statement s p asked new b = row_statement s (stands_as asked (live (row_at p.table p.row b.work.tabs))) p.table p.row new b

-- the image that a call's words give the row
abbrev pub given_row : Schema → RowPlace → List ℤ → Row
given_row s p ws = live_image (table_of s p.table).columns (nat_of (get_or ws 3 𝟘)) (drop 4 ws)
