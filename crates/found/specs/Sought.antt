-- Rows that are found, and what they are given.
-- Assumes nothing.
use Rattle.std.specs.Prelude.{◌≡◌, Bool, true, cond, ◌&&◌, None, Some, List, ◌∷◌, ℕ, suc, ◌<◌, ltb, ℤ, length, replicate}
use Rattle.std.specs.Option.{is_none, unwrap_or}
use Rattle.schema.specs.Bytes.{bit}
use Rattle.schema.specs.Records.{Schema, table_of}
use Rattle.schema.specs.Fields.{schema_of}
use Rattle.rules.specs.Lists.{𝟘, one}
use Rattle.rules.specs.Values.{folded}
use Rattle.rules.specs.Rows.{Row, Tables, row_at, deleted_image, live, null_at}
use Rattle.rules.specs.Book.{Work}
use Rattle.rules.specs.Change.{Result}
use Rattle.rules.specs.Found.{is_found, row_set, rows_found}
use Rattle.rows.specs.declared.SoughtKey.{SoughtKey}
use Rattle.rows.specs.Sought.{has_sought, SoughtIn}
use Rattle.rows.specs.Standing.{RowsOf}
use Rattle.found.specs.declared.Cell.{Cell}
use Rattle.found.specs.declared.Seeking.{Seeking}
use Rattle.found.specs.declared.Sought.{Sought}
use Rattle.found.specs.declared.Sought.TheVariants.{Null, Key}
use Rattle.found.specs.declared.Given.{Given}
use Rattle.found.specs.declared.Given.TheVariants.{Deleted, Set}

-- a column with a NULL mark and a value, which is not looked at where the mark says NULL
unfoldable pub cell_with : ℕ → Bool → ℤ → Cell
cell_with c null v = record { column = c; value = cond null None (Some v) }

-- a row that is found, in a table with these folded columns
unfoldable pub found_row : ℕ → Cell → Row → Bool
found_row folded sought = is_found folded sought.column (is_none sought.value) (unwrap_or sought.value 𝟘)

-- a row, live or not, whose column c is NULL
unfoldable pub null_in : ℕ → Row → Bool
null_in c row = null_at row c

-- a live row whose column c is NULL
unfoldable pub has_null : ℕ → Row → Bool
has_null c row = live row && null_in c row

-- a live row that has what is sought
unfoldable pub has : Sought → Row → Bool
has (Null c) = has_null c
has (Key key) = has_sought key

-- a row that is found by what its table is searched by
unfoldable pub found_by : Seeking → Row → Bool
found_by x = has x.sought

-- row j of table t is one
unfoldable pub found_at : Seeking → ℕ → Tables → ℕ → Bool
found_at x t tabs j = found_by x (row_at t j tabs)

-- a value as a key of one column, in a table with these folded columns
unfoldable pub value_key : ℕ → ℕ → ℤ → SoughtKey
value_key mask c v =
    record {
      n = 1;
      folded = one (bit c mask);
      cs = c ∷ replicate 7 0;
      vs = folded (bit c mask) v ∷ replicate 7 𝟘;
    }

-- what is sought is in rows of w words: a column, or a key of one column
abbrev pub HasColumn : ℕ → Sought → Type 0
HasColumn w (Null c) = suc c < w
HasColumn w (Key key) = (key.n ≡ 1) × SoughtIn w key

-- rows can be searched by it
pub record Seekable (x : Seeking) : Type 0 where
  pub column : HasColumn x.rows.width x.sought

-- its rows are those of table t
pub record Seeks (b : List ℕ) (t : ℕ) (x : Seeking) : Type 0 where
  pub table : t < length (schema_of b).tables
  pub stand : RowsOf b t x.rows
  pub seekable : Seekable x

-- it finds the rows that hold what is sought
pub record SeekingOf (b : List ℕ) (t : ℕ) (sought : Cell) (x : Seeking) : Type 0 where
  pub seeks : Seeks b t x
  pub same : (row : Row) → found_by x row ≡ found_row (table_of (schema_of b) t).folded sought row

-- the image that a row of so many columns is given
unfoldable pub given_image : ℕ → Given → Row → Row
given_image columns Deleted x = deleted_image
given_image columns (Set cell) x = row_set columns cell.column (is_none cell.value) (unwrap_or cell.value 𝟘) x

-- a column that is set is one of so many
unfoldable pub sets_in : ℕ → Given → Bool
sets_in columns Deleted = true
sets_in columns (Set cell) = ltb cell.column columns

-- the row changes of a statement for the rows of table t that are found
unfoldable pub found_changes : Schema → ℕ → Cell → Given → Work → Result
found_changes s t sought given = rows_found s t (found_row (table_of s t).folded sought) (given_image (table_of s t).columns given)

-- the same, by what the table is searched by
unfoldable pub changes_by : Schema → ℕ → Seeking → Given → Work → Result
changes_by s t x given = rows_found s t (found_by x) (given_image (table_of s t).columns given)

-- what such a statement requires: a table, its column that is searched, and the one that is set
pub record Search (s : Schema) (t : ℕ) (sought : Cell) (given : Given) : Type 0 where
  pub table : t < length s.tables
  pub column : sought.column < (table_of s t).columns
  pub set : sets_in (table_of s t).columns given ≡ true
