-- The columns of a foreign key with a window, and what its rows are searched by.
-- Assumes nothing.
use Rattle.std.specs.Prelude.{◌≡◌, Bool, cond, not, ◌&&◌, List, [], ◌∷◌, ◌++◌, ℕ, suc, ◌<◌, ℤ, length, take}
use Rattle.std.specs.Int.Signed.{lt_z, le_z}
use Rattle.schema.specs.Bounds.{Columns}
use Rattle.schema.specs.Records.{Window, table_of, key_of}
use Rattle.schema.specs.Fields.{schema_of}
use Rattle.rules.specs.Rows.{Row, live}
use Rattle.rules.specs.Keys.{same_key, full_key, first_day, end_day, is_within, in_window, same_window}
use Rattle.rules.specs.Rows.{value_at}
use Rattle.rows.specs.KeyColumns.{folds_in, WholeKey, KeyColumns}
use Rattle.windows.specs.declared.Interval.{Interval}
use Rattle.windows.specs.declared.Days.{Days}
use Rattle.windows.specs.declared.Days.TheVariants.{Within, Holding, Sharing}
use Rattle.windows.specs.declared.WindowKey.{WindowKey}

-- foreign key k of an accepted schema is not broken and has a window
pub record WindowedKey (b : List ℕ) (k : ℕ) : Type 0 where
  pub whole_key : WholeKey b k
  pub windowed : length (key_of (schema_of b) k).windows ≡ 1

abbrev pub window_of : WindowKey → Window
window_of x = record { day = x.day; first = x.first }

-- its columns
pub record WindowColumns (b : List ℕ) (k : ℕ) (x : WindowKey) : Type 0 where
  pub columns : KeyColumns b k x.pairs
  pub window_is : (key_of (schema_of b) k).windows ≡ window_of x ∷ []
  pub day_column_within : x.day < (table_of (schema_of b) (key_of (schema_of b) k).child).columns
  pub end_within : suc x.first < (table_of (schema_of b) (key_of (schema_of b) k).parent).columns

-- they are columns of images
pub record WindowIn (x : WindowKey) : Type 0 where
  pub child : Columns 9 x.pairs.n x.pairs.cs
  pub parent : Columns 9 x.pairs.n x.pairs.ps
  pub some : x.pairs.n < 8
  pub day : x.day < 8
  pub end : suc x.first < 8

-- ---- what the days of rows are sought for

-- a parent row's window
abbrev pub days_of : WindowKey → Row → Interval
days_of x parent = record { first = first_day (window_of x) parent; end = end_day (window_of x) parent }

-- child rows that map to a parent row: their day is in its window
unfoldable pub child_days : Row → WindowKey → Days
child_days parent x = Within x.day (days_of x parent)

-- parent rows that a child row maps to: their window holds its day
unfoldable pub parent_days : Row → WindowKey → Days
parent_days child x = Holding x.first (value_at child x.day)

-- parent rows whose window shares a day with a parent row's
unfoldable pub clash_days : Row → WindowKey → Days
clash_days parent x = Sharing x.first (days_of x parent)

-- ---- keys of images, by the columns

unfoldable pub pair_folds : WindowKey → List Bool
pair_folds x = folds_in x.pairs.n x.pairs.folded

unfoldable pub child_pairs : WindowKey → List ℕ
child_pairs x = take x.pairs.n x.pairs.cs

unfoldable pub parent_pairs : WindowKey → List ℕ
parent_pairs x = take x.pairs.n x.pairs.ps

-- the whole child key, the whole parent key
unfoldable pub child_all : WindowKey → List ℕ
child_all x = child_pairs x ++ (x.day ∷ [])

unfoldable pub parent_all : WindowKey → List ℕ
parent_all x = (parent_pairs x ++ (x.first ∷ [])) ++ (suc x.first ∷ [])

-- the old parent key has no NULL and is not the new one
unfoldable pub key_changes : WindowKey → Row → Row → Bool
key_changes x old new =
    full_key (parent_all x) old
    && not ((live new && same_key (pair_folds x) (parent_pairs x) (parent_pairs x) new old) && same_window new old (window_of x))

-- the parent row serves the child row
unfoldable pub serves_by : WindowKey → Row → Row → Bool
serves_by x child parent = live parent && (same_key (pair_folds x) (child_pairs x) (parent_pairs x) child parent && in_window child parent (window_of x))

-- ---- days that a parent row leaves behind

-- its pairs stay, and its window has no NULL then
unfoldable pub keeps_pairs : WindowKey → Row → Row → Bool
keeps_pairs x old new = full_key (parent_all x) new && same_key (pair_folds x) (parent_pairs x) (parent_pairs x) new old

-- and so does every day of its window
unfoldable pub keeps_days : WindowKey → Row → Row → Bool
keeps_days x old new =
    keeps_pairs x old new
    && (le_z (first_day (window_of x) new) (first_day (window_of x) old) && le_z (end_day (window_of x) old) (end_day (window_of x) new))

-- the first day of a window, or the end of another one that holds it
unfoldable pub left_first : ℤ → ℤ → ℤ → ℤ
left_first day first end = cond (is_within first end day) end day

-- the end of a window, or the first day of another one that holds all days from there to that end
unfoldable pub left_end : ℤ → ℤ → ℤ → ℤ
left_end stop first end = cond (lt_z first stop && le_z stop end) first stop

-- its days but for those at either end that another one holds
abbrev pub cut : Interval → Interval → Interval
cut x y = record { first = left_first x.first y.first y.end; end = left_end x.end y.first y.end }

-- child rows that map to it before and may not map to it then: the days at either end of its window that it keeps are left out
unfoldable pub left_days : Row → Row → WindowKey → Days
left_days old new x = cond (keeps_pairs x old new) (Within x.day (cut (days_of x old) (days_of x new))) (child_days old x)
