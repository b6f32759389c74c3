-- Rows that are searched by a key and by days.
-- Assumes nothing.
use Rattle.std.specs.Prelude.{Bool, not, ◌&&◌, ℕ, suc, ◌<◌, ◌≤◌, ℤ, length}
use Rattle.rules.specs.Rows.{Row, null_at, value_at}
use Rattle.rules.specs.Keys.{is_within, shares_day}
use Rattle.rows.specs.declared.SoughtKey.{SoughtKey}
use Rattle.rows.specs.Sought.{has_sought, SoughtIn}
use Rattle.windows.specs.declared.Interval.{Interval}
use Rattle.windows.specs.declared.Days.{Days}
use Rattle.windows.specs.declared.Sought.{Sought}
use Rattle.windows.specs.declared.Days.TheVariants.{Within, Holding, Sharing}

-- a row of at most eight values has a column c
abbrev pub HasColumn : Row → ℕ → Type 0
HasColumn row c = (suc c < length row) × (length row ≤ 9)

-- the window whose first day stands in column c of the row, and whose end in the next
abbrev pub window_in : Row → ℕ → Interval
window_in row c = record { first = value_at row c; end = value_at row (suc c) }

-- the day in column c of the row is in a window
unfoldable pub day_within : ℕ → ℤ → ℤ → Row → Bool
day_within c first end row = not (null_at row c) && is_within first end (value_at row c)

-- the row's window, whose first day stands in column c and whose end in the next, holds a day
unfoldable pub window_holds : ℕ → ℤ → Row → Bool
window_holds c day row = (not (null_at row c) && not (null_at row (suc c))) && is_within (value_at row c) (value_at row (suc c)) day

-- it shares a day with a window
unfoldable pub window_shares : ℕ → ℤ → ℤ → Row → Bool
window_shares c first end row = (not (null_at row c) && not (null_at row (suc c))) && shares_day (value_at row c) (value_at row (suc c)) first end

-- the row's days are as they must be
unfoldable pub meets : Days → Row → Bool
meets (Within c w) row = day_within c w.first w.end row
meets (Holding c day) row = window_holds c day row
meets (Sharing c w) row = window_shares c w.first w.end row

-- the columns of the days are in rows of w words
unfoldable pub DaysIn : ℕ → Days → Type 0
DaysIn w (Within c window) = suc c < w
DaysIn w (Holding c day) = suc (suc c) < w
DaysIn w (Sharing c window) = suc (suc c) < w

-- a live row that has a sought key, and whose days are as they must be
unfoldable pub is_on : SoughtKey → Days → Row → Bool
is_on key days row = has_sought key row && meets days row

-- what a search in rows of w words takes: the key has a column, and its columns and those of the days are in them
abbrev pub SearchedIn : ℕ → Sought → Type 0
SearchedIn w x = ((1 ≤ x.key.n) × SoughtIn w x.key) × DaysIn w x.days
