use mathlib.Core.Path.{◌≡◌}
use mathlib.Core.Bool.{false}
use mathlib.Core.List.{[]}
use Prim.Native.Nat.{ℕ, ◌-◌, ◌<◌, ◌≤◌}
use lib.ListN.{get_or}
use Rattle.rows.specs.Standing.{rows_in}
use Rattle.windows.specs.Days.{is_on}
use Rattle.windows.proofs.first_on.Given as goal

-- no row from the first on, below row j, is one
abbrev pub invariant-loop-i : goal.invariant-loop-i
invariant-loop-i l =
    (l.from ≤ l.j) × (l.j ≤ l.table.count) × ((m : ℕ) → l.from ≤ m → m < l.j → is_on l.sought.key l.sought.days (get_or (rows_in l.area l.table) m []) ≡ false)

abbrev pub decreases-loop-i : goal.decreases-loop-i
decreases-loop-i l = l.table.count - l.j
