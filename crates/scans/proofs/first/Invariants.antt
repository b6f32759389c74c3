use mathlib.Core.Path.{◌≡◌}
use mathlib.Core.Bool.{false}
use mathlib.Core.List.{[]}
use Prim.Native.Nat.{ℕ, ◌-◌, ◌<◌, ◌≤◌}
use lib.ListN.{get_or}
use Rattle.rows.specs.Standing.{rows_in}
use Rattle.skips.specs.Skipped.{both}
use Rattle.scans.proofs.first.Given as goal

-- no row from the first on, below row j, passes
abbrev pub invariant-loop-j : goal.invariant-loop-j
invariant-loop-j g l = (l.from ≤ l.j) × ((i : ℕ) → l.from ≤ i → i < l.j → both (g.L.RowTest.accepts l.look) (g.T.RowTest.accepts l.test) (get_or (rows_in l.area l.table) i []) ≡ false)

abbrev pub decreases-loop-j : goal.decreases-loop-j
decreases-loop-j g l = l.table.count - l.j
