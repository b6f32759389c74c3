use mathlib.Core.Path.{◌≡◌}
use Prim.Native.Nat.{◌+◌, ◌-◌, ◌≤◌}
use lib.ListN.{drop}
use Rattle.rules.specs.Lists.{count}
use Rattle.rows.specs.Standing.{rows_in}
use Rattle.rows.specs.Sought.{has_sought}
use Rattle.scans.proofs.count_with_key.Given as goal

-- m of the rows below row `from` have the key
abbrev pub invariant-loop-j : goal.invariant-loop-j
invariant-loop-j l =
    (l.from ≤ l.table.count) × (l.m ≤ l.from) × (l.m + count (has_sought l.key) (drop l.from (rows_in l.area l.table)) ≡ count (has_sought l.key) (rows_in l.area l.table))

abbrev pub decreases-loop-j : goal.decreases-loop-j
decreases-loop-j l = l.table.count - l.from
