use mathlib.Core.Path.{◌≡◌}
use Prim.Native.Nat.{◌+◌, ◌≤◌}
use lib.ListN.{drop}
use Rattle.rules.specs.Lists.{count}
use Rattle.orphans.proofs.OrphanLaws.{child_rows, is_alone}
use Rattle.orphans.proofs.count_orphans.Given as goal

abbrev pub invariant-loop-j : goal.invariant-loop-j
invariant-loop-j l =
    (l.m ≤ l.j) × (l.m + count (is_alone l.schema.bytes l.area l.k) (drop l.j (child_rows l.schema.bytes l.area l.k)) ≡ count (is_alone l.schema.bytes l.area l.k) (child_rows l.schema.bytes l.area l.k))
