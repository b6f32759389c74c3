use mathlib.Core.Path.{◌≡◌}
use Prim.Native.Nat.{◌-◌}
use lib.ListN.{length}
use Rattle.schema.specs.Fields.{schema_of}
use Rattle.orphans.specs.KeyRows.{Searched}
use Rattle.orphan_scan.specs.Scan.{orphans_left}
use Rattle.orphan_scan.proofs.next_orphan.Given as goal

abbrev pub invariant-loop-row : goal.invariant-loop-row
invariant-loop-row l =
    Searched l.schema.bytes l.k l.key × (orphans_left l.schema.bytes l.area l.initial.k l.initial.from ≡ orphans_left l.schema.bytes l.area l.k l.from)

abbrev pub decreases-loop-row : goal.decreases-loop-row
decreases-loop-row l = length (schema_of l.schema.bytes).keys - l.k
