use Prim.Native.Nat.{◌-◌}
use Rattle.skips.specs.Skipped.{Skipped}
use Rattle.skips.proofs.skip.Given as goal

abbrev pub invariant-loop-j : goal.invariant-loop-j
invariant-loop-j g l = Skipped (g.T.RowTest.accepts l.test) l.area l.table l.from l.j

abbrev pub decreases-loop-j : goal.decreases-loop-j
decreases-loop-j g l = l.table.count - l.j
