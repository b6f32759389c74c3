use mathlib.Core.Path.{◌≡◌}
use Prim.Native.Nat.{◌-◌}
use lib.ListN.{length}
use Rattle.runs.specs.Runs.{ReachedIf}
use Rattle.runs.proofs.RunLaws.{run_from}
use Rattle.runs.proofs.run.Given as goal

abbrev pub invariant-loop-i : goal.invariant-loop-i
invariant-loop-i l =
    (length l.area ≡ length l.initial.area)
    × (length l.answers ≡ length l.initial.answers)
    × (run_from l.schema l.calls l.n 0 (l.initial.area, l.initial.answers) ≡ run_from l.schema l.calls (l.n - l.i) l.i (l.area, l.answers))
    × ReachedIf l.reached l.schema l.area
