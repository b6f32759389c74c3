use mathlib.Core.Path.{◌≡◌}
use mathlib.Core.List.{◌++◌}
use Prim.Native.Nat.{◌+◌}
use lib.ListN.{length, take, drop}
use Rattle.rules.specs.Rows.{held}
use Rattle.images.proofs.written.Given as goal

abbrev pub invariant-loop-i : goal.invariant-loop-i
invariant-loop-i l =
    (length l.x ≡ 9)
    × (take (0 + 1) l.initial.x ++ held l.mask 0 (drop (0 + 1) l.initial.x) ≡ take (l.i + 1) l.x ++ held l.mask l.i (drop (l.i + 1) l.x))
