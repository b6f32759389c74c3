use mathlib.Core.Path.{◌≡◌}
use Prim.Native.Nat.{◌+◌, ◌*◌, ◌≤◌}
use Rattle.delete_bound.proofs.TableBounds.{rows_left}
use Rattle.delete_bound.proofs.rows_bound.Given as goal

abbrev pub invariant-loop-j : goal.invariant-loop-j
invariant-loop-j l = (l.bound ≤ l.j * 9) × (l.bound + rows_left l.schema.bytes l.area l.t l.j ≡ rows_left l.schema.bytes l.area l.t 0)
