use mathlib.Core.Path.{◌≡◌}
use Prim.Native.Nat.{◌+◌, ◌*◌, ◌≤◌}
use Rattle.schema.specs.Fields.{schema_of}
use Rattle.rules.specs.DeleteBound.{area_bound}
use Rattle.delete_bound.proofs.TableBounds.{tables_left}
use Rattle.delete_bound.proofs.area_bound.Given as goal

abbrev pub invariant-loop-t : goal.invariant-loop-t
invariant-loop-t l = (l.bound ≤ l.t * 9216) × (l.bound + tables_left l.schema.bytes l.area l.t ≡ area_bound (schema_of l.schema.bytes) l.area)
