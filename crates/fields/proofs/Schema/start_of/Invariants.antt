use mathlib.Core.Path.{◌≡◌}
use Prim.Native.Nat.{◌+◌, ◌*◌, ◌≤◌}
use Rattle.schema.specs.Fields.{schema_of}
use Rattle.schema.specs.Sizes.{table_offset}
use Rattle.fields.proofs.Schema.start_of.Given as goal

abbrev pub invariant-loop-i : goal.invariant-loop-i
invariant-loop-i l = (l.at ≡ table_offset (schema_of l.self.bytes) l.i) × (l.at ≤ 333 + 9216 * l.i)
