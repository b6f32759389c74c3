use mathlib.Core.Path.{◌≡◌}
use lib.ListN.{length, drop}
use Rattle.schema.specs.Records.{table_of}
use Rattle.schema.specs.Fields.{schema_of}
use Rattle.rules.specs.Change.{refilled}
use Rattle.images.proofs.AlikeLaws.{Alike}
use Rattle.images.proofs.refilled.Given as goal

abbrev pub invariant-loop-i : goal.invariant-loop-i
invariant-loop-i l =
    (length l.x ≡ 9)
    × Alike (refilled l.action (table_of (schema_of l.schema.bytes) l.t) l.new (drop l.i l.cs) (drop l.i l.ps) l.x) (refilled l.action (table_of (schema_of l.schema.bytes) l.t) l.new l.cs l.ps l.initial.x)
