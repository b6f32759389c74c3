use mathlib.Core.Path.{◌≡◌}
use Prim.Native.Nat.{◌+◌, ◌*◌, ◌≤◌}
use lib.ListN.{drop}
use Rattle.schema.specs.Fields.{schema_of}
use Rattle.rules.specs.OrphanList.{orphan_total}
use Rattle.orphan_plan.proofs.PlanLaws.{tables_in}
use Rattle.orphan_plan.proofs.orphan_total.Given as goal

abbrev pub invariant-loop-k : goal.invariant-loop-k
invariant-loop-k l = (l.total ≤ l.k * 1024) × (l.total + orphan_total (drop l.k (schema_of l.schema.bytes).keys) (tables_in l.schema.bytes l.area) ≡ orphan_total (schema_of l.schema.bytes).keys (tables_in l.schema.bytes l.area))
