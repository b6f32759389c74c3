use mathlib.Core.Path.{◌≡◌}
use Prim.Native.Nat.{◌+◌, ◌-◌, ◌*◌, ◌≤◌}
use lib.ListN.{length, drop}
use Rattle.schema.specs.Fields.{schema_of}
use Rattle.schema.specs.Records.{table_of, key_of}
use Rattle.rules.specs.Lists.{up_from}
use Rattle.rules.specs.Change.{actions, change}
use Rattle.rules.specs.KeyValues.{children_by_values}
use Rattle.bridge.specs.Fit.{work_of}
use Rattle.moves.specs.Tally.{Follows}
use Rattle.rows.specs.Sought.{sought_values}
use Rattle.changes.proofs.+row_changes.Given as goal

abbrev pub decreases-key_turn : goal.decreases-key_turn
decreases-key_turn l = 5 * l.left + 3

abbrev pub decreases-key_walk : goal.decreases-key_walk
decreases-key_walk l = 5 * l.left + 4

abbrev pub decreases-row_change : goal.decreases-row_change
decreases-row_change l = 5 * l.left

abbrev pub decreases-row_turn : goal.decreases-row_turn
decreases-row_turn l = 5 * l.left + 1

abbrev pub decreases-row_walk : goal.decreases-row_walk
decreases-row_walk l = 5 * l.left + 2

abbrev pub invariant-key_walk-loop-k : goal.invariant-key_walk-loop-k
invariant-key_walk-loop-k l = (l.k ≤ l.k-end) × ((length l.area ≡ length l.initial.area) × (Follows (schema_of l.schema.bytes) l.initial.tally l.initial.area l.tally l.area × (actions (change l.left (schema_of l.schema.bytes)) (schema_of l.schema.bytes) l.new l.t l.old (schema_of l.schema.bytes).keys (work_of (schema_of l.schema.bytes) l.initial.area) ≡ actions (change l.left (schema_of l.schema.bytes)) (schema_of l.schema.bytes) l.new l.t l.old (drop l.k (schema_of l.schema.bytes).keys) (work_of (schema_of l.schema.bytes) l.area))))

abbrev pub invariant-row_walk-loop-i : goal.invariant-row_walk-loop-i
invariant-row_walk-loop-i l = (l.j ≤ l.f.rows.count) × ((length l.area ≡ length l.initial.area) × (Follows (schema_of l.schema.bytes) l.initial.tally l.initial.area l.tally l.area × (children_by_values (change l.left (schema_of l.schema.bytes)) (schema_of l.schema.bytes) l.new (key_of (schema_of l.schema.bytes) l.k) (sought_values l.f.key) (up_from 0 (table_of (schema_of l.schema.bytes) (key_of (schema_of l.schema.bytes) l.k).child).rows) (work_of (schema_of l.schema.bytes) l.initial.area) ≡ children_by_values (change l.left (schema_of l.schema.bytes)) (schema_of l.schema.bytes) l.new (key_of (schema_of l.schema.bytes) l.k) (sought_values l.f.key) (up_from l.j (l.f.rows.count - l.j)) (work_of (schema_of l.schema.bytes) l.area))))

abbrev pub decreases-row_walk-loop-i : goal.decreases-row_walk-loop-i
decreases-row_walk-loop-i l = l.f.rows.count - l.j
