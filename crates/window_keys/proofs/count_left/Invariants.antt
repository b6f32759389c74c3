use mathlib.Core.Path.{◌≡◌}
use mathlib.Core.Bool.{Bool}
use mathlib.Core.List.{List, []}
use Prim.Native.Nat.{ℕ, ◌+◌, ◌-◌, ◌≤◌}
use lib.IntN.{ℤ}
use lib.ListN.{get_or, drop}
use Rattle.schema.specs.Records.{key_of}
use Rattle.schema.specs.Fields.{schema_of}
use Rattle.rules.specs.Lists.{count, except}
use Rattle.rules.specs.Rows.{Row}
use Rattle.bridge.specs.Fit.{work_of}
use Rattle.rows.specs.declared.SoughtKey.{SoughtKey}
use Rattle.rows.specs.Standing.{rows_in}
use Rattle.windows.specs.declared.Days.{Days}
use Rattle.windows.specs.Days.{is_on}
use Rattle.window_keys.proofs.LeftLaws.{left_row}
use Rattle.window_keys.proofs.count_left.Given as goal

-- the parent rows but row r
abbrev pub others_of : List ℕ → List ℤ → ℕ → ℕ → List Row
others_of schema area k r = except r (get_or (work_of (schema_of schema) area).tabs (key_of (schema_of schema) k).parent [])

-- a row that is found and left
abbrev pub left_found_row : List ℕ → List ℤ → ℕ → ℕ → Bool → Row → SoughtKey → Days → Row → Bool
left_found_row schema area k r clear y sought days = left_row (is_on sought days) clear (key_of (schema_of schema) k) y (others_of schema area k r)

-- m of the rows below row j are found and left
abbrev pub invariant-loop-i : goal.invariant-loop-i
invariant-loop-i l =
    (l.j ≤ l.children.count) × (l.m ≤ l.j)
    × (l.m + count (left_found_row l.schema.bytes l.area l.k l.turn.r l.turn.clear l.turn.new l.sought.key l.sought.days) (drop l.j (rows_in l.area l.children)) ≡ count (left_found_row l.schema.bytes l.area l.k l.turn.r l.turn.clear l.turn.new l.sought.key l.sought.days) (rows_in l.area l.children))

abbrev pub decreases-loop-i : goal.decreases-loop-i
decreases-loop-i l = l.children.count - l.j
