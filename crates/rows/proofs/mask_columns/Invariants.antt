use mathlib.Core.Path.{◌≡◌}
use mathlib.Core.List.{◌++◌}
use Prim.Native.Nat.{◌-◌, ◌≤◌}
use lib.ListN.{length, take}
use Rattle.rules.specs.Keys.{mask_columns, mask_columns_from}
use Rattle.rows.proofs.mask_columns.Given as goal

abbrev pub invariant-loop-i : goal.invariant-loop-i
invariant-loop-i l = (l.n ≤ l.i) × ((length l.list ≡ 8) × (mask_columns l.m ≡ take l.n l.list ++ mask_columns_from l.m l.i (8 - l.i)))
