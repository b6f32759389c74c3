use mathlib.Core.Path.{◌≡◌}
use Prim.Native.Nat.{◌≤◌}
use lib.IntN.{pos}
use lib.ListN.{get_or}
use Rattle.rules.specs.Values.{nat_of}
use Rattle.rules.specs.State.{uses_rise}
use Rattle.area_form.specs.Damage.{lowest_levels}
use Rattle.area_form.proofs.uses_rise.Given as goal

abbrev pub invariant-loop-i : goal.invariant-loop-i
invariant-loop-i l = (l.i ≤ 9) × (uses_rise (nat_of (get_or l.area 2 (pos 0))) (lowest_levels (nat_of (get_or l.area 0 (pos 0))) l.area) ≡ uses_rise l.above (lowest_levels l.i l.area))
