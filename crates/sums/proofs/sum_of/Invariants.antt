use mathlib.Core.Path.{◌≡◌}
use Prim.Native.Nat.{◌*◌, ◌≤◌}
use lib.IntN.{nat_abs, ◌+ℤ◌}
use lib.ListN.{drop}
use Rattle.rules.specs.Lists.{sum}
use Rattle.sums.proofs.sum_of.Given as goal

abbrev pub invariant-loop-number : goal.invariant-loop-number
invariant-loop-number l = (nat_abs l.sum ≤ l.number-index * 4096) × (l.sum +ℤ sum (drop l.number-index l.fn.numbers) ≡ sum l.fn.numbers)
