-- Signed numbers of small magnitude, and the bits that hold them. Assumes nothing.
use mathlib.Core.Path.{◌≡◌}
use Prim.Native.Nat.{ℕ, ◌+◌, ◌^◌, ◌<◌, ◌≤◌}
use native.Mathlib.Omega.{arith}
use lib.IntN.{ℤ, pos, negsuc, nat_abs, ◌+ℤ◌, ◌-ℤ◌}
use Rattle.std.proofs.lemmas.Int.{ints}
use mir.Syntax.{w64}
use mir.Val.{SFits, to_z, of_z}
use mir.ValLaws.{to_z-of_z}

-- the magnitude of a sum is at most the sum of the magnitudes
pub abs_add : (a b : ℤ) → nat_abs (a +ℤ b) ≤ nat_abs a + nat_abs b
abs_add a b = omega (arith, ints)

-- and so is that of a difference
pub abs_less : (a b : ℤ) → nat_abs (a -ℤ b) ≤ nat_abs a + nat_abs b
abs_less a b = omega (arith, ints)

-- two numbers from 0 to k differ by at most k
pub abs_between : (m n k : ℕ) → m ≤ k → n ≤ k → nat_abs (pos m -ℤ pos n) ≤ k
abs_between m n k h l = omega (arith, ints)

-- a magnitude below 2 ^ 63 fits
pub fits_abs : (z : ℤ) → nat_abs z < 2 ^ 63 → SFits w64 z
fits_abs (pos n) h = record { sfits = h }
fits_abs (negsuc n) h = record { sfits = omega arith }

-- a number is its bits' number, and so are the sum and the difference of two small ones
back : (z : ℤ) → nat_abs z < 2 ^ 63 → to_z w64 (of_z w64 z) ≡ z
back z h = to_z-of_z w64 z (fits_abs z h)

module _ (x y : ℤ) (h : nat_abs x ≤ 4096) (k : nat_abs y ≤ 4096) where
  pub sum_back : to_z w64 (of_z w64 (to_z w64 (of_z w64 x) +ℤ to_z w64 (of_z w64 y))) ≡ x +ℤ y
  sum_back = rw (back x (omega arith), back y (omega arith)) (back (x +ℤ y) (omega (arith, ints)))

  pub difference_back : to_z w64 (of_z w64 (to_z w64 (of_z w64 x) -ℤ to_z w64 (of_z w64 y))) ≡ x -ℤ y
  difference_back = rw (back x (omega arith), back y (omega arith)) (back (x -ℤ y) (omega (arith, ints)))
