-- A signed local holds bits: what a test or a cast of it says of the word itself. Assumes nothing.
use mathlib.Core.Path.{◌≡◌, refl, subst}
use mathlib.Core.Bool.{true, false, ◌&&◌}
use Rattle.std.specs.Int.{int_max}
use Prim.Native.Nat.{ℕ, zero, suc, ◌^◌, ◌<◌}
use native.Mathlib.Omega.{arith}
use lib.IntN.{ℤ, pos, negsuc, nat_abs}
use lib.Dec.{T, leb, leb-zero}
use lib.Signed.{lt_z, le_z, non_neg, mag}
use mir.Syntax.{w64}
use mir.Val.{Fits, SFits, to_z, of_z}
use mir.ValLaws.{to_z-of_z}
use borrow.Author.Tests.{lt-ltb}
use Rattle.rules.specs.Values.{nat_of, natural, in_range}

-- a word that was read, through the local that holds its bits
pub back : (z : ℤ) → mag z < 2 ^ 63 → to_z w64 (of_z w64 z) ≡ z
back z h = to_z-of_z w64 z (record { sfits = h })

pub true_false : true ≡ false → ⊥
true_false e = subst T e tt

nonneg' : (z : ℤ) → SFits w64 z → lt_z z (pos 0) ≡ false → T (non_neg z) × Fits w64 (nat_abs z)
nonneg' (pos n) f e = (tt, omega arith)
nonneg' (negsuc n) f e = absurd (true_false e)

-- the cast of a word that is not negative is defined
pub nonneg : (z : ℤ) → SFits w64 z → lt_z (to_z w64 (of_z w64 z)) (pos 0) ≡ false → T (non_neg (to_z w64 (of_z w64 z))) × Fits w64 (nat_abs (to_z w64 (of_z w64 z)))
nonneg z f e = rw (to_z-of_z w64 z f) (nonneg' z f (rw (to_z-of_z w64 z f) at e))

-- the greater of a word and 0 is the word's number
pub max_nat : (z : ℤ) → int_max z (pos 0) ≡ pos (nat_of z)
unfolding nat_of
max_nat (pos zero) = refl
max_nat (pos (suc n)) = rw (lt-ltb 0 (suc n) (omega arith)) refl
max_nat (negsuc n) = refl

natural' : (z : ℤ) → le_z (pos 0) z ≡ natural z
unfolding natural
natural' (pos n) = leb-zero n
natural' (negsuc n) = refl

-- what x reads back as is not negative
pub natural_is : (z : ℤ) → SFits w64 z → le_z (pos 0) (to_z w64 (of_z w64 z)) ≡ natural z
natural_is z f = rw (to_z-of_z w64 z f) (natural' z)

-- a number from 0 to n
pub in_range_is : (n : ℕ) (z : ℤ) → natural z && leb (nat_of z) n ≡ in_range n z
unfolding natural nat_of in_range
in_range_is n (pos m) = refl
in_range_is n (negsuc m) = refl
