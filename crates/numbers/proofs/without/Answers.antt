use mathlib.Core.Path.{◌≡◌, refl}
use mathlib.Core.Bool.{not, ◌&&◌}
use Prim.Native.Nat.{ℕ, zero, suc, ◌-◌, ◌^◌, ◌<◌, min}
use native.Mathlib.Omega.{arith}
use lib.Dec.{eqb}
use lib.Bits.{bit_and}
use mir.Syntax.{w64}
use Rattle.std.specs.Int.{bit_at, bit_not}
use Rattle.std.proofs.lemmas.Nat.{and_le_r}
use Rattle.std.proofs.lemmas.Nat.Bits.{bit_at_and, bit_at_not, bit_at_ones, bit_at-lt}
use Rattle.schema.specs.Bytes.{bit}
use Rattle.numbers.proofs.without.Goals as goal

-- a bit of a mask that another has not, as it is worked out with the ones of a third
left_bit : (a b : ℕ) → a < 2 → b < 2 → eqb (min (min a (1 - b)) 1) 1 ≡ eqb a 1 && not (eqb b 1)
left_bit zero zero h k = refl
left_bit zero (suc zero) h k = refl
left_bit (suc zero) zero h k = refl
left_bit (suc zero) (suc zero) h k = refl
left_bit (suc (suc a)) b h k = absurd (omega arith)
left_bit a (suc (suc b)) h k = absurd (omega arith)

left_at : (m q k : ℕ) → q < 2 ^ 64 → k < 32 → bit k (bit_and (bit_and m (bit_not w64 q)) (2 ^ 32 - 1)) ≡ bit k m && not (bit k q)
unfolding bit
left_at m q k h l =
    let i : k < 64 = omega arith in
    rw (bit_at_and (bit_and m (bit_not w64 q)) (2 ^ 32 - 1) k, bit_at_and m (bit_not w64 q) k, bit_at_not w64 q k h i, bit_at_ones 32 k l)
    (left_bit (bit_at m k) (bit_at q k) (bit_at-lt m k) (bit_at-lt q k))

pub returns : goal.returns
returns c = record {
  below = omega (arith, and_le_r (bit_and c.args.m (bit_not w64 c.args.q)) (2 ^ 32 - 1));
  each = λ k l. left_at c.args.m c.args.q k c.ranges.q.fits l;
}
