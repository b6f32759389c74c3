-- The columns of a mask that are not NULL: counted one by one they are as many as the ones of what the state leaves of the mask.
-- Assumes nothing.
use mathlib.Core.Path.{◌≡◌, refl, sym, ap, ap₂, ◌∙◌}
use mathlib.Core.Bool.{Bool, not, ◌&&◌}
use Prim.Native.Nat.{ℕ, zero, suc, ◌+◌, ◌-◌, ◌/◌, ◌%◌, ◌^◌, ◌<◌, min}
use native.Mathlib.Nat.{pow-suc}
use native.Mathlib.Omega.{arith}
use lib.Bits.{bit_and, and_step, and_le_l}
use lib.Count.{ones, ones_step}
use lib.Dec.{eqb}
use Rattle.schema.specs.Bytes.{bit}
use Rattle.schema.proofs.MaskLaws.{bit_suc, bit_zero, no_ones}
use Rattle.rules.specs.Lists.{count, one, up_from}
use Rattle.bridge.proofs.CountLaws.{count_cons}
use Rattle.delete_bound.specs.StateBound.{not_null_of}

-- tests that agree on the numbers below i + n
pub count_same : (p q : ℕ → Bool) (i n : ℕ) → ((c : ℕ) → c < i + n → p c ≡ q c) → count p (up_from i n) ≡ count q (up_from i n)
unfolding up_from count
count_same p q i zero h = refl
count_same p q i (suc n) h =
    count_cons p i (up_from (suc i) n)
    ∙ ap₂ (λ (b : Bool) (k : ℕ). one b + k) (h i (omega arith)) (count_same p q (suc i) n (λ c l. h c (omega arith)))
    ∙ sym (count_cons q i (up_from (suc i) n))

-- numbers that are one higher
count_raised : (p : ℕ → Bool) (i n : ℕ) → count p (up_from (suc i) n) ≡ count (λ c. p (suc c)) (up_from i n)
unfolding up_from count
count_raised p i zero = refl
count_raised p i (suc n) =
    count_cons p (suc i) (up_from (suc (suc i)) n)
    ∙ ap (λ (k : ℕ). one (p (suc i)) + k) (count_raised p (suc i) n)
    ∙ sym (count_cons (λ c. p (suc c)) i (up_from (suc i) n))

-- a mask's lowest digit a, where the state has b
digit_left : (a b : ℕ) → a < 2 → b < 2 → a - min a b ≡ one (not (eqb b 1) && eqb a 1)
unfolding one
digit_left zero zero h l = refl
digit_left zero (suc zero) h l = refl
digit_left (suc zero) zero h l = refl
digit_left (suc zero) (suc zero) h l = refl
digit_left zero (suc (suc b)) h l = absurd (omega arith)
digit_left (suc zero) (suc (suc b)) h l = absurd (omega arith)
digit_left (suc (suc a)) b h l = absurd (omega arith)

module _ (m s : ℕ) where
  -- what the state leaves of the mask, digit by digit
  left_half : (m - bit_and m s) / 2 ≡ m / 2 - bit_and (m / 2) (s / 2)
  left_half = omega (arith, and_step m s, and_le_l (m / 2) (s / 2))

  left_digit : (m - bit_and m s) % 2 ≡ one (not (bit 0 s) && bit 0 m)
  left_digit =
      let e : (m - bit_and m s) % 2 ≡ m % 2 - min (m % 2) (s % 2) = omega (arith, and_step m s, and_le_l (m / 2) (s / 2)) in
      e ∙ digit_left (m % 2) (s % 2) (omega arith) (omega arith) ∙ ap₂ (λ (x y : Bool). one (not x && y)) (sym (bit_zero s)) (sym (bit_zero m))

pub ones_left : (n m s : ℕ) → m < 2 ^ n → ones (m - bit_and m s) ≡ not_null_of n m s
unfolding not_null_of up_from count
ones_left zero m s h = let e : m ≡ 0 = omega arith in rw e no_ones
ones_left (suc n) m s h =
    let p : ℕ → Bool = λ c. not (bit c s) && bit c m in
    let rest : ones ((m - bit_and m s) / 2) ≡ count p (up_from 1 n) =
    ap ones (left_half m s)
    ∙ ones_left n (m / 2) (s / 2) (omega (arith, pow-suc 2 n))
    ∙ count_same _ _ 0 n (λ c l. ap₂ (λ (x y : Bool). not x && y) (sym (bit_suc c s)) (sym (bit_suc c m)))
    ∙ sym (count_raised p 0 n) in
    omega (arith, ones_step (m - bit_and m s), left_digit m s, rest, count_cons p 0 (up_from 1 n))
