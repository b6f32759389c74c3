-- Bits of a mask set and cleared.
-- Assumes nothing.
use mathlib.Core.Path.{◌≡◌, refl, sym, ap, ◌∙◌, subst}
use mathlib.Core.Bool.{Bool, true, false}
use Prim.Native.Nat.{ℕ, ◌+◌, ◌-◌, ◌/◌, ◌%◌, ◌^◌, ◌<◌, ◌≤◌}
use native.Mathlib.Nat.{div-add-mod'}
use native.Mathlib.Omega.{arith}
use mir.Syntax.{w64}
use borrow.Author.Tests.{eqb-true, eqb-false, eq-eqb}
use lib.Bits.{bit_and, or_lt}
use lib.Dec.{eqb}
use lib.Pow.{pow_pos, pow_mono}
use Rattle.std.proofs.Math.Pow.{pow-lt}
use Rattle.std.specs.Int.{bit_at, bit_not}
use Rattle.std.specs.Int.RustNames.{bit_or}
use Rattle.std.proofs.lemmas.Nat.{and_le_l}
use Rattle.std.proofs.lemmas.Nat.Bits.{bit_at-lt, bit_at_or, bit_at_and, bit_at_not, bit_at-pow_same, bit_at-pow_other, bit_at_cat_low, same_from_bits_below}
use Rattle.schema.specs.Bounds.{Within}
use Rattle.schema.specs.Bytes.{bit}
use Rattle.schema.proofs.MaskLaws.{added_same, added_other}
use Rattle.rules.specs.Change.{flag}

-- the power of a column, or of the one behind the last, is from 1 to 256
pub power_within : {x : ℕ} (c : ℕ) → c ≤ 8 → x ≡ 2 ^ c → Within 1 256 x
power_within c h e = rw e (record { low = pow_pos c; high = pow_mono {j = 8} h })

-- the bits of eight columns
pub bit_low : (i m : ℕ) → i < 8 → bit i (m % 256) ≡ bit i m
unfolding bit
bit_low i m h = ap (λ (x : ℕ). eqb x 1) (sym (bit_at_cat_low (m / 256) 8 (m % 256) i h) ∙ ap (λ (n : ℕ). bit_at n i) (div-add-mod' m 256))

-- ---- equal bits

digit : (x y : ℕ) → x < 2 → y < 2 → eqb x 1 ≡ eqb y 1 → x ≡ y
digit x y k l e = by (eqb y 1) refl
  where
    by : (t : Bool) → eqb y 1 ≡ t → x ≡ y
    by true q = eqb-true x 1 (e ∙ q) ∙ sym (eqb-true y 1 q)
    by false q =
        let a : x ≡ 1 → ⊥ = eqb-false x 1 (e ∙ q) in
        let b : y ≡ 1 → ⊥ = eqb-false y 1 q in
        omega arith

-- two masks that have the same bits, bit c and every other
bits_same : (a b c : ℕ) → a < 512 → b < 512 → bit c a ≡ bit c b → ((i : ℕ) → i < 9 → (i ≡ c → ⊥) → bit i a ≡ bit i b) → a ≡ b
unfolding bit
bits_same a b c k l e h = same_from_bits_below 9 a b k l (λ i m. digit (bit_at a i) (bit_at b i) (bit_at-lt a i) (bit_at-lt b i) (at i m (eqb i c) refl))
  where
    at : (i : ℕ) → i < 9 → (t : Bool) → eqb i c ≡ t → eqb (bit_at a i) 1 ≡ eqb (bit_at b i) 1
    at i m true q = subst (λ (j : ℕ). eqb (bit_at a j) 1 ≡ eqb (bit_at b j) 1) (sym (eqb-true i c q)) e
    at i m false q = h i m (eqb-false i c q)

module _ (c m : ℕ) (low : c < 8) (small : m < 256) where
  power_low : 2 ^ c < 256
  power_low = pow-lt {j = 8} low

  -- ---- bit c set

  abbrev with : ℕ
  with = bit_or m (2 ^ c)

  with_low : with < 256
  with_low = or_lt 8 m (2 ^ c) small power_low

  with_same : bit c with ≡ true
  unfolding bit
  with_same = eq-eqb (bit_at with c) 1 (omega (arith, bit_at_or m (2 ^ c) c, bit_at-pow_same c, bit_at-lt m c))

  with_other : (i : ℕ) → (i ≡ c → ⊥) → bit i with ≡ bit i m
  unfolding bit
  with_other i n = ap (λ (x : ℕ). eqb x 1) (let e : bit_at with i ≡ bit_at m i = omega (arith, bit_at_or m (2 ^ c) i, bit_at-pow_other c i n) in e)

  pub flag_set : with ≡ flag c true m
  unfolding flag
  flag_set = by (bit c m) refl
    where
      by : (t : Bool) → bit c m ≡ t → with ≡ elim t [ true ↦ m | false ↦ m + 2 ^ c ]
      by true e = bits_same with m c (omega (arith, with_low)) (omega (arith, small)) (with_same ∙ sym e) (λ i h n. with_other i n)
      by false e =
          bits_same with (m + 2 ^ c) c (omega (arith, with_low)) (omega (arith, small, power_low)) (with_same ∙ sym (added_same c m e))
          (λ i h n. with_other i n ∙ sym (added_other c i m e n))

  -- ---- bit c cleared

  abbrev rest : ℕ
  rest = bit_and m (bit_not w64 (2 ^ c))

  rest_low : rest < 256
  rest_low = omega (arith, small, and_le_l m (bit_not w64 (2 ^ c)))

  not_at : (i : ℕ) → i < 9 → bit_at (bit_not w64 (2 ^ c)) i ≡ 1 - bit_at (2 ^ c) i
  not_at i h = bit_at_not w64 (2 ^ c) i (omega (arith, power_low)) (omega (arith, h))

  rest_same : bit c rest ≡ false
  unfolding bit
  rest_same = ap (λ (x : ℕ). eqb x 1) (let e : bit_at rest c ≡ 0 = omega (arith, bit_at_and m (bit_not w64 (2 ^ c)) c, not_at c (omega (arith, low)), bit_at-pow_same c) in e)

  rest_other : (i : ℕ) → i < 9 → (i ≡ c → ⊥) → bit i rest ≡ bit i m
  unfolding bit
  rest_other i h n =
      ap (λ (x : ℕ). eqb x 1)
      (let e : bit_at rest i ≡ bit_at m i = omega (arith, bit_at_and m (bit_not w64 (2 ^ c)) i, not_at i h, bit_at-pow_other c i n, bit_at-lt m i) in e)

  pub flag_cleared : rest ≡ flag c false m
  unfolding flag
  flag_cleared = by (bit c m) refl
    where
      by : (t : Bool) → bit c m ≡ t → rest ≡ elim t [ true ↦ m - 2 ^ c | false ↦ m ]
      by true e =
          let back : rest + 2 ^ c ≡ m =
          bits_same (rest + 2 ^ c) m c (omega (arith, rest_low, power_low)) (omega (arith, small)) (added_same c rest rest_same ∙ sym e)
          (λ i h n. added_other c i rest rest_same n ∙ rest_other i h n) in
          omega (arith, back)
      by false e = bits_same rest m c (omega (arith, rest_low)) (omega (arith, small)) (rest_same ∙ sym e) rest_other

  -- ---- either

  pub flag_low : (null : Bool) → flag c null m < 256
  flag_low true = rw (← flag_set) with_low
  flag_low false = rw (← flag_cleared) rest_low

  pub flag_same : bit c (flag c true m) ≡ true
  flag_same = ap (bit c) (sym flag_set) ∙ with_same

  pub flag_beside : (null : Bool) (i : ℕ) → i < 8 → (i ≡ c → ⊥) → bit i (flag c null m) ≡ bit i m
  flag_beside true i h n = ap (bit i) (sym flag_set) ∙ with_other i n
  flag_beside false i h n = ap (bit i) (sym flag_cleared) ∙ rest_other i (omega (arith, h)) n
