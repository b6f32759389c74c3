-- Unused words, masks and values of a call, word by word.
-- Assumes nothing.
use mathlib.Core.Path.{◌≡◌, refl, sym, ◌∙◌, ap}
use mathlib.Core.Bool.{Bool, true, false, ◌&&◌}
use mathlib.Core.List.{List}
use Prim.Native.Nat.{ℕ, zero, suc, ◌+◌, ◌/◌, ◌^◌, ◌≤◌, ◌<◌}
use native.Mathlib.Nat.{div-eq_of_lt, le-div_iff_mul-le}
use native.Mathlib.Omega.{arith}
use borrow.Author.Tests.{ltb-true, ltb-false, ne_eqb}
use lib.Dec.{eqb, ltb, eqb-suc-zero, eqb-zero-suc}
use lib.IntN.{ℤ, pos, negsuc}
use lib.ListN.{length, get_or, drop, drop_of_length-le}
use lib.Pow.{pow_pos}
use lib.Seq.{drop-cons}
use Rattle.schema.specs.Bytes.{bit}
use Rattle.schema.specs.Ranges.{all_from}
use Rattle.rules.specs.Lists.{𝟘}
use Rattle.rules.specs.Values.{same_word, same_words}
use Rattle.rules.specs.Rows.{held}
use Rattle.rules.specs.Calls.{value_fits}
use Rattle.bridge.proofs.Bits.{same_refl}

-- ---- a mask

pub mask_is : (m c : ℕ) → eqb (m / 2 ^ c) 0 ≡ ltb m (2 ^ c)
mask_is m c = go (ltb m (2 ^ c)) refl
  where
    go : (t : Bool) → ltb m (2 ^ c) ≡ t → eqb (m / 2 ^ c) 0 ≡ t
    go true e = rw (div-eq_of_lt (ltb-true m (2 ^ c) e)) refl
    go false e =
        let l : 2 ^ c ≤ m = ltb-false m (2 ^ c) e in
        let k : 1 ≤ m / 2 ^ c = (le-div_iff_mul-le (pow_pos c)).1 (omega arith) in
        ne_eqb (m / 2 ^ c) 0 (λ q. omega arith)

-- ---- values of NULL columns

zero_sym : (v : ℤ) → same_word v 𝟘 ≡ same_word 𝟘 v
unfolding same_word
zero_sym (pos zero) = refl
zero_sym (pos (suc n)) = eqb-suc-zero n ∙ sym (eqb-zero-suc n)
zero_sym (negsuc n) = refl

fits_is : (b : Bool) (v : ℤ) → same_word v (elim b [ true ↦ 𝟘 | false ↦ v ]) ≡ value_fits b v
unfolding value_fits
fits_is true v = zero_sym v
fits_is false v = same_refl v

module _ (ws : List ℤ) (m : ℕ) where
  -- the value of column i is 0 where it is NULL
  abbrev pub fits_at : ℕ → Bool
  fits_at i = value_fits (bit i m) (get_or ws (4 + i) 𝟘)

  -- the values from column i on
  unfoldable pub values_from : ℕ → Bool
  values_from i = same_words (drop (4 + i) ws) (held m i (drop (4 + i) ws))

  -- behind the last word there is none that could fail
  pub values_none : (i : ℕ) → length ws ≤ 4 + i → values_from i ≡ true
  unfolding values_from same_words held
  values_none i h = rw (drop_of_length-le ws h) refl

  values_more : (i : ℕ) → 4 + i < length ws → fits_at i && values_from (suc i) ≡ values_from i
  unfolding values_from same_words held
  values_more i h =
      let e : 4 + suc i ≡ suc (4 + i) = omega arith in
      rw e (sym (ap (λ l. same_words l (held m i l)) (drop-cons ws (4 + i) 𝟘 h)
      ∙ ap (λ t. t && same_words (drop (suc (4 + i)) ws) (held m (suc i) (drop (suc (4 + i)) ws))) (fits_is (bit i m) (get_or ws (4 + i) 𝟘))))

  values_all : (n i : ℕ) → 4 + i + n ≡ length ws → all_from fits_at n i ≡ values_from i
  unfolding values_from same_words held all_from
  values_all zero i h = let l : length ws ≤ 4 + i = omega arith in rw (drop_of_length-le ws l) refl
  values_all (suc n) i h = ap (λ t. fits_at i && t) (values_all n (suc i) (omega arith)) ∙ values_more i (omega arith)

  pub values_are : length ws ≡ 12 → all_from fits_at 8 0 ≡ same_words (drop 4 ws) (held m 0 (drop 4 ws))
  unfolding values_from
  values_are h = values_all 8 0 (omega arith)
