-- Masks as sets of columns: the mask of distinct columns has the bits of these, and no others. Assumes nothing.
use mathlib.Core.Path.{◌≡◌, refl, sym, ap, ◌∙◌}
use mathlib.Core.Bool.{Bool, true, false, false≢true}
use mathlib.Core.Logic.{◌⊎◌, inl, inr}
use Prim.Native.Nat.{ℕ, zero, suc, ◌+◌, ◌*◌, ◌/◌, ◌%◌, ◌^◌, ◌<◌, ◌≤◌}
use native.Mathlib.Nat.{div-div-eq-div-mul, div-one, mul_comm, pow-suc, lt_of_lt_of_le, div-eq_of_lt, div-lt_iff_lt-mul, lt-suc_self, one-mul}
use lib.Pow.{pow_mono, pow_pos}
use native.Mathlib.Omega.{arith}
use native.Mathlib.Numerals.{add-one}
use borrow.Author.Tests.{eqb-true, eqb-false, ltb-true, ltb-false}
use lib.Count.{ones, ones_in, ones_step}
use lib.Dec.{eqb, ltb}
use Rattle.schema.specs.Bytes.{bit, column_mask}
use Rattle.schema.specs.Marks.{marked, Marks}

pub bit_suc : (c m : ℕ) → bit (suc c) m ≡ bit c (m / 2)
unfolding bit
bit_suc c m =
    let e : m / 2 / 2 ^ c ≡ m / 2 ^ suc c = div-div-eq-div-mul m 2 (2 ^ c) ∙ ap (λ (x : ℕ). m / x) (mul_comm 2 (2 ^ c) ∙ sym (pow-suc 2 c)) in
    ap (λ (x : ℕ). eqb (x % 2) 1) (sym e)

pub bit_zero : (m : ℕ) → bit 0 m ≡ eqb (m % 2) 1
unfolding bit
bit_zero m = ap (λ (x : ℕ). eqb (x % 2) 1) (div-one m)

-- a number below 2 ^ c has no bit c
pub bit_over : (c m : ℕ) → m < 2 ^ c → bit c m ≡ false
unfolding bit
bit_over c m h = let e : m / 2 ^ c ≡ 0 = div-eq_of_lt h in rw e

pub bit_none : (c : ℕ) → bit c 0 ≡ false
bit_none c = bit_over c 0 (pow_pos c)

pub no_ones : ones 0 ≡ 0
unfolding ones ones_in
no_ones = refl

-- ---- column c added to a mask that lacks it

even : (m : ℕ) → bit 0 m ≡ false → m % 2 ≡ 0
even m h = let n : m % 2 ≡ 1 → ⊥ = eqb-false (m % 2) 1 (sym (bit_zero m) ∙ h) in omega arith

half_added : (c m : ℕ) → (m + 2 ^ suc c) / 2 ≡ m / 2 + 2 ^ c
half_added c m = omega (arith, pow-suc 2 c)

pub added_same : (c m : ℕ) → bit c m ≡ false → bit c (m + 2 ^ c) ≡ true
added_same zero m h =
    let e : m % 2 ≡ 0 = even m h in
    let o : (m + 2 ^ 0) % 2 ≡ 1 = omega arith in
    bit_zero (m + 2 ^ 0) ∙ ap (λ (x : ℕ). eqb x 1) o
added_same (suc c) m h = bit_suc c (m + 2 ^ suc c) ∙ ap (bit c) (half_added c m) ∙ added_same c (m / 2) (sym (bit_suc c m) ∙ h)

pub added_other : (c d m : ℕ) → bit c m ≡ false → (d ≡ c → ⊥) → bit d (m + 2 ^ c) ≡ bit d m
added_other zero zero m h n = absurd (n refl)
added_other zero (suc d) m h n =
    let e : m % 2 ≡ 0 = even m h in
    let b : (m + 2 ^ 0) / 2 ≡ m / 2 = omega arith in
    bit_suc d (m + 2 ^ 0) ∙ ap (bit d) b ∙ sym (bit_suc d m)
added_other (suc c) zero m h n =
    let b : (m + 2 ^ suc c) % 2 ≡ m % 2 = omega (arith, pow-suc 2 c) in
    bit_zero (m + 2 ^ suc c) ∙ ap (λ (x : ℕ). eqb x 1) b ∙ sym (bit_zero m)
added_other (suc c) (suc d) m h n =
    bit_suc d (m + 2 ^ suc c) ∙ ap (bit d) (half_added c m) ∙ added_other c d (m / 2) (sym (bit_suc c m) ∙ h) (λ e. n (ap suc e)) ∙ sym (bit_suc d m)

ones_added : (c m : ℕ) → bit c m ≡ false → ones (m + 2 ^ c) ≡ suc (ones m)
ones_added zero m h =
    let e : m % 2 ≡ 0 = even m h in
    let o : (m + 2 ^ 0) % 2 ≡ 1 = omega arith in
    let b : ones ((m + 2 ^ 0) / 2) ≡ ones (m / 2) = let q : (m + 2 ^ 0) / 2 ≡ m / 2 = omega arith in ap ones q in
    omega (arith, ones_step m, ones_step (m + 2 ^ 0))
ones_added (suc c) m h =
    let o : (m + 2 ^ suc c) % 2 ≡ m % 2 = omega (arith, pow-suc 2 c) in
    let b : ones ((m + 2 ^ suc c) / 2) ≡ suc (ones (m / 2)) = ap ones (half_added c m) ∙ ones_added c (m / 2) (sym (bit_suc c m) ∙ h) in
    omega (arith, ones_step m, ones_step (m + 2 ^ suc c))

-- ---- the mask of distinct columns

-- the columns p 0, .., p (n - 1) are distinct
abbrev pub Distinct : (ℕ → ℕ) → ℕ → Type 0
Distinct p n = (i j : ℕ) → i < n → j < i → p i ≡ p j → ⊥

module _ (p : ℕ → ℕ) where
  -- one of the columns is c
  pub record Found (n c : ℕ) : Type 0 where
    pub place : ℕ
    pub below : place < n
    pub is : p place ≡ c

  find : (n c : ℕ) → Found n c ⊎ ((i : ℕ) → i < n → p i ≡ c → ⊥)
  find zero c = inr (λ i h e. omega arith)
  find (suc n) c = go (eqb (p n) c) refl (find n c)
    where
      go : (t : Bool) → eqb (p n) c ≡ t → Found n c ⊎ ((i : ℕ) → i < n → p i ≡ c → ⊥) → Found (suc n) c ⊎ ((i : ℕ) → i < suc n → p i ≡ c → ⊥)
      go true e f = inl (record { place = n; below = omega arith; is = eqb-true (p n) c e })
      go false e (inl f) = inl (record { place = f.place; below = omega (arith, f.below); is = f.is })
      go false e (inr g) = inr (λ i h q. last i h q)
        where
          last : (i : ℕ) → i < suc n → p i ≡ c → ⊥
          last i h q = at (eqb i n) refl
            where
              at : (t : Bool) → eqb i n ≡ t → ⊥
              at true s = eqb-false (p n) c e (ap p (sym (eqb-true i n s)) ∙ q)
              at false s = let ne : i ≡ n → ⊥ = eqb-false i n s in g i (omega arith) q

  lacks : (n : ℕ) → Distinct p n → (c : ℕ) → ((i : ℕ) → i < n → p i ≡ c → ⊥) → bit c (column_mask p n) ≡ false
  unfolding column_mask
  lacks zero d c g = bit_none c
  lacks (suc n) d c g =
      let f : Distinct p n = λ i j h l. d i j (omega arith) l in
      added_other (p n) c (column_mask p n) (lacks n f (p n) (λ i l e. d n i (omega arith) l (sym e))) (λ e. g n (omega arith) (sym e))
      ∙ lacks n f c (λ i l. g i (omega arith))

  -- the mask has the bit of each column
  pub mask_each : (n : ℕ) → Distinct p n → (i : ℕ) → i < n → bit (p i) (column_mask p n) ≡ true
  unfolding column_mask
  mask_each zero d i l = absurd (omega arith)
  mask_each (suc n) d i l = go (eqb i n) refl (λ h. mask_each n f i h)
    where
      f : Distinct p n
      f = λ i j h l. d i j (omega arith) l

      none : bit (p n) (column_mask p n) ≡ false
      none = lacks n f (p n) (λ j h e. d n j (omega arith) h (sym e))

      go : (t : Bool) → eqb i n ≡ t → (i < n → bit (p i) (column_mask p n) ≡ true) → bit (p i) (column_mask p n + 2 ^ p n) ≡ true
      go true e next = rw (eqb-true i n e) (added_same (p n) (column_mask p n) none)
      go false e next =
          let ne : i ≡ n → ⊥ = eqb-false i n e in
          let h : i < n = omega arith in
          added_other (p n) (p i) (column_mask p n) none (λ q. d n i (omega arith) h (sym q)) ∙ next h

  -- and no other
  pub mask_only : (n : ℕ) → Distinct p n → (c : ℕ) → bit c (column_mask p n) ≡ true → Found n c
  mask_only n d c h = go (find n c)
    where
      go : Found n c ⊎ ((i : ℕ) → i < n → p i ≡ c → ⊥) → Found n c
      go (inl f) = f
      go (inr g) = absurd (false≢true (sym (lacks n d c g) ∙ h))

  -- "The number of columns in a unique key is the count of ones in its mask."
  pub mask_ones : (n : ℕ) → Distinct p n → ones (column_mask p n) ≡ n
  unfolding column_mask
  mask_ones zero d = no_ones
  mask_ones (suc n) d =
      let f : Distinct p n = λ i j h l. d i j (omega arith) l in
      ones_added (p n) (column_mask p n) (lacks n f (p n) (λ i l e. d n i (omega arith) l (sym e))) ∙ ap suc (mask_ones n f)

  power_below : (n i : ℕ) → i < n → 2 ^ p i ≤ column_mask p n
  unfolding column_mask
  power_below zero i l = absurd (omega arith)
  power_below (suc n) i l = go (eqb i n) refl (λ h. power_below n i h)
    where
      go : (t : Bool) → eqb i n ≡ t → (i < n → 2 ^ p i ≤ column_mask p n) → 2 ^ p i ≤ column_mask p n + 2 ^ p n
      go true e next = rw (eqb-true i n e) (omega arith)
      go false e next = let ne : i ≡ n → ⊥ = eqb-false i n e in let h = next (omega arith) in omega arith

  -- a mask with a column above 7 is no byte
  pub mask_past : (n i : ℕ) → i < n → 8 ≤ p i → 256 ≤ column_mask p n
  mask_past n i l h =
      let big : 2 ^ 8 ≤ 2 ^ p i = pow_mono h in
      let q = power_below n i l in omega arith

  -- the mask of no columns, and that of one more
  pub mask_start : 0 ≡ column_mask p 0
  unfolding column_mask
  mask_start = refl

  pub mask_more : (n : ℕ) → column_mask p n + 2 ^ p n ≡ column_mask p (n + 1)
  unfolding column_mask
  mask_more n = ap (column_mask p) (sym (add-one n))

  -- columns whose mask has no bit at w and above are below w
  pub mask_below : (n w : ℕ) → column_mask p n < 2 ^ w → (i : ℕ) → i < n → p i < w
  mask_below n w h i l = go (ltb (p i) w) refl
    where
      go : (t : Bool) → ltb (p i) w ≡ t → p i < w
      go true e = ltb-true (p i) w e
      go false e =
          let m : 2 ^ w ≤ 2 ^ p i = pow_mono (ltb-false (p i) w e) in
          absurd (omega (arith, power_below n i l))

-- a mask without a bit at w and above is below 2 ^ w
pub quotient_none : (m w : ℕ) → m / 2 ^ w ≡ 0 → m < 2 ^ w
quotient_none m w e =
    let h : m < suc (m / 2 ^ w) * 2 ^ w = (div-lt_iff_lt-mul (pow_pos w)).0 (lt-suc_self (m / 2 ^ w)) in
    let q : suc (m / 2 ^ w) * 2 ^ w ≡ 2 ^ w = rw e (one-mul (2 ^ w)) in
    omega arith

-- a byte has no bit at 64 and above
pub bit_high : (m i : ℕ) → m < 256 → 64 ≤ i → bit i m ≡ false
bit_high m i h l = bit_over i m (lt_of_lt_of_le h (pow_mono {i = 8} (omega arith)))

-- ---- masks, number by number
module _ (test : ℕ → Bool) where
  pub marks_start : Marks test 0 0
  marks_start = record { below = omega arith; each = λ k h. absurd (omega arith) }

  module _ (n m : ℕ) (h : Marks test n m) where
    absent : bit n m ≡ false
    absent = bit_over n m h.below

    two : 2 ^ (n + 1) ≡ 2 ^ n + 2 ^ n
    two = rw (add-one n) (omega (arith, pow-suc 2 n))

    put_in : true ≡ test n → Marks test (n + 1) (m + 2 ^ n)
    put_in e = record { below = omega (arith, h.below, two); each = λ k l. at k (eqb k n) refl l }
      where
        at : (k : ℕ) (t : Bool) → eqb k n ≡ t → k < n + 1 → bit k (m + 2 ^ n) ≡ test k
        at k true q l = let r : k ≡ n = eqb-true k n q in rw r (added_same n m absent ∙ e)
        at k false q l = let r : k ≡ n → ⊥ = eqb-false k n q in added_other n k m absent r ∙ h.each k (omega arith)

    left_out : false ≡ test n → Marks test (n + 1) m
    left_out e = record { below = omega (arith, h.below, two); each = λ k l. at k (eqb k n) refl l }
      where
        at : (k : ℕ) (t : Bool) → eqb k n ≡ t → k < n + 1 → bit k m ≡ test k
        at k true q l = let r : k ≡ n = eqb-true k n q in rw r (absent ∙ e)
        at k false q l = let r : k ≡ n → ⊥ = eqb-false k n q in h.each k (omega arith)

    pub marks_more : (b : Bool) → b ≡ test n → Marks test (n + 1) (marked m n b)
    unfolding marked
    marks_more true e = put_in e
    marks_more false e = left_out e
