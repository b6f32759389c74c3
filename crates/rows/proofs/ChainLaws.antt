-- What chains over lists and ranges answer, in the words of the rules.
-- Assumes nothing.
use mathlib.Core.Path.{◌≡◌, refl, sym, ap, ◌∙◌}
use mathlib.Core.Bool.{Bool, true, false, cond, ◌||◌}
use mathlib.Core.List.{List, [], ◌∷◌}
use Prim.Native.Nat.{ℕ, zero, suc, ◌+◌, ◌≤◌, ◌<◌}
use native.Mathlib.Numerals.{add-one}
use native.Mathlib.Omega.{arith}
use lib.Dec.{leb, ltb, eqb}
use lib.ListN.{length, get_or, take, drop, drop_of_length-le}
use lib.Seq.{get_or-take, length-take-le, drop-cons}
use Rattle.std.specs.List.{list_any, count_by, range_with_len}
use Rattle.std.specs.Ordering.{nat_cmp, is_lt, is_le}
use Rattle.std.specs.declared.cmp.Ordering.TheVariants.{Less, Equal, Greater}
use Rattle.std.proofs.lemmas.Bool.Decides.{nat_tests}
use Rattle.std.proofs.lemmas.List.{get_or_default}
use Rattle.std.proofs.lemmas.List.Recursion.{is_count_by}
use Rattle.std.proofs.lemmas.List.Sums.{sum_by-cons}
use Rattle.schema.specs.Bounds.{Columns}
use Rattle.schema.specs.Bytes.{bit}
use Rattle.schema.specs.Ranges.{any_from}
use Rattle.rules.specs.Lists.{any, count, up_from}
use Rattle.rules.specs.Keys.{mask_columns_from}
use Rattle.rows.specs.KeyColumns.{OfImage}

first_passes : (b : Bool) {c d : Bool} → c ≡ d → b || c ≡ elim b [ true ↦ true | false ↦ d ]
first_passes true e = refl
first_passes false e = e

counts : (b : Bool) (n : ℕ) → elim b [ true ↦ suc n | false ↦ n ] ≡ cond b (1 + n) n
counts true n = omega arith
counts false n = refl

module _ {A : Type 0} (p : A → Bool) where
  pub any_list : (xs : List A) → list_any p xs ≡ any p xs
  unfolding any
  any_list [] = refl
  any_list (x ∷ xs) = first_passes (p x) (any_list xs)

  pub count_list : (xs : List A) → count_by p xs ≡ count p xs
  unfolding count
  count_list xs = sym (is_count_by (count p) p refl (λ x xs. counts (p x) (count p xs)) xs)

  -- element by element, by their places
  pub any_places : (d : A) (xs : List A) (n j : ℕ) → j + n ≡ length xs → any_from (λ i. p (get_or xs i d)) n j ≡ any p (drop j xs)
  unfolding any any_from
  any_places d xs zero j e = let l : length xs ≤ j = omega arith in ap (any p) (sym (drop_of_length-le xs l))
  any_places d xs (suc n) j e =
      first_passes (p (get_or xs j d)) (any_places d xs n (suc j) (omega arith)) ∙ sym (ap (any p) (drop-cons xs j d (omega arith)))

pub any_up : (p : ℕ → Bool) (n j : ℕ) → any_from p n j ≡ any p (up_from j n)
unfolding any_from any up_from
any_up p zero j = refl
any_up p (suc n) j = first_passes (p j) (any_up p n (suc j))

-- the columns of a mask, of n from column j on
pub count_mask : (m n j : ℕ) → count_by (λ i. bit i m) (range_with_len j n) ≡ length (mask_columns_from m j n)
unfolding mask_columns_from
count_mask m zero j = refl
count_mask m (suc n) j =
    sum_by-cons (λ i. cond (bit i m) 1 0) j (range_with_len (j + 1) n)
    ∙ first (bit j m) (mask_columns_from m (suc j) n) (count_mask m n (j + 1) ∙ ap (λ k. length (mask_columns_from m k n)) (add-one j))
  where
    first : (b : Bool) (l : List ℕ) {k : ℕ} → k ≡ length l → cond b 1 0 + k ≡ length {A = ℕ} (elim b [ true ↦ j ∷ l | false ↦ l ])
    first true l e = omega arith
    first false l e = omega arith

-- ---- an image's columns

pub item_fits : (cs : List ℕ) (i c d : ℕ) → OfImage cs → i < length cs → c ≡ get_or cs i d → c < 64
item_fits cs i c d h l e = let same : get_or cs i d ≡ get_or cs i 0 = get_or_default cs i d 0 l in omega (arith, e, same, h i l)

pub of_image : {n : ℕ} {cs : List ℕ} → Columns 9 n cs → OfImage (take n cs)
of_image {n} {cs} k i l =
    let size : length (take n cs) ≡ n = length-take-le n cs (omega (arith, k.few, k.size)) in
    let h : i < n = omega arith in
    omega (arith, get_or-take n cs i 0 h, k.within i h)

-- ---- a number in a range

lt_is : (t u : Bool) → is_lt (cond t Less (cond u Equal Greater)) ≡ t
lt_is true u = refl
lt_is false true = refl
lt_is false false = refl

pub below_is : (a b : ℕ) → is_lt (nat_cmp a b) ≡ ltb a b
below_is a b = lt_is (ltb a b) (eqb a b)

pub upto_is : (a b : ℕ) → is_le (nat_cmp a b) ≡ leb a b
upto_is a b = grind (arith, nat_tests)
