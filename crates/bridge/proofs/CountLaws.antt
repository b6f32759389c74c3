-- A test over a list: whether one passes it, how many do.
-- Assumes nothing.
use mathlib.Core.Path.{◌≡◌, refl, sym, ap, ◌∙◌}
use mathlib.Core.Bool.{Bool, true, false, not, ◌||◌, false≢true}
use mathlib.Core.List.{List, [], ◌∷◌, ◌++◌}
use Prim.Native.Nat.{ℕ, zero, suc, ◌+◌, ◌≤◌}
use native.Mathlib.Omega.{arith}
use borrow.Author.Tests.{ltb-true, lt-ltb}
use lib.Dec.{ltb}
use lib.ListN.{length, get_or}
use Rattle.schema.specs.Ranges.{all, any_from}
use Rattle.rules.specs.Lists.{any, count, one}
use Rattle.bridge.proofs.Bits.{both_ways}

or_assoc : (a b c : Bool) → a || (b || c) ≡ (a || b) || c
or_assoc true b c = refl
or_assoc false b c = refl

ltb_suc : (a b : ℕ) → ltb (suc a) (suc b) ≡ ltb a b
ltb_suc a b =
    both_ways (ltb (suc a) (suc b)) (ltb a b) (λ h. lt-ltb a b (omega (arith, ltb-true (suc a) (suc b) h))) (λ h. lt-ltb (suc a) (suc b) (omega (arith, ltb-true a b h)))

module _ {A : Type 0} (p : A → Bool) where
  pub any_cons : (x : A) (xs : List A) → any p (x ∷ xs) ≡ p x || any p xs
  unfolding any
  any_cons x xs = go (p x)
    where
      go : (b : Bool) → elim b [ true ↦ true | false ↦ any p xs ] ≡ b || any p xs
      go true = refl
      go false = refl

  -- none passes, so neither the first nor one of the others
  pub any_neither : (x : A) (xs : List A) → any p (x ∷ xs) ≡ false → (p x ≡ false) × (any p xs ≡ false)
  unfolding any
  any_neither x xs = go (p x)
    where
      go : (b : Bool) → elim b [ true ↦ true | false ↦ any p xs ] ≡ false → (b ≡ false) × (any p xs ≡ false)
      go true e = absurd (false≢true (sym e))
      go false e = (refl, e)

  pub any_append : (xs ys : List A) → any p (xs ++ ys) ≡ any p xs || any p ys
  unfolding any
  any_append [] ys = refl
  any_append (x ∷ xs) ys = any_cons x (xs ++ ys) ∙ ap (λ b. p x || b) (any_append xs ys) ∙ or_assoc (p x) (any p xs) (any p ys) ∙ ap (λ b. b || any p ys) (sym (any_cons x xs))

  pub count_cons : (x : A) (xs : List A) → count p (x ∷ xs) ≡ one (p x) + count p xs
  unfolding count one
  count_cons x xs = go (p x)
    where
      go : (b : Bool) → elim b [ true ↦ suc (count p xs) | false ↦ count p xs ] ≡ one b + count p xs
      go true = omega arith
      go false = omega arith

  pub count_append : (xs ys : List A) → count p (xs ++ ys) ≡ count p xs + count p ys
  unfolding count
  count_append [] ys = omega arith
  count_append (x ∷ xs) ys = omega (arith, count_cons x (xs ++ ys), count_append xs ys, count_cons x xs)

  pub count_none : ((x : A) → p x ≡ false) → (xs : List A) → count p xs ≡ 0
  unfolding count one
  count_none e [] = refl
  count_none e (x ∷ xs) = count_cons x xs ∙ rw (e x, count_none e xs)

  pub count_bound : (xs : List A) → count p xs ≤ length xs
  unfolding count one
  count_bound [] = omega arith
  count_bound (x ∷ xs) = by (p x) (count_cons x xs) (count_bound xs)
    where
      by : (b : Bool) → count p (x ∷ xs) ≡ one b + count p xs → count p xs ≤ length xs → count p (x ∷ xs) ≤ length (x ∷ xs)
      by true e h = omega (arith, e, h)
      by false e h = omega (arith, e, h)

  -- whether some do, and whether not all do, by their number
  pub count_some : (xs : List A) → ltb 0 (count p xs) ≡ any p xs
  unfolding count any
  count_some [] = refl
  count_some (x ∷ xs) = by (p x) (count_some xs)
    where
      by : (b : Bool) → ltb 0 (count p xs) ≡ any p xs → ltb 0 (elim b [ true ↦ suc (count p xs) | false ↦ count p xs ]) ≡ elim b [ true ↦ true | false ↦ any p xs ]
      by true e = lt-ltb 0 (suc (count p xs)) (omega arith)
      by false e = e

  pub count_not_all : (xs : List A) → ltb (count p xs) (length xs) ≡ not (all p xs)
  unfolding count all
  count_not_all [] = refl
  count_not_all (x ∷ xs) = by (p x) (count_not_all xs)
    where
      by : (b : Bool) → ltb (count p xs) (length xs) ≡ not (all p xs) → ltb (elim b [ true ↦ suc (count p xs) | false ↦ count p xs ]) (suc (length xs)) ≡ not (elim b [ true ↦ all p xs | false ↦ false ])
      by true e = ltb_suc (count p xs) (length xs) ∙ e
      by false e = lt-ltb (count p xs) (suc (length xs)) (omega (arith, count_bound xs))

  pub any_never : ((x : A) → p x ≡ false) → (xs : List A) → any p xs ≡ false
  unfolding any
  any_never e [] = refl
  any_never e (x ∷ xs) = any_cons x xs ∙ rw (e x, any_never e xs)

-- where none passes a test, none passes one that is harder
pub any_less : {A : Type 0} (q p : A → Bool) → ((x : A) → q x ≡ true → p x ≡ true) → (xs : List A) → any p xs ≡ false → any q xs ≡ false
unfolding any
any_less q p f [] h = refl
any_less q p f (x ∷ xs) h =
    let none = any_neither p x xs h in
    any_cons q x xs ∙ rw (not_passed (q x) (f x) none.0, any_less q p f xs none.1) refl
  where
    not_passed : (b : Bool) → (b ≡ true → p x ≡ true) → p x ≡ false → b ≡ false
    not_passed true g e = absurd (false≢true (sym e ∙ g refl))
    not_passed false g e = refl

-- ---- a test of each element, by its number

one_later : (p : ℕ → Bool) (n j : ℕ) → any_from p n (suc j) ≡ any_from (λ i. p (suc i)) n j
unfolding any_from
one_later p zero j = refl
one_later p (suc n) j = ap (λ (b : Bool). p (suc j) || b) (one_later p n (suc j))

pub any_by_number : {A : Type 0} (p : A → Bool) (d : A) (xs : List A) → any_from (λ i. p (get_or xs i d)) (length xs) 0 ≡ any p xs
unfolding any_from any
any_by_number p d [] = refl
any_by_number p d (x ∷ xs) =
    ap (λ (b : Bool). p x || b) (one_later (λ i. p (get_or (x ∷ xs) i d)) (length xs) 0 ∙ any_by_number p d xs) ∙ sym (any_cons p x xs)
