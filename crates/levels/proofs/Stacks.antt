-- Lists of lists of one size, and stacks written oldest first.
-- Assumes nothing.
use mathlib.Core.Path.{◌≡◌, refl, sym, ◌∙◌, ap}
use mathlib.Core.Bool.{true}
use mathlib.Core.List.{List, [], ◌∷◌, ◌++◌, map, map-append, reverse, reverse-cons, reverse-append, append_assoc}
use Prim.Native.Nat.{ℕ, zero, suc, ◌+◌, ◌-◌, ◌*◌, ◌≤◌, ◌<◌}
use native.Mathlib.Nat.{zero-mul}
use native.Mathlib.Numerals.{add-one}
use native.Mathlib.Omega.{arith}
use lib.Dec.{eqb→eq}
use lib.ListN.{length, get_or, set, take, drop, length-map, length-reverse}
use lib.Seq.{set-append_seam, take-append-add, drop-append-add, take-suc, take_all, drop-drop}
use Rattle.schema.specs.Ranges.{all}
use Rattle.rules.specs.Lists.{flat}
use Rattle.bridge.proofs.Tests.{all_head, all_tail, holds}
use Rattle.bridge.proofs.RoundTrip.{of_size}

module _ {A : Type 0} (k : ℕ) where
  -- a front of lists of one size
  pub flat_take : (n : ℕ) (xss : List (List A)) → all (of_size k) xss ≡ true → n ≤ length xss → take (n * k) (flat xss) ≡ flat (take n xss)
  unfolding flat
  flat_take zero xss h l = rw (zero-mul k) refl
  flat_take (suc n) [] h l = absurd (omega arith)
  flat_take (suc n) (xs ∷ xss) h l =
      let e : length xs ≡ k = eqb→eq (length xs) k (holds (all_head (of_size k) xs xss h)) in
      let q : suc n * k ≡ length xs + n * k = omega arith in
      rw q (take-append-add xs (flat xss) (n * k) ∙ ap (λ z. xs ++ z) (flat_take n xss (all_tail (of_size k) xs xss h) (omega arith)))

  pub flat_drop : (n : ℕ) (xss : List (List A)) → all (of_size k) xss ≡ true → n ≤ length xss → drop (n * k) (flat xss) ≡ flat (drop n xss)
  unfolding flat
  flat_drop zero xss h l = rw (zero-mul k) refl
  flat_drop (suc n) [] h l = absurd (omega arith)
  flat_drop (suc n) (xs ∷ xss) h l =
      let e : length xs ≡ k = eqb→eq (length xs) k (holds (all_head (of_size k) xs xss h)) in
      let q : suc n * k ≡ length xs + n * k = omega arith in
      rw q (drop-append-add xs (flat xss) (n * k) ∙ flat_drop n xss (all_tail (of_size k) xs xss h) (omega arith))

module _ {A : Type 0} where
  -- the last of a list, reversed
  pub reverse_take : (xs : List A) (i : ℕ) (d : A) → i < length xs → reverse (take (suc i) xs) ≡ get_or xs i d ∷ reverse (take i xs)
  reverse_take xs i d h = ap reverse (take-suc xs i d h) ∙ reverse-append (take i xs) (get_or xs i d ∷ [])

  -- the newest n gone
  pub drop_reverse : (n : ℕ) (xs : List A) → n ≤ length xs → drop n (reverse xs) ≡ reverse (take (length xs - n) xs)
  drop_reverse zero xs h =
      let e : length xs - 0 ≡ length xs = omega arith in
      sym (ap (λ k. reverse (take k xs)) e ∙ ap reverse (take_all (length xs) xs (omega arith)))
  drop_reverse (suc n) [] h = absurd (omega arith)
  drop_reverse (suc n) (x ∷ xs) h =
      let m : ℕ = length (x ∷ xs) - suc n in
      let e : length (x ∷ xs) - n ≡ suc m = omega arith in
      let p : drop n (reverse (x ∷ xs)) ≡ get_or (x ∷ xs) m x ∷ reverse (take m (x ∷ xs)) = drop_reverse n (x ∷ xs) (omega arith) ∙ ap (λ k. reverse (take k (x ∷ xs))) e ∙ reverse_take (x ∷ xs) m x (omega arith) in
      ap (λ k. drop k (reverse (x ∷ xs))) (sym (add-one n)) ∙ sym (drop-drop 1 n (reverse (x ∷ xs))) ∙ ap (drop 1) p

  -- one more on the stack
  pub stack_push : {B : Type 0} (f : A → B) (x : A) (xs : List A) (y : B) (ys : List B) → map f (reverse (x ∷ xs)) ++ ys ≡ set (map f (reverse xs) ++ (y ∷ ys)) (length xs) (f x)
  stack_push f x xs y ys =
      let n : length (map f (reverse xs)) ≡ length xs = length-map (reverse xs) f ∙ length-reverse xs in
      ap (λ l. map f l ++ ys) (reverse-cons x xs)
      ∙ ap (λ l. l ++ ys) (map-append f (reverse xs) (x ∷ []))
      ∙ append_assoc (map f (reverse xs)) (f x ∷ []) ys
      ∙ sym (set-append_seam (map f (reverse xs)) y ys (f x))
      ∙ ap (λ m. set (map f (reverse xs) ++ (y ∷ ys)) m (f x)) n
