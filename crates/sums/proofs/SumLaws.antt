-- Sums number by number, as loops make them. Assumes nothing.
use mathlib.Core.Path.{◌≡◌, refl, sym, ap, ◌∙◌}
use mathlib.Core.List.{List, [], ◌∷◌}
use Prim.Native.Nat.{ℕ, zero, suc, ◌+◌, ◌≤◌, ◌<◌}
use native.Mathlib.Numerals.{add-one}
use native.Mathlib.Omega.{arith}
use lib.IntN.{ℤ, ◌+ℤ◌, ◌-ℤ◌, +ℤ_assoc, +ℤ_idr}
use lib.ListN.{length, get_or, drop}
use lib.Seq.{drop-cons, drop-length}
use mathlib.Core.Logic.{inl, inr}
use native.Mathlib.Nat.{eq-or-lt_of_le}
use denote.Param.Members.{Mut}
use Rattle.std.specs.Fn.{Called}
use Rattle.std.specs.Array.{IsFromFnResultFrom, IsFromFnResult}
use Rattle.std.proofs.lemmas.List.{same_lists, get_or_default}
use Rattle.rules.specs.Lists.{𝟘, sum, plus, less}

pub get_plus : (a b : List ℤ) (k : ℕ) → length b ≡ length a → get_or (plus a b) k 𝟘 ≡ get_or a k 𝟘 +ℤ get_or b k 𝟘
unfolding plus
get_plus [] [] k h = refl
get_plus [] (y ∷ b) k h = absurd (omega arith)
get_plus (x ∷ a) [] k h = absurd (omega arith)
get_plus (x ∷ a) (y ∷ b) zero h = refl
get_plus (x ∷ a) (y ∷ b) (suc k) h = get_plus a b k (omega arith)

pub get_less : (a b : List ℤ) (k : ℕ) → length b ≡ length a → get_or (less a b) k 𝟘 ≡ get_or a k 𝟘 -ℤ get_or b k 𝟘
unfolding less
get_less [] [] k h = refl
get_less [] (y ∷ b) k h = absurd (omega arith)
get_less (x ∷ a) [] k h = absurd (omega arith)
get_less (x ∷ a) (y ∷ b) zero h = refl
get_less (x ∷ a) (y ∷ b) (suc k) h = get_less a b k (omega arith)

pub length_plus : (a b : List ℤ) → length (plus a b) ≡ length a
unfolding plus
length_plus [] b = refl
length_plus (x ∷ a) [] = refl
length_plus (x ∷ a) (y ∷ b) = ap suc (length_plus a b)

pub length_less : (a b : List ℤ) → length (less a b) ≡ length a
unfolding less
length_less [] b = refl
length_less (x ∷ a) [] = refl
length_less (x ∷ a) (y ∷ b) = ap suc (length_less a b)

-- what is left of a sum
pub sum_more : (t : List ℤ) (k : ℕ) (s : ℤ) → k < length t → (s +ℤ get_or t k 𝟘) +ℤ sum (drop (k + 1) t) ≡ s +ℤ sum (drop k t)
unfolding sum
sum_more t k s h = rw (add-one k, drop-cons t k 𝟘 h) (+ℤ_assoc s (get_or t k 𝟘) (sum (drop (suc k) t)))

pub sum_end : (t : List ℤ) (k : ℕ) (s : ℤ) → k ≡ length t → s +ℤ sum (drop k t) ≡ s
unfolding sum
sum_end t k s e = rw (e, drop-length t) (+ℤ_idr s)

-- an array that calls filled, one at each place, where no call changes what is called
module _ {F B : Type 0} (g : Mut F (ℕ × Unit {0}) B) (f : F) (ys zs : List B) (z : B) where
  filled_at : (i n : ℕ) → ((k : ℕ) (y : B) (q : F) → Called g f (k, tt) y q → (q ≡ f) × (y ≡ get_or zs k z)) → IsFromFnResultFrom g f ys i n → (k : ℕ) (d : B) → i ≤ k → k < i + n → get_or ys k d ≡ get_or zs k z
  filled_at i zero gives calls k d l m = absurd (omega arith)
  filled_at i (suc n) gives (q, y, at, call, rest) k d l m =
      let one = gives i y q call in
      elim (eq-or-lt_of_le l) [
        | inl e ↦ rw (← e) (at.1 d ∙ one.1)
        | inr e ↦ filled_at (i + 1) n gives (rw one.0 at rest) k d (omega arith) (omega arith)
      ]

  pub filled_is : (n : ℕ) → length zs ≡ n → ((k : ℕ) (y : B) (q : F) → Called g f (k, tt) y q → (q ≡ f) × (y ≡ get_or zs k z)) → IsFromFnResult g f ys n → ys ≡ zs
  filled_is n e gives r = same_lists ys zs (r.long ∙ sym e) (λ k d l. let le : k < n = omega (arith, r.long) in filled_at 0 n gives r.each k d (omega arith) (omega arith) ∙ get_or_default zs k z d (omega arith))
