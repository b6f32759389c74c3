-- Counts over a list with one place set.
-- Assumes nothing.
use mathlib.Core.Path.{◌≡◌, refl, sym, ◌∙◌, ap}
use mathlib.Core.Bool.{Bool, true, false, ◌||◌}
use mathlib.Core.List.{List, [], ◌∷◌}
use Prim.Native.Nat.{ℕ, zero, suc, ◌+◌, ◌<◌}
use native.Mathlib.Omega.{arith}
use lib.ListN.{length, get_or, set}
use Rattle.rules.specs.Lists.{any, count, one, except}
use Rattle.bridge.proofs.CountLaws.{any_cons, count_cons}

or_swap : (a b c : Bool) → a || (b || c) ≡ b || (a || c)
or_swap true true c = refl
or_swap true false c = refl
or_swap false b c = refl

module _ {A : Type 0} where
  pub except_set : (r : ℕ) (xs : List A) (y : A) → except r (set xs r y) ≡ except r xs
  unfolding except
  except_set r [] y = refl
  except_set zero (x ∷ xs) y = refl
  except_set (suc r) (x ∷ xs) y = ap (λ l. x ∷ l) (except_set r xs y)

  pub count_except : (p : A → Bool) (r : ℕ) (xs : List A) (d : A) → r < length xs → count p xs ≡ one (p (get_or xs r d)) + count p (except r xs)
  unfolding except
  count_except p r [] d h = absurd (omega arith)
  count_except p zero (x ∷ xs) d h = count_cons p x xs
  count_except p (suc r) (x ∷ xs) d h =
      let e : count p xs ≡ one (p (get_or xs r d)) + count p (except r xs) = count_except p r xs d (omega arith) in
      omega (arith, count_cons p x xs, count_cons p x (except r xs))

  pub any_except : (p : A → Bool) (r : ℕ) (xs : List A) (d : A) → r < length xs → any p xs ≡ p (get_or xs r d) || any p (except r xs)
  unfolding except
  any_except p r [] d h = absurd (omega arith)
  any_except p zero (x ∷ xs) d h = any_cons p x xs
  any_except p (suc r) (x ∷ xs) d h =
      any_cons p x xs ∙ ap (λ b. p x || b) (any_except p r xs d (omega arith)) ∙ or_swap (p x) (p (get_or xs r d)) (any p (except r xs))
      ∙ ap (λ b. p (get_or xs r d) || b) (sym (any_cons p x (except r xs)))
