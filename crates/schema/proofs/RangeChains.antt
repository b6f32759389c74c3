-- What `all` and `any` answer over a range of numbers, where a closure tells a test of each.
-- Assumes nothing.
use mathlib.Core.Path.{◌≡◌, refl, sym}
use mathlib.Core.Bool.{Bool, true, false, ◌&&◌, ◌||◌}
use mathlib.Core.List.{List}
use Prim.Native.Nat.{ℕ, zero, suc, ◌+◌, ◌-◌, ◌<◌}
use native.Mathlib.Omega.{arith}
use native.Mathlib.Nat.{add-zero}
use lib.ListN.{length, get_or}
use denote.Param.Members.{Mut}
use Rattle.std.specs.declared.option.Option.{Option}
use Rattle.std.specs.declared.ops.Range.{Range}
use Rattle.std.specs.Iterator.{YieldsThen}
use Rattle.std.specs.List.{FoldsTo, AllWithin, HoldsAt, range_with_len}
use Rattle.std.specs.Fn.{Called}
use Rattle.std.specs.Option.{MatchOption}
use Rattle.std.specs.Bool.{MatchBool}
use Rattle.std.proofs.iter.Yields.{nat_range_steps}
use Rattle.std.proofs.lemmas.Iterator.{YieldsList-from_range, cases_from_all, cases_from_any}
use Rattle.std.proofs.lemmas.List.FromFn.{length-range_with_len, get_or-range_with_len}
use Rattle.schema.specs.Ranges.{all_from, any_from}

-- false, and whatever comes behind it
false_behind : (b : Bool) {c : Bool} → c ≡ false → b && c ≡ false
false_behind true h = h
false_behind false h = refl

-- true, and whatever comes before it
true_behind : (b : Bool) {c : Bool} → c ≡ true → b || c ≡ true
true_behind true h = refl
true_behind false h = h

module _ (p : ℕ → Bool) where
  -- n numbers from j on: one fails, or passes
  one_fails : (n j k : ℕ) → k < n → p (j + k) ≡ false → all_from p n j ≡ false
  unfolding all_from
  one_fails zero j k l e = absurd (omega arith)
  one_fails (suc n) j zero l e = let h : p j ≡ false = rw add-zero at e in rw h
  one_fails (suc n) j (suc k) l e = false_behind (p j) (one_fails n (suc j) k (omega arith) (let q : suc j + k ≡ j + suc k = omega arith in rw q e))

  one_passes : (n j k : ℕ) → k < n → p (j + k) ≡ true → any_from p n j ≡ true
  unfolding any_from
  one_passes zero j k l e = absurd (omega arith)
  one_passes (suc n) j zero l e = let h : p j ≡ true = rw add-zero at e in rw h
  one_passes (suc n) j (suc k) l e = true_behind (p j) (one_passes n (suc j) k (omega arith) (let q : suc j + k ≡ j + suc k = omega arith in rw q e))

  -- none fails, or passes
  none_fails : (n j : ℕ) → ((k : ℕ) → k < n → p (j + k) ≡ true) → all_from p n j ≡ true
  unfolding all_from
  none_fails zero j h = refl
  none_fails (suc n) j h =
      let a : p j ≡ true = rw add-zero at (h 0 (omega arith)) in
      let b : all_from p n (suc j) ≡ true = none_fails n (suc j) (λ k l. let q : suc j + k ≡ j + suc k = omega arith in rw q (h (suc k) (omega arith))) in
      rw (a, b)

  none_passes : (n j : ℕ) → ((k : ℕ) → k < n → p (j + k) ≡ false) → any_from p n j ≡ false
  unfolding any_from
  none_passes zero j h = refl
  none_passes (suc n) j h =
      let a : p j ≡ false = rw add-zero at (h 0 (omega arith)) in
      let b : any_from p n (suc j) ≡ false = none_passes n (suc j) (λ k l. let q : suc j + k ≡ j + suc k = omega arith in rw q (h (suc k) (omega arith))) in
      rw (a, b)

  item : (n j k : ℕ) (b : Bool) → k < n → p (get_or (range_with_len j n) k 0) ≡ b → p (j + k) ≡ b
  item n j k b l h = rw (get_or-range_with_len j n k 0 l) at h

  all_of_cases : (r : Bool) (n j : ℕ) → MatchBool r (AllWithin (λ x. p x ≡ true) (range_with_len j n) 0 (length (range_with_len j n))) ((k : ℕ) × (k < length (range_with_len j n)) × HoldsAt (λ x. p x ≡ false) (range_with_len j n) k) → r ≡ all_from p n j
  all_of_cases true n j h = sym (none_fails n j (λ k l. item n j k true l (h k 0 (omega arith) (rw length-range_with_len l))))
  all_of_cases false n j h = let l : h.0 < n = rw length-range_with_len at h.1 in sym (one_fails n j h.0 l (item n j h.0 false l (h.2 0)))

  any_of_cases : (r : Bool) (n j : ℕ) → MatchBool r ((k : ℕ) × (k < length (range_with_len j n)) × HoldsAt (λ x. p x ≡ true) (range_with_len j n) k) (AllWithin (λ x. p x ≡ false) (range_with_len j n) 0 (length (range_with_len j n))) → r ≡ any_from p n j
  any_of_cases true n j h = let l : h.0 < n = rw length-range_with_len at h.1 in sym (one_passes n j h.0 l (item n j h.0 true l (h.2 0)))
  any_of_cases false n j h = sym (none_passes n j (λ k l. item n j k false l (h k 0 (omega arith) (rw length-range_with_len l))))

  module _ {F : Type 0} {g : Mut F (ℕ × Unit {0}) Bool} {s : Range ℕ} (u : Range ℕ) (f : F) (r : Bool) where
    -- what `(a..b).all(..)` answers, where the closure answers as the test does
    pub all_in_range : (a b n : ℕ) → s ≡ record { start = a; end = b } → b - a ≡ n
        → (xs : List ℕ) × (o : Option ℕ) × (j : F) × YieldsThen nat_range_steps s xs o u × FoldsTo (λ q x t. Called g q (x, tt) true t) f xs j × MatchOption o (r ≡ true) (λ x. (r ≡ false) × ((h : F) × Called g j (x, tt) false h))
        → ((x : ℕ) (q : F) → Called g f (x, tt) true q → (q ≡ f) × (p x ≡ true))
        → ((x : ℕ) (q : F) → Called g f (x, tt) false q → p x ≡ false)
        → r ≡ all_from p n a
    all_in_range a b n e d ran told denied = all_of_cases r n a (cases_from_all u f r (λ x. p x ≡ true) (λ x. p x ≡ false) ran (YieldsList-from_range a b n e d) told denied)

    -- and `(a..b).any(..)`
    pub any_in_range : (a b n : ℕ) → s ≡ record { start = a; end = b } → b - a ≡ n
        → (xs : List ℕ) × (o : Option ℕ) × (j : F) × YieldsThen nat_range_steps s xs o u × FoldsTo (λ q x t. Called g q (x, tt) false t) f xs j × MatchOption o (r ≡ false) (λ x. (r ≡ true) × ((h : F) × Called g j (x, tt) true h))
        → ((x : ℕ) (q : F) → Called g f (x, tt) true q → p x ≡ true)
        → ((x : ℕ) (q : F) → Called g f (x, tt) false q → (q ≡ f) × (p x ≡ false))
        → r ≡ any_from p n a
    any_in_range a b n e d ran told denied = any_of_cases r n a (cases_from_any u f r (λ x. p x ≡ true) (λ x. p x ≡ false) ran (YieldsList-from_range a b n e d) told denied)
