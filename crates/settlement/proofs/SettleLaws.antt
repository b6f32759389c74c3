-- What a statement comes to, case by case.
-- Assumes nothing.
use mathlib.Core.Path.{◌≡◌, refl, sym, ◌∙◌, ap}
use mathlib.Core.Bool.{Bool, true, false, ◌&&◌, ◌||◌}
use mathlib.Core.List.{List, [], ◌∷◌}
use Prim.Native.Nat.{ℕ, zero, suc, ◌+◌, ◌≤◌, ◌<◌}
use native.Mathlib.Omega.{arith}
use lib.IntN.{ℤ}
use lib.ListN.{length, get_or, drop}
use lib.Seq.{drop-cons, drop-length}
use Rattle.schema.specs.Ranges.{all_from}
use Rattle.schema.specs.Records.{ForeignKey, Schema, no_key}
use Rattle.rules.specs.declared.Refusal.TheVariants.{KeptOutOfRange, OrphansLeft}
use Rattle.std.specs.Prelude.{Ok, Err}
use Rattle.rules.specs.Lists.{𝟘}
use Rattle.rules.specs.Values.{same_word, all_zero}
use Rattle.rules.specs.Refusals.{failing}
use Rattle.rules.specs.Book.{Book, with_work, emptied}
use Rattle.rules.specs.State.{in_transaction, kept_in_range}
use Rattle.rules.specs.Statement.{immediate_zero, enforced, journal_after, after_statement}
use Rattle.levels.specs.Parts.{with_kept}
use Rattle.settlement.specs.Settled.{settle_verdict}

-- ---- immediate keys, one after the other

module _ (ks : List ForeignKey) (xs : List ℤ) where
  -- key k lets its kept number pass
  abbrev pub passes_at : ℕ → Bool
  passes_at k = (get_or ks k no_key).deferred || same_word 𝟘 (get_or xs k 𝟘)

  immediate_at : (k : ℕ) → k < length ks → k < length xs → passes_at k && immediate_zero (drop (suc k) ks) (drop (suc k) xs) ≡ immediate_zero (drop k ks) (drop k xs)
  unfolding immediate_zero
  immediate_at k h l = rw (drop-cons ks k no_key h, drop-cons xs k 𝟘 l) refl

  immediate_end : (ys : List ℤ) → immediate_zero [] ys ≡ true
  unfolding immediate_zero
  immediate_end [] = refl
  immediate_end (y ∷ ys) = refl

  immediate_from : (n k : ℕ) → k + n ≡ length ks → length ks ≤ length xs → all_from passes_at n k ≡ immediate_zero (drop k ks) (drop k xs)
  unfolding all_from
  immediate_from zero k h l = let e : k ≡ length ks = omega arith in sym (rw (e, drop-length ks) (immediate_end (drop (length ks) xs)))
  immediate_from (suc n) k h l = ap (λ t. passes_at k && t) (immediate_from n (suc k) (omega arith) l) ∙ immediate_at k (omega arith) (omega arith)

  pub immediate_is : {n : ℕ} → n ≡ length ks → length ks ≤ length xs → all_from passes_at n 0 ≡ immediate_zero ks xs
  immediate_is {n} h l = immediate_from n 0 (omega arith) l

-- ---- 20: inside a transaction immediate keys, outside every key

module _ (s : Schema) (kept : List ℤ) where
  pub enforced_inside : {inside : Bool} → inside ≡ true → enforced inside s kept ≡ immediate_zero s.keys kept
  unfolding enforced
  enforced_inside e = rw e refl

  pub enforced_outside : {inside : Bool} → inside ≡ false → enforced inside s kept ≡ all_zero kept
  unfolding enforced
  enforced_outside e = rw e refl

-- ---- the verdict: 19, then 20

module _ (s : Schema) (inside : Bool) (kept : List ℤ) where
  pub verdict_19 : kept_in_range s s.keys kept ≡ false → settle_verdict s inside kept ≡ Err KeptOutOfRange
  unfolding settle_verdict failing
  verdict_19 e = rw e refl

  pub verdict_20 : kept_in_range s s.keys kept ≡ true → enforced inside s kept ≡ false → settle_verdict s inside kept ≡ Err OrphansLeft
  unfolding settle_verdict failing
  verdict_20 e f = rw (e, f) refl

  pub verdict_pass : kept_in_range s s.keys kept ≡ true → enforced inside s kept ≡ true → settle_verdict s inside kept ≡ Ok tt
  unfolding settle_verdict failing
  verdict_pass e f = rw (e, f) refl

-- ---- the book after an accepted statement

module _ (b : Book) (kept : List ℤ) where
  pub after_inside : in_transaction b.levels ≡ true → after_statement b.work kept b ≡ with_kept kept b
  unfolding after_statement journal_after
  after_inside e = rw e refl

  pub after_outside : in_transaction b.levels ≡ false → after_statement b.work kept b ≡ with_work (emptied b.work) (with_kept kept b)
  unfolding after_statement journal_after
  after_outside e = rw e refl
