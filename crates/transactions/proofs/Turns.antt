-- What the calls of transactions come to, case by case.
-- Assumes nothing.
use mathlib.Core.Path.{◌≡◌, refl, sym, ◌∙◌, ap}
use mathlib.Core.Bool.{true, false, not, ◌&&◌}
use mathlib.Core.List.{List, [], ◌∷◌, ◌++◌}
use Prim.Native.Nat.{ℕ, suc, ◌-◌, ◌≤◌, ◌<◌}
use native.Mathlib.Omega.{arith}
use borrow.Author.Tests.{le-leb, lt-leb}
use lib.Dec.{leb, eqb}
use lib.IntN.{ℤ}
use lib.ListN.{length, get_or, drop}
use lib.Seq.{drop-length}
use Rattle.schema.specs.Records.{Schema}
use Rattle.rules.specs.declared.Refusal.TheVariants.{LevelState, LevelsFull, CommitWithOrphans}
use Rattle.rules.specs.Refusals.{did}
use Rattle.std.specs.Prelude.{Err}
use Rattle.rules.specs.Lists.{𝟘}
use Rattle.rules.specs.Values.{all_zero}
use Rattle.rules.specs.Book.{Level, Book, with_work, emptied, push, close, back, ended, abort, zero_levels}
use Rattle.rules.specs.Calls.{begin, savepoint, release, rollback_to, rollback, commit}
use Rattle.rules.specs.State.{in_transaction, level_open}
use Rattle.rules.specs.Statement.{check}
use Rattle.rules.specs.Step.{opened, opener_of, committed, released, rolled, act}
use Rattle.levels.proofs.LevelReads.{inside_is}
use Rattle.levels.specs.Parts.{with_opener}
pub use Rattle.bridge.proofs.HoldLaws.{turn_words, turn_same}

module _ (ls : List Level) where
  inside : 0 < length ls → in_transaction ls ≡ true
  inside h = inside_is ls ∙ le-leb 1 (length ls) h

  outside : length ls ≡ 0 → in_transaction ls ≡ false
  outside h = inside_is ls ∙ lt-leb 1 (length ls) (omega arith)

first : (xs : List (List ℤ)) → 0 < length xs → xs ≡ get_or xs 0 [] ∷ drop 1 xs
first [] h = absurd (omega arith)
first (x ∷ xs) h = refl

none : (xs : List (List ℤ)) → length xs ≡ 0 → xs ≡ []
none [] h = refl
none (x ∷ xs) h = absurd (omega arith)

module _ (s : Schema) (b : Book) where
  opens : (o : ℕ) → 0 < length b.closed → opened o b.closed b ≡ (did 0 𝟘, push o (drop 1 b.closed) b)
  unfolding opened
  opens o h = ap (λ c. opened o c b) (first b.closed h)

  pub begin_inside : 0 < length b.levels → act s begin b ≡ (Err LevelState, b)
  unfolding act check
  begin_inside h = rw (inside b.levels h) refl

  pub begin_opens : length b.levels ≡ 0 → 0 < length b.closed → act s begin b ≡ (did 0 𝟘, push 1 (drop 1 b.closed) b)
  unfolding act check
  begin_opens h k = rw (outside b.levels h) (opens 1 k)

  pub savepoint_full : length b.closed ≡ 0 → act s savepoint b ≡ (Err LevelsFull, b)
  unfolding act opened
  savepoint_full h = ap (λ c. opened (opener_of (in_transaction b.levels) b.opener) c b) (none b.closed h)

  pub savepoint_opens : (o : ℕ) → o ≡ opener_of (in_transaction b.levels) b.opener → 0 < length b.closed → act s savepoint b ≡ (did 0 𝟘, push o (drop 1 b.closed) b)
  unfolding act
  savepoint_opens o e h = rw e (opens _ h)

  pub commit_outside : length b.levels ≡ 0 → act s commit b ≡ (Err LevelState, b)
  unfolding act check
  commit_outside h = rw (outside b.levels h) refl

  pub commit_inside : 0 < length b.levels → act s commit b ≡ committed b
  unfolding act check
  commit_inside h = rw (inside b.levels h) refl

  pub commit_refused : all_zero b.kept ≡ false → committed b ≡ (Err CommitWithOrphans, b)
  unfolding committed check
  commit_refused e = rw e refl

  pub commit_ends : all_zero b.kept ≡ true → committed b ≡ (did 0 𝟘, ended b.kept b.work b)
  unfolding committed check
  commit_ends e = rw e refl

  pub release_refused : (a : ℕ) → level_open b a ≡ false → act s (release a) b ≡ (Err LevelState, b)
  unfolding act check
  release_refused a e = rw e refl

  pub release_first : (a : ℕ) → level_open b a ≡ true → a ≡ 1 → act s (release a) b ≡ committed b
  unfolding act check released
  release_first a e q = rw (e, q) refl

  pub release_closes : (a : ℕ) → level_open b a ≡ true → eqb a 1 ≡ false → act s (release a) b ≡ (did 0 𝟘, close (suc (length b.levels) - a) b)
  unfolding act check released
  release_closes a e q = rw (e, q) refl

  pub back_refused : (a : ℕ) → level_open b a ≡ false → act s (rollback_to a) b ≡ (Err LevelState, b)
  unfolding act check
  back_refused a e = rw e refl

  pub back_rolls : (a : ℕ) → level_open b a ≡ true → act s (rollback_to a) b ≡ rolled (back (length b.levels - a) b) b
  unfolding act check
  back_rolls a e = rw e refl

  pub rollback_outside : length b.levels ≡ 0 → act s rollback b ≡ (Err LevelState, b)
  unfolding act check
  rollback_outside h = rw (outside b.levels h) refl

  pub rollback_inside : 0 < length b.levels → act s rollback b ≡ rolled (abort b) b
  unfolding act check
  rollback_inside h = rw (inside b.levels h) refl

-- a transaction's end: every level closed, the opener 0, the journal emptied
pub ended_parts : (b : Book) → ended b.kept b.work b ≡ with_work (emptied b.work) (with_opener 0 (close (length b.levels) b))
unfolding ended close
ended_parts b = λ i. record { opener = 0; kept = b.kept; levels = sym (drop-length b.levels) i; closed = zero_levels (length b.levels) ++ b.closed; work = emptied b.work }

-- the test for an open level
pub open_is : (b : Book) (a n o : ℕ) → 1 ≤ a → n ≡ length b.levels → o ≡ b.opener → leb a n && not (eqb a 1 && eqb o 1) ≡ level_open b a
unfolding level_open
open_is b a n o h p q = rw (le-leb 1 a h, p, q) refl
