-- One call on a book, and a list of calls.
-- Assumes nothing.
use Rattle.std.specs.Prelude.{Bool, true, false, not, List, [], ◌∷◌, ℕ, suc, ◌-◌, eqb, ℤ, length, Err}
use Rattle.schema.specs.Records.{Schema, table_of}
use Rattle.rules.specs.declared.Refusal.TheVariants.{BadCall, Damaged, LevelState, LevelsFull, CommitWithOrphans}
use Rattle.rules.specs.Refusals.{Answer, did}
use Rattle.rules.specs.Lists.{𝟘, sum, less}
use Rattle.rules.specs.Values.{all_zero}
use Rattle.rules.specs.Rows.{row_at, live, live_image, deleted_image}
use Rattle.rules.specs.Book.{Book, push, close, back, ended, abort}
use Rattle.rules.specs.Calls.{Call, malformed, insert, update, delete, begin, savepoint, release, rollback_to, rollback, commit, delete_where, update_where, seeks_null, sets_null, parse, allowed}
use Rattle.rules.specs.State.{in_transaction, undamaged, level_open}
use Rattle.rules.specs.Found.{is_found, row_set, rows_found}
use Rattle.rules.specs.Statement.{Turn, check, statement, row_statement}

-- the next level opens: "13: savepoint with nine levels open"
unfoldable pub opened : ℕ → List (List ℤ) → Book → Turn
opened opener [] b = (Err LevelsFull, b)
opened opener (x ∷ rest) b = (did 0 𝟘, push opener rest b)

-- who opened the transaction: 2 where a savepoint opens it
unfoldable pub opener_of : Bool → ℕ → ℕ
opener_of true n = n
opener_of false n = 2

-- "21: commit with a kept number not zero; all levels stay open"
unfoldable pub committed : Book → Turn
committed b = check (all_zero b.kept) CommitWithOrphans (λ b. (did 0 𝟘, ended b.kept b.work b)) b

-- "Releasing level 1 opened by savepoint is a commit."
unfoldable pub released : Bool → ℕ → Book → Turn
released true n b = committed b
released false n b = (did 0 𝟘, close n b)

-- a rollback from b to b': rows changed counts journal records undone
unfoldable pub rolled : Book → Book → Turn
rolled b' b = (did (length b.work.used - length b'.work.used) (sum (less b'.kept b.kept)), b')

-- the call, by kind. Kinds 10 and 11 are one statement each: "Immediate keys are judged once, after the last row."
unfoldable pub act : Schema → Call → Book → Turn
act s malformed b = (Err BadCall, b)
act s (insert t r m vs) b = row_statement s (not (live (row_at t r b.work.tabs))) t r (live_image (table_of s t).columns m vs) b
act s (update t r m vs) b = row_statement s (live (row_at t r b.work.tabs)) t r (live_image (table_of s t).columns m vs) b
act s (delete t r) b = row_statement s (live (row_at t r b.work.tabs)) t r deleted_image b
act s begin b = check (not (in_transaction b.levels)) LevelState (opened 1 b.closed) b
act s savepoint b = opened (opener_of (in_transaction b.levels) b.opener) b.closed b
act s (release a) b = check (level_open b a) LevelState (released (eqb a 1) (suc (length b.levels) - a)) b
act s (rollback_to a) b = check (level_open b a) LevelState (λ b. rolled (back (length b.levels - a) b) b) b
act s rollback b = check (in_transaction b.levels) LevelState (λ b. rolled (abort b) b) b
act s commit b = check (in_transaction b.levels) LevelState committed b
act s (delete_where t c m v) b = statement s (rows_found s t (is_found (table_of s t).folded c (seeks_null m) v) (λ x. deleted_image)) b
act s (update_where t c m v d y) b = statement s (rows_found s t (is_found (table_of s t).folded c (seeks_null m) v) (row_set (table_of s t).columns d (sets_null m) y)) b

-- "Order: .. 4, 10, then 11 to 13, .."
unfoldable pub step : Schema → List ℤ → Book → Turn
step s ws b = check (allowed s (parse ws)) BadCall (check (undamaged s b) Damaged (act s (parse ws))) b

-- a call's words with its answer
abbrev pub Logged : Type 0
Logged = List ℤ × Answer

-- calls one after the other: each with its answer, and the last state
module _ {A : Type 0} (turn : List ℤ → A → Answer × A) where
  unfoldable pub run_all : List (List ℤ) → A → List Logged × A
  run_all [] a = ([], a)
  run_all (c ∷ cs) a =
      let t : Answer × A = turn c a in
      let r : List Logged × A = run_all cs t.1 in
      ((c, t.0) ∷ r.0, r.1)

abbrev pub run : Schema → List (List ℤ) → Book → List Logged × Book
run s = run_all (step s)
