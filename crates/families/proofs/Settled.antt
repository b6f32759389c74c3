-- In every area that calls lead to from a fresh one, the kept numbers of immediate keys are 0, also those that open levels saved.
-- Assumes nothing.
use mathlib.Core.Path.{◌≡◌, refl}
use mathlib.Core.Bool.{Bool, true, false}
use mathlib.Core.List.{List, [], ◌∷◌}
use Prim.Native.Nat.{ℕ, zero, suc, ◌-◌}
use lib.IntN.{ℤ}
use lib.ListN.{length, replicate}
use Rattle.schema.specs.Ranges.{all}
use Rattle.schema.specs.Records.{ForeignKey, Schema}
use Rattle.rules.specs.declared.Refusal.{Refusal}
use Rattle.rules.specs.Lists.{𝟘}
use Rattle.rules.specs.Values.{same_word, all_zero}
use Rattle.rules.specs.Rows.{Row}
use Rattle.rules.specs.Book.{Level, Work, Book, cleared, push, close, back_to, back, ended, first_kept, abort, fresh}
use Rattle.rules.specs.Calls.{Call, malformed, insert, update, delete, begin, savepoint, release, rollback_to, rollback, commit, delete_where, update_where, parse}
use Rattle.rules.specs.State.{in_transaction}
use Rattle.rules.specs.Change.{Result, go, stop}
use Rattle.rules.specs.Statement.{Turn, check, demand, immediate_zero, enforced, after_statement, settle, conclude, statement, row_statement}
use Rattle.rules.specs.Step.{opened, committed, released, rolled, act, step, run_all, run}
use Rattle.bridge.proofs.Tests.{or_right, and_both, all_cons, all_head, all_tail, all_drop}

-- an open level's saved numbers of immediate keys are 0
unfoldable pub saved_zero : Schema → Level → Bool
saved_zero s l = immediate_zero s.keys l.kept

pub record Settled (s : Schema) (b : Book) : Type 0 where
  pub now : immediate_zero s.keys b.kept ≡ true
  pub saved : all (saved_zero s) b.levels ≡ true

zeros_immediate : (ks : List ForeignKey) (xs : List ℤ) → all_zero xs ≡ true → immediate_zero ks xs ≡ true
unfolding immediate_zero all_zero
zeros_immediate ks [] h = refl
zeros_immediate [] (x ∷ xs) h = refl
zeros_immediate (k ∷ ks) (x ∷ xs) h =
    and_both (or_right k.deferred (same_word 𝟘 x) (all_head (same_word 𝟘) x xs h)) (zeros_immediate ks xs (all_tail (same_word 𝟘) x xs h))

enforced_immediate : (s : Schema) (i : Bool) (kept : List ℤ) → enforced i s kept ≡ true → immediate_zero s.keys kept ≡ true
unfolding enforced
enforced_immediate s true kept h = h
enforced_immediate s false kept h = zeros_immediate s.keys kept h

first_zero : (s : Schema) (ls : List Level) (d : List ℤ) → all (saved_zero s) ls ≡ true → immediate_zero s.keys d ≡ true → immediate_zero s.keys (first_kept ls d) ≡ true
unfolding first_kept saved_zero
first_zero s [] d h z = z
first_zero s (l ∷ ls) d h z = first_zero s ls l.kept (all_tail (saved_zero s) l ls h) (all_head (saved_zero s) l ls h)

module _ {s : Schema} {b : Book} (z : Settled s b) where
  settled_check : (t : Bool) (r : Refusal) (k : Book → Turn) → Settled s (k b).1 → Settled s (check t r k b).1
  unfolding check
  settled_check true r k h = h
  settled_check false r k h = z

  settled_demand : (t : Bool) (r : Refusal) (k : Book → Turn) → (t ≡ true → Settled s (k b).1) → Settled s (demand t r k b).1
  unfolding demand cleared
  settled_demand true r k h = h refl
  settled_demand false r k h = record { now = z.now; saved = z.saved }

  settled_after : (w : Work) (kept : List ℤ) → enforced (in_transaction b.levels) s kept ≡ true → Settled s (after_statement w kept b)
  unfolding after_statement
  settled_after w kept e = record { now = enforced_immediate s (in_transaction b.levels) kept e; saved = z.saved }

  settled_conclude : (x : Result) → Settled s (conclude s x b).1
  unfolding conclude settle cleared
  settled_conclude (stop c w) = record { now = z.now; saved = z.saved }
  settled_conclude (go w) = settled_demand _ _ _ (λ f. settled_demand _ _ _ (λ e. settled_after w _ e))

  settled_statement : (body : Work → Result) → Settled s (statement s body b).1
  unfolding statement
  settled_statement body = settled_conclude (body b.work)

  settled_row : (fits : Bool) (t r : ℕ) (new : Row) → Settled s (row_statement s fits t r new b).1
  unfolding row_statement
  settled_row fits t r new = settled_check fits _ _ (settled_statement _)

  settled_opened : (o : ℕ) (rest : List (List ℤ)) → Settled s (opened o rest b).1
  unfolding opened push saved_zero
  settled_opened o [] = z
  settled_opened o (x ∷ rest) = record { now = z.now; saved = all_cons (saved_zero s) _ b.levels z.now z.saved }

  settled_committed : Settled s (committed b).1
  unfolding committed ended all
  settled_committed = settled_check _ _ _ (record { now = z.now; saved = refl })

  settled_released : (first : Bool) (n : ℕ) → Settled s (released first n b).1
  unfolding released close
  settled_released true n = settled_committed
  settled_released false n = record { now = z.now; saved = all_drop (saved_zero s) n b.levels z.saved }

  settled_back_to : (ls : List Level) (n : ℕ) → all (saved_zero s) ls ≡ true → Settled s (back_to ls n b)
  unfolding back_to saved_zero
  settled_back_to [] n h = z
  settled_back_to (l ∷ ls) n h = record { now = all_head (saved_zero s) l ls h; saved = h }

  settled_abort : Settled s (abort b)
  unfolding abort ended all
  settled_abort = record { now = first_zero s b.levels b.kept z.saved z.now; saved = refl }

  settled_act : (c : Call) → Settled s (act s c b).1
  unfolding act rolled back
  settled_act malformed = z
  settled_act (insert t r m vs) = settled_row _ t r _
  settled_act (update t r m vs) = settled_row _ t r _
  settled_act (delete t r) = settled_row _ t r _
  settled_act begin = settled_check _ _ _ (settled_opened _ _)
  settled_act savepoint = settled_opened _ _
  settled_act (release a) = settled_check _ _ _ (settled_released _ _)
  settled_act (rollback_to a) = settled_check _ _ _ (settled_back_to _ _ (all_drop (saved_zero s) (length b.levels - a) b.levels z.saved))
  settled_act rollback = settled_check _ _ _ settled_abort
  settled_act commit = settled_check _ _ _ settled_committed
  settled_act (delete_where t c m v) = settled_statement _
  settled_act (update_where t c m v d y) = settled_statement _

  pub settled_step : (c : List ℤ) → Settled s (step s c b).1
  unfolding step
  settled_step c = settled_check _ _ _ (settled_check _ _ _ (settled_act (parse c)))

fresh_zero : (ks : List ForeignKey) (n : ℕ) → immediate_zero ks (replicate n 𝟘) ≡ true
unfolding immediate_zero same_word
fresh_zero ks zero = refl
fresh_zero [] (suc n) = refl
fresh_zero (k ∷ ks) (suc n) = and_both (or_right k.deferred true refl) (fresh_zero ks n)

pub settled_fresh : (s : Schema) → Settled s (fresh s)
unfolding fresh all
settled_fresh s = record { now = fresh_zero s.keys 32; saved = refl }

pub settled_run : (s : Schema) (cs : List (List ℤ)) (b : Book) → Settled s b → Settled s (run s cs b).1
unfolding run_all
settled_run s [] b z = z
settled_run s (c ∷ cs) b z = settled_run s cs (step s c b).1 (settled_step z c)
