-- What holds of a fresh area's rows, and is kept by row changes that are let pass, holds on every area that calls lead to.
-- Assumes nothing.
use mathlib.Core.Path.{◌≡◌, refl, sym, ◌∙◌, ap, subst}
use mathlib.Core.Bool.{Bool, true, false, not, ◌&&◌, false≢true}
use mathlib.Core.List.{List, [], ◌∷◌}
use Prim.Native.Nat.{ℕ, zero, suc, pred, ◌-◌}
use lib.IntN.{ℤ}
use lib.ListN.{length, get_or, take, drop}
use Rattle.schema.specs.Ranges.{all}
use Rattle.schema.specs.Records.{Schema}
use Rattle.schema.specs.Fields.{schema_of}
use Rattle.schema.proofs.RangeLaws.{and_left, and_right}
use Rattle.schema.proofs.SchemaLaws.{accepted_valid}
use Rattle.std.specs.Prelude.{Ok, Err}
use Rattle.rules.specs.Refusals.{Answer, accepted}
use Rattle.rules.specs.Rows.{Row, Tables}
use Rattle.rules.specs.Book.{Work, Book, write, fresh}
use Rattle.rules.specs.Calls.{Call, malformed, insert, update, delete, begin, savepoint, release, rollback_to, rollback, commit, delete_where, update_where, parse}
use Rattle.rules.specs.Change.{admits}
use Rattle.rules.specs.Statement.{Turn}
use Rattle.rules.specs.Step.{step, run_all, run, Logged}
use Rattle.rules.specs.Strike.{Struck, joined, place, mark, marks, strike, calls_of}
use Rattle.bridge.specs.Fit.{work_of}
use Rattle.bridge.proofs.Tests.{fails, all_cons, all_head, all_tail, all_append}
use Rattle.laws.specs.UsedKeys.{rolls_back}
use Rattle.laws.specs.Reached.{Reached}
use Rattle.laws.proofs.Struck.{invariant}
use Rattle.laws.proofs.Demand3.{fresh_good, fresh_none}
use Rattle.laws.proofs.Writes.{Admitted, done, next, Wrote, refused, wrote, call_wrote}
use Rattle.laws.proofs.Reached.{reached_book, reached_view}

-- ---- what is left has neither refused calls nor rollbacks

-- an accepted call that rolls nothing back
straight : Logged → Bool
straight x = accepted x.1 && not (rolls_back (parse x.0))

all_take : {A : Type 0} (p : A → Bool) (n : ℕ) (xs : List A) → all p xs ≡ true → all p (take n xs) ≡ true
unfolding all
all_take p zero xs h = refl
all_take p (suc n) [] h = refl
all_take p (suc n) (x ∷ xs) h = all_cons p x (take n xs) (all_head p x xs h) (all_take p n xs (all_tail p x xs h))

straight_joined : (x : Logged) (line : List Logged) → straight x ≡ true → all straight line ≡ true → all straight (joined x line) ≡ true
unfolding all
straight_joined x line e h = all_append straight line (x ∷ []) h (all_cons straight x [] e refl)

straight_place : (c : Call) (x : Logged) (k : Struck) → (rolls_back c ≡ false → straight x ≡ true) → all straight k.line ≡ true → all straight (place c x k).line ≡ true
unfolding place rolls_back
straight_place malformed x k e h = h
straight_place (insert t r m vs) x k e h = straight_joined x k.line (e refl) h
straight_place (update t r m vs) x k e h = straight_joined x k.line (e refl) h
straight_place (delete t r) x k e h = straight_joined x k.line (e refl) h
straight_place begin x k e h = straight_joined x k.line (e refl) h
straight_place savepoint x k e h = straight_joined x k.line (e refl) h
straight_place (release a) x k e h = straight_joined x k.line (e refl) h
straight_place (rollback_to a) x k e h = all_take straight (get_or (drop (length k.pile - a) k.pile) 0 0) k.line h
straight_place rollback x k e h = all_take straight (pred (get_or k.pile (pred (length k.pile)) 0)) k.line h
straight_place commit x k e h = straight_joined x k.line (e refl) h
straight_place (delete_where t c m v) x k e h = straight_joined x k.line (e refl) h
straight_place (update_where t c m v d y) x k e h = straight_joined x k.line (e refl) h

straight_mark : (ws : List ℤ) (a : Answer) (k : Struck) → all straight k.line ≡ true → all straight (mark (parse ws) ws a k).line ≡ true
unfolding mark straight accepted
straight_mark ws (Err r) k h = h
straight_mark ws (Ok d) k h = straight_place (parse ws) (ws, Ok d) k (ap not) h

straight_marks : (log : List Logged) (k : Struck) → all straight k.line ≡ true → all straight (marks log k).line ≡ true
unfolding marks
straight_marks [] k h = h
straight_marks (x ∷ log) k h = straight_marks log _ (straight_mark x.0 x.1 k h)

straight_left : (log : List Logged) → all straight (strike log).line ≡ true
unfolding strike all
straight_left log = straight_marks log (record { line = []; pile = [] }) refl

-- ---- a claim about the rows, kept by row changes that are let pass

module _ (s : Schema) (P : Tables → Type 0) (kept : (t r : ℕ) (new : Row) (w : Work) → admits s t r new w ≡ Ok tt → P w.tabs → P (write t r new w).tabs) where
  kept_writes : {w v : Work} → Admitted s w v → P w.tabs → P v.tabs
  kept_writes done h = h
  kept_writes (next {w} t r new e p) h = kept_writes p (kept t r new w e h)

  kept_turn : {b : Book} {x : Turn} → Wrote s b x → accepted x.0 ≡ true → P b.work.tabs → P x.1.work.tabs
  unfolding accepted
  kept_turn refused e h = absurd (false≢true e)
  kept_turn (wrote p q) e h = subst P (sym q) (kept_writes p h)

  kept_run : (cs : List (List ℤ)) (b : Book) → all straight (run s cs b).0 ≡ true → P b.work.tabs → P (run s cs b).1.work.tabs
  unfolding run_all straight
  kept_run [] b e h = h
  kept_run (c ∷ cs) b e h =
      let first = all_head straight (c, (step s c b).0) (run s cs (step s c b).1).0 e in
      let rest = all_tail straight (c, (step s c b).0) (run s cs (step s c b).1).0 e in
      let straight_on = fails (rolls_back (parse c)) (and_right (accepted (step s c b).0) (not (rolls_back (parse c))) first) in
      kept_run cs (step s c b).1 rest (kept_turn (call_wrote s b c straight_on) (and_left (accepted (step s c b).0) (not (rolls_back (parse c))) first) h)

-- what is left leads from a fresh area to the same rows
module _ {bs : List ℕ} {ws : List ℤ} (reached : Reached bs ws) (P : Tables → Type 0)
    (kept : (t r : ℕ) (new : Row) (w : Work) → admits (schema_of bs) t r new w ≡ Ok tt → P w.tabs → P (write t r new w).tabs) where
  pub reached_kept : P (fresh (schema_of bs)).work.tabs → P (work_of (schema_of bs) ws).tabs
  unfolding work_of reached_book
  reached_kept h =
      let s : Schema = schema_of bs in
      let log : List Logged = (run s reached.calls (fresh s)).0 in
      let left = (invariant (accepted_valid bs reached.accepted) (fresh_good bs reached.accepted) (fresh_none s) reached.calls).now.runs in
      let end : P (run s (calls_of (strike log).line) (fresh s)).1.work.tabs
      = kept_run s P kept (calls_of (strike log).line) (fresh s) (ap (λ (r : List Logged × Book). all straight r.0) left ∙ straight_left log) h in
      subst (λ (b : Book). P b.work.tabs) (ap (λ (r : List Logged × Book). r.1) left ∙ sym (reached_view reached)) end
