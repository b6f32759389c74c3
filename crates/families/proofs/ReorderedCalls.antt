-- Calls on books that differ in the order of some journal records: whatever is called, both give the same answer and go on to such books, or to the same one.
-- Assumes nothing.
use mathlib.Core.Path.{◌≡◌, refl, ap₂}
use mathlib.Core.Bool.{true}
use mathlib.Core.List.{List, [], ◌∷◌, ◌++◌}
use Prim.Native.Nat.{ℕ}
use lib.IntN.{ℤ}
use Rattle.schema.specs.Records.{Schema}
use Rattle.schema.proofs.SchemaLaws.{Valid}
use Rattle.rules.specs.declared.Refusal.TheVariants.{BadCall, Damaged}
use Rattle.rules.specs.Book.{Entry, Book}
use Rattle.rules.specs.Calls.{Call, malformed, insert, update, delete, begin, savepoint, release, rollback_to, rollback, commit, delete_where, update_where, parse, allowed}
use Rattle.rules.specs.State.{undamaged, level_open}
use Rattle.rules.specs.Statement.{check}
use Rattle.rules.specs.Step.{act, step, Logged, run_all, run}
use Rattle.laws.proofs.Back.{Good}
use Rattle.laws.proofs.Good.{good_undamaged}
use Rattle.families.specs.Families.{Joined}
use Rattle.families.proofs.CallKinds.{ChangesRows, inserting, updating, deleting, deleting_found, updating_found}
use Rattle.families.proofs.Statements.{StatementOf, statement_of}
use Rattle.families.proofs.BookCalls.{Lasting, good_lasting, lasting_step}
use Rattle.families.proofs.Reordered.{with_used, Order, Reordering, Alike, AlikeTurns, alike_check}
use Rattle.families.proofs.Reordered.Alike.{same, reordered}
use Rattle.families.proofs.ReorderedStatements.{alike_statement}
use Rattle.families.proofs.ReorderedLevels.{alike_opened, alike_committed, alike_released, alike_back, alike_abort}

module _ (s : Schema) (v : Valid s) (o : Order) (b : Book) (since : List Entry) (p : Reordering o b since) where
  -- the one book, and the other
  abbrev pub x : Book
  x = with_used (since ++ (o.one ++ o.old)) b

  abbrev pub y : Book
  y = with_used (since ++ (o.other ++ o.old)) b

  alike : Alike o x y
  alike = reordered b since p

  alike_rows : {t : ℕ} {c : Call} → ChangesRows t c → allowed s c ≡ true → AlikeTurns o (act s c x) (act s c y)
  alike_rows {t} {c} r h =
      let st : StatementOf s (Joined s t) c = statement_of s v r h in
      rw (st.runs x, st.runs y) (alike_check o alike _ _ _ _ (λ f. alike_statement s o b since p (Joined s t) st.body st.local))

  alike_act : (c : Call) → allowed s c ≡ true → AlikeTurns o (act s c x) (act s c y)
  unfolding act level_open
  alike_act malformed h = record { answer = refl; books = alike }
  alike_act (insert t r m vs) h = alike_rows inserting h
  alike_act (update t r m vs) h = alike_rows updating h
  alike_act (delete t r) h = alike_rows deleting h
  alike_act begin h = alike_check o alike _ _ _ _ (λ f. alike_opened o b since p _ _)
  alike_act savepoint h = alike_opened o b since p _ _
  alike_act (release a) h = alike_check o alike _ _ _ _ (alike_released o b since p a)
  alike_act (rollback_to a) h = alike_check o alike _ _ _ _ (alike_back o b since p a)
  alike_act rollback h = alike_check o alike _ _ _ _ (λ f. alike_abort o b since p)
  alike_act commit h = alike_check o alike _ _ _ _ (λ f. alike_committed o b since p)
  alike_act (delete_where t c m w) h = alike_rows deleting_found h
  alike_act (update_where t c m w d z) h = alike_rows updating_found h

module _ (s : Schema) (v : Valid s) (o : Order) where
  act_alike : {b b' : Book} → Alike o b b' → (c : Call) → allowed s c ≡ true → AlikeTurns o (act s c b) (act s c b')
  act_alike same c h = record { answer = refl; books = same }
  act_alike (reordered b since p) c h = alike_act s v o b since p c h

  step_alike : {b b' : Book} → Good s b → Good s b' → Alike o b b' → (c : List ℤ) → AlikeTurns o (step s c b) (step s c b')
  unfolding step check
  step_alike {b} {b'} g g' a c =
      alike_check o a (allowed s (parse c)) BadCall (check (undamaged s b) Damaged (act s (parse c))) (check (undamaged s b') Damaged (act s (parse c)))
      (λ h. rw (good_undamaged g, good_undamaged g') (act_alike a (parse c) h))

  -- and so on, for books that calls led to
  pub record AlikeRuns (r r' : List Logged × Book) : Type 0 where
    pub answers : r'.0 ≡ r.0
    pub books : Alike o r.1 r'.1

  pub run_alike : {b b' : Book} → Lasting s b → Lasting s b' → Alike o b b' → (cs : List (List ℤ)) → AlikeRuns (run s cs b) (run s cs b')
  unfolding run_all
  run_alike l l' a [] = record { answers = refl; books = a }
  run_alike {b} {b'} l l' a (c ∷ cs) =
      let t : AlikeTurns o (step s c b) (step s c b') = step_alike (good_lasting l) (good_lasting l') a c in
      let r : AlikeRuns (run s cs (step s c b).1) (run s cs (step s c b').1) = run_alike {b = (step s c b).1} {b' = (step s c b').1} (lasting_step v l c _ refl) (lasting_step v l' c _ refl) t.books cs in
      record { answers = ap₂ (λ a l. (c, a) ∷ l) t.answer r.answers; books = r.books }
