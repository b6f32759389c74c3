-- How much one delete can touch: an accepted delete changes at most as many rows as the sum, and with that much journal free it is never refused by 15.
-- Assumes nothing.
use mathlib.Core.Path.{◌≡◌, refl, sym, ap, ◌∙◌, subst}
use mathlib.Core.Bool.{Bool, true, false}
use mathlib.Core.List.{List}
use mathlib.Core.Logic.{◌≢◌}
use Prim.Native.Nat.{ℕ}
use native.Mathlib.Omega.{arith}
use lib.Dec.{eqb→eq}
use lib.IntN.{ℤ}
use lib.ListN.{length, get_or}
use Rattle.schema.specs.Check.{SchemaAnswer, Accepted, check_schema}
use Rattle.schema.specs.declared.SchemaError.TheVariants.{Malformed}
use Rattle.schema.specs.Records.{Schema, table_of}
use Rattle.schema.specs.Sizes.{area_size}
use Rattle.schema.specs.Fields.{schema_of}
use Rattle.schema.proofs.RangeLaws.{and_left}
use Rattle.rules.specs.declared.Refusal.{Refusal}
use Rattle.rules.specs.declared.Refusal.TheVariants.{SchemaMalformed, WrongLength, BadCall, Damaged, RowState, JournalFull, KeptOutOfRange, OrphansLeft}
use Rattle.std.specs.Prelude.{Ok, Err}
use Rattle.rules.specs.Lists.{𝟘}
use Rattle.rules.specs.Values.{nat_of}
use Rattle.rules.specs.Refusals.{Verdict, Answer, number, shown}
use Rattle.rules.specs.Rows.{deleted_image, live}
use Rattle.rules.specs.Book.{Work, Book}
use Rattle.rules.specs.Calls.{Call, malformed, insert, update, delete, begin, savepoint, release, rollback_to, rollback, commit, delete_where, update_where, parse, seeks_null}
use Rattle.rules.specs.Change.{Result, change}
use Rattle.rules.specs.Found.{is_found, rows_found}
use Rattle.rules.specs.Statement.{Turn, check, demand, settle, conclude, statement, row_statement}
use Rattle.rules.specs.State.{undamaged}
use Rattle.rules.specs.Step.{act, step}
use Rattle.rules.specs.Area.{AreaTurn, words, view, legible, ensure, area_step}
use Rattle.rules.specs.Engine.{under_schema, call_on}
use Rattle.rules.specs.Questions.{area_verdict, number_answer}
use Rattle.rules.specs.DeleteBound.{delete_bound, bounded, Deletes, one_row, found_rows, area_bound, free_records, WithinBound, BoundsDeletes, bound_answer}
use Rattle.bridge.proofs.Tests.{and_both, holds}
use Rattle.bridge.proofs.SoundLaws.{sound_area}
use Rattle.bridge.proofs.QuestionLaws.{sound_passes}
use Rattle.bridge.proofs.Views.{words_view}
use Rattle.bridge.proofs.RoundTrip.{formed_view}
use Rattle.delete_laws.proofs.KeyShapes.{Shapes, accepted_shapes}
use Rattle.delete_laws.proofs.Falling.{Ends, went, stopped, other_number, ends_delete, ends_found}

-- a refusal by another number
refused : (n free : ℕ) (r : Refusal) → number r ≢ 15 → WithinBound n free (Err r)
unfolding shown
refused n free r h = record { few = omega arith; never_full = λ l e. other_number r h (cc) }

module _ (n free : ℕ) (t : Bool) (r : Refusal) (h : number r ≢ 15) where
  in_check : (k : Book → Turn) (b : Book) → (t ≡ true → WithinBound n free (k b).0) → WithinBound n free (check t r k b).0
  unfolding check
  in_check k b m = by t refl
    where
      by : (a : Bool) → t ≡ a → WithinBound n free (check a r k b).0
      by true e = m e
      by false e = refused n free r h

  in_ensure : (k : List ℤ → AreaTurn) (ws : List ℤ) → (t ≡ true → WithinBound n free (k ws).0) → WithinBound n free (ensure t r k ws).0
  unfolding ensure
  in_ensure k ws m = by t refl
    where
      by : (a : Bool) → t ≡ a → WithinBound n free (ensure a r k ws).0
      by true e = m e
      by false e = refused n free r h

-- ---- statements

-- of a book: the sum over its rows, its free records
abbrev InBook : Schema → Book → Answer → Type 0
InBook s b = WithinBound (delete_bound s b.work.tabs) (length b.work.spare)

module _ (s : Schema) (b : Book) where
  in_demand : (t : Bool) (r : Refusal) (k : Book → Turn) → number r ≢ 15 → InBook s b (k b).0 → InBook s b (demand t r k b).0
  unfolding demand
  in_demand true r k h m = m
  in_demand false r k h m = refused _ _ r h

  in_conclude : {x : Result} → Ends s b.work x → InBook s b (conclude s x b).0
  unfolding conclude settle shown number
  in_conclude (went {v} f) =
      in_demand _ KeptOutOfRange _ (omega arith) (in_demand _ OrphansLeft _ (omega arith)
      (record { few = omega (arith, f.used_is, f.sum_is); never_full = λ l e. let z : ◌≡◌ {A = ℕ} 0 1 = cc in omega arith }))
  in_conclude (stopped {c = c} f h) =
      record { few = omega arith; never_full = λ l e. let q : c ≡ JournalFull = cc in omega (arith, h q) }

  in_statement : (body : Work → Result) → Ends s b.work (body b.work) → InBook s b (statement s body b).0
  unfolding statement
  in_statement body h = in_conclude h

  module _ (shapes : Shapes s) (bound : bounded s ≡ true) where
    in_act : (c : Call) → Deletes c → InBook s b (act s c b).0
    unfolding act row_statement number is_found
    in_act (delete t r) one_row =
        in_check _ _ _ RowState (omega arith) _ b (λ h. in_statement (change 16 s t r deleted_image) (ends_delete shapes bound 16 t r b.work h))
    in_act (delete_where t c m v) found_rows =
        in_statement (rows_found s t (is_found (table_of s t).folded c (seeks_null m) v) (λ x. deleted_image))
        (ends_found shapes bound t (is_found (table_of s t).folded c (seeks_null m) v) (λ x e. and_left (live x) _ e) b.work)
    in_act malformed d = elim d [ ]
    in_act (insert _ _ _ _) d = elim d [ ]
    in_act (update _ _ _ _) d = elim d [ ]
    in_act begin d = elim d [ ]
    in_act savepoint d = elim d [ ]
    in_act (release _) d = elim d [ ]
    in_act (rollback_to _) d = elim d [ ]
    in_act rollback d = elim d [ ]
    in_act commit d = elim d [ ]
    in_act (update_where _ _ _ _ _ _) d = elim d [ ]

    in_step : (c : List ℤ) → Deletes (parse c) → InBook s b (step s c b).0
    unfolding step number
    in_step c d = in_check _ _ _ BadCall (omega arith) _ b (λ h. in_check _ _ _ Damaged (omega arith) _ b (λ u. in_act (parse c) d))

-- ---- calls on areas

-- the free records of an area's book
free_is : (s : Schema) (ws : List ℤ) → length ws ≡ area_size s → legible s ws ≡ true → length (view s ws).work.spare ≡ free_records s ws
unfolding free_records words nat_of
free_is s ws size lg =
    let u : nat_of (get_or ws 2 𝟘) ≡ length (view s ws).work.used = ap (λ (l : List ℤ). nat_of (get_or l 2 𝟘)) (sym (words_view s ws size lg)) in
    omega (arith, u, (formed_view s ws size lg).room)

-- whatever the area: its length, its words, the call's row
in_area : {s : Schema} → Shapes s → bounded s ≡ true → (c ws : List ℤ) → Deletes (parse c) → WithinBound (area_bound s ws) (free_records s ws) (area_step s c ws).0
unfolding area_step area_bound number
in_area {s} shapes bound c ws d =
    in_ensure _ _ _ WrongLength (omega arith) _ ws (λ size. in_ensure _ _ _ BadCall (omega arith) _ ws (λ a. in_ensure _ _ _ Damaged (omega arith) _ ws (λ lg.
    subst (λ (f : ℕ). WithinBound (area_bound s ws) f (step s c (view s ws)).0) (free_is s ws (eqb→eq (length ws) (area_size s) (holds size)) lg) (in_step s (view s ws) shapes bound c d))))

-- "an accepted delete changes at most as many rows as the sum"; "with that much journal free a delete is never refused 15"
pub delete_bounded : (bs : List ℕ) → bounded (schema_of bs) ≡ true → BoundsDeletes bs
unfolding call_on under_schema number
delete_bounded bs bound c ws d = by (check_schema bs) refl
  where
    by : (a : SchemaAnswer) → check_schema bs ≡ a → WithinBound (area_bound (schema_of bs) ws) (free_records (schema_of bs) ws) (under_schema a (area_step (schema_of bs) c) ws).0
    by (Ok tt) e = in_area (accepted_shapes bs e) bound c ws d
    by (Err Malformed) e = refused _ _ SchemaMalformed (omega arith)

-- ---- the number that is answered

-- an area of which 1, 3 or 10 refuses a question takes no call
refused_area : (bs : List ℕ) (c ws : List ℤ) (free : ℕ) (r : Refusal) → area_verdict bs ws (Ok tt) ≡ Err r → WithinBound 0 free (call_on bs c ws).0
unfolding call_on under_schema area_step step number
refused_area bs c ws free r v = by (check_schema bs) refl
  where
    s : Schema
    s = schema_of bs

    -- refused, it is not an area that passes
    passes : check_schema bs ≡ Accepted → length ws ≡ area_size (schema_of bs) → legible (schema_of bs) ws ≡ true → undamaged (schema_of bs) (view (schema_of bs) ws) ≡ true → ⊥
    passes e size lg u =
        let never : Ok tt ≡ Err r = sym (sound_passes bs ws (sound_area bs ws e size (and_both lg u)) (Ok tt)) ∙ v in
        let z : ◌≡◌ {A = ℕ} 0 1 = cc in
        omega arith

    by : (a : SchemaAnswer) → check_schema bs ≡ a → WithinBound 0 free (under_schema a (area_step (schema_of bs) c) ws).0
    by (Err Malformed) e = refused 0 free SchemaMalformed (omega arith)
    by (Ok tt) e =
        in_ensure _ _ _ WrongLength (omega arith) _ ws (λ size. in_ensure _ _ _ BadCall (omega arith) _ ws (λ a. in_ensure _ _ _ Damaged (omega arith) _ ws (λ lg.
        in_check _ _ _ BadCall (omega arith) _ (view s ws) (λ h. in_check _ _ _ Damaged (omega arith) _ (view s ws) (λ u.
        absurd (passes e (eqb→eq (length ws) (area_size s) (holds size)) lg u))))))

-- it bounds the deletes: refused, it is 0, and no delete is carried out
pub told_bounded : (bs : List ℕ) → bounded (schema_of bs) ≡ true → (c ws : List ℤ) → Deletes (parse c)
    → WithinBound (nat_of (bound_answer bs ws).number) (free_records (schema_of bs) ws) (call_on bs c ws).0
unfolding bound_answer number_answer nat_of
told_bounded bs bound c ws d = by (area_verdict bs ws (Ok tt)) refl
  where
    by : (v : Verdict) → area_verdict bs ws (Ok tt) ≡ v → WithinBound (nat_of (number_answer v (area_bound (schema_of bs) ws)).number) (free_records (schema_of bs) ws) (call_on bs c ws).0
    by (Ok tt) e = delete_bounded bs bound c ws d
    by (Err r) e = refused_area bs c ws (free_records (schema_of bs) ws) r e
