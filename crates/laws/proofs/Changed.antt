-- Rows changed: no call changes more rows than the journal has records.
-- Assumes nothing.
use Rattle.std.specs.Prelude.{Ok, Err}
use mathlib.Core.Path.{◌≡◌, refl, ◌∙◌, ap}
use mathlib.Core.Bool.{Bool, true, false}
use mathlib.Core.List.{List, [], ◌∷◌}
use Prim.Native.Nat.{ℕ, ◌+◌, ◌-◌, ◌≤◌}
use native.Mathlib.Omega.{arith}
use lib.Dec.{eqb→eq}
use lib.IntN.{ℤ}
use lib.ListN.{length, length-append}
use Rattle.schema.specs.Check.{SchemaAnswer, Accepted, check_schema}
use Rattle.schema.specs.declared.SchemaError.TheVariants.{Malformed}
use Rattle.schema.specs.Records.{Schema}
use Rattle.schema.specs.Sizes.{area_size}
use Rattle.schema.specs.Fields.{schema_of}
use Rattle.schema.proofs.RangeLaws.{and_left}
use Rattle.schema.proofs.SchemaLaws.{Valid, valid, accepted_formed}
use Rattle.schema.proofs.FieldLaws.{room_few}
use Rattle.rules.specs.declared.Refusal.{Refusal}
use Rattle.rules.specs.Refusals.{Answer, shown}
use Rattle.rules.specs.Book.{Work, Book}
use Rattle.rules.specs.Calls.{Call, malformed, insert, update, delete, begin, savepoint, release, rollback_to, rollback, commit, delete_where, update_where, in_table, parse, allowed}
use Rattle.rules.specs.Change.{Result}
use Rattle.rules.specs.Rows.{Row}
use Rattle.rules.specs.Found.{rows_found}
use Rattle.rules.specs.Statement.{Turn, check, demand, settle, conclude, statement, row_statement}
use Rattle.rules.specs.Step.{opened, committed, released, rolled, act, step}
use Rattle.rules.specs.Area.{AreaTurn, ensure, area_step}
use Rattle.rules.specs.Engine.{under_schema, call_on}
use Rattle.bridge.proofs.Tests.{holds}
use Rattle.bridge.proofs.RoundTrip.{Formed, formed_view}
use Rattle.bridge.proofs.Undo.{Undoes, Fine, went, stopped, fine_change, fine_found}

-- an answer's rows changed are at most n
abbrev Few : {B : Type 0} → ℕ → Answer × B → Type 0
Few n t = (shown t.0).1 ≤ n

few_ensure : (n : ℕ) (ws : List ℤ) (t : Bool) (r : Refusal) (k : List ℤ → AreaTurn) → (t ≡ true → Few n (k ws)) → Few n (ensure t r k ws)
unfolding ensure shown
few_ensure n ws true r k h = h refl
few_ensure n ws false r k h = omega arith

module _ {s : Schema} {b : Book} (v : Valid s) (f : Formed s b) where
  few_check : (t : Bool) (r : Refusal) (k : Book → Turn) → (t ≡ true → Few s.room (k b)) → Few s.room (check t r k b)
  unfolding check shown
  few_check true r k h = h refl
  few_check false r k h = omega arith

  few_demand : (t : Bool) (r : Refusal) (k : Book → Turn) → Few s.room (k b) → Few s.room (demand t r k b)
  unfolding demand shown
  few_demand true r k h = h
  few_demand false r k h = omega arith

  -- records that were written had been spare
  few_written : {w : Work} → Undoes s b.work w → length w.used - length b.work.used ≤ s.room
  few_written {w} u =
      let used : length w.used ≡ length u.new + length b.work.used = ap length u.used_is ∙ length-append u.new b.work.used in
      let spare : length b.work.spare ≡ length u.gone + length w.spare = ap length u.spare_is ∙ length-append u.gone w.spare in
      omega (arith, used, spare, u.sizes, f.room)

  few_conclude : {x : Result} → Fine s b.work x → Few s.room (conclude s x b)
  unfolding conclude settle shown
  few_conclude (went u) = few_demand _ _ _ (few_demand _ _ _ (few_written u))
  few_conclude (stopped h u) = omega arith

  few_row : (fits : Bool) (t r : ℕ) (new : List ℤ) → in_table s t r ≡ true → Few s.room (row_statement s fits t r new b)
  unfolding row_statement statement
  few_row fits t r new i = few_check fits _ _ (λ h. few_conclude (fine_change v _ t r new i b.work f.shaped))

  few_found : (t : ℕ) (found : Row → Bool) (new : Row → Row) → Few s.room (statement s (rows_found s t found new) b)
  unfolding statement
  few_found t found new = few_conclude (fine_found v t found new b.work f.shaped)

  few_opened : (o : ℕ) (rest : List (List ℤ)) → Few s.room (opened o rest b)
  unfolding opened shown
  few_opened o [] = omega arith
  few_opened o (x ∷ rest) = omega arith

  few_committed : Few s.room (committed b)
  unfolding committed shown
  few_committed = few_check _ _ _ (λ h. omega arith)

  few_released : (first : Bool) (n : ℕ) → Few s.room (released first n b)
  unfolding released shown
  few_released true n = few_committed
  few_released false n = omega arith

  few_rolled : (b' : Book) → Few s.room (rolled b' b)
  unfolding rolled shown
  few_rolled b' = omega (arith, f.room)

  few_act : (c : Call) → allowed s c ≡ true → Few s.room (act s c b)
  unfolding act allowed shown
  few_act malformed i = omega arith
  few_act (insert t r m vs) i = few_row _ t r _ (and_left (in_table s t r) _ i)
  few_act (update t r m vs) i = few_row _ t r _ (and_left (in_table s t r) _ i)
  few_act (delete t r) i = few_row _ t r _ i
  few_act begin i = few_check _ _ _ (λ h. few_opened 1 b.closed)
  few_act savepoint i = few_opened _ b.closed
  few_act (release a) i = few_check _ _ _ (λ h. few_released _ _)
  few_act (rollback_to a) i = few_check _ _ _ (λ h. few_rolled _)
  few_act rollback i = few_check _ _ _ (λ h. few_rolled _)
  few_act commit i = few_check _ _ _ (λ h. few_committed)
  few_act (delete_where t c m x) i = few_found t _ _
  few_act (update_where t c m x d y) i = few_found t _ _

  few_step : (c : List ℤ) → Few s.room (step s c b)
  unfolding step
  few_step c = few_check _ _ _ (λ h. few_check _ _ _ (λ u. few_act (parse c) h))

few_area : {s : Schema} → Valid s → (c ws : List ℤ) → Few s.room (area_step s c ws)
unfolding area_step
few_area {s} v c ws =
    few_ensure _ ws _ _ _ (λ size. few_ensure _ ws _ _ _ (λ h. few_ensure _ ws _ _ _ (λ l.
    few_step v (formed_view s ws (eqb→eq (length ws) (area_size s) (holds size)) l) c)))

-- whatever the schema, the area and the call
pub changed_few : (bs : List ℕ) (c ws : List ℤ) → (shown (call_on bs c ws).0).1 ≤ 4096
unfolding call_on under_schema shown
changed_few bs c ws = by (check_schema bs) refl
  where
    by : (a : SchemaAnswer) → check_schema bs ≡ a → Few 4096 (under_schema a (area_step (schema_of bs) c) ws)
    by (Ok tt) e = omega (arith, few_area (valid bs (accepted_formed bs e)) c ws, room_few bs e)
    by (Err Malformed) e = omega arith
