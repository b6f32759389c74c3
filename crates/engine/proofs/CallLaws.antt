-- Laws of a call on an area's words.
-- Assumes nothing.
use mathlib.Core.Path.{◌≡◌, refl, sym, ap, ◌∙◌}
use mathlib.Core.Bool.{Bool, true, false, ◌&&◌}
use mathlib.Core.List.{List}
use Prim.Native.Nat.{ℕ, ◌≤◌}
use borrow.Author.Tests.{eq-eqb, ne_eqb}
use lib.IntN.{ℤ}
use lib.ListN.{length}
use Rattle.schema.specs.Check.{SchemaAnswer, Accepted, check_schema}
use Rattle.schema.specs.declared.SchemaError.{SchemaError}
use Rattle.schema.specs.declared.SchemaError.TheVariants.{Malformed}
use Rattle.schema.specs.Records.{Schema}
use Rattle.schema.specs.Sizes.{area_size}
use Rattle.schema.specs.Fields.{schema_of}
use Rattle.std.specs.Prelude.{Err}
use Rattle.rules.specs.declared.Refusal.{Refusal}
use Rattle.rules.specs.declared.Refusal.TheVariants.{SchemaMalformed, WrongLength, BadCall, Damaged}
use Rattle.rules.specs.State.{undamaged}
use Rattle.rules.specs.Calls.{Call, malformed, parse, allowed}
use Rattle.rules.specs.Statement.{check}
use Rattle.rules.specs.Step.{act, step}
use Rattle.rules.specs.Area.{AreaTurn, view, legible, on_words, ensure, area_step}
use Rattle.rules.specs.Engine.{under_schema, call_on}
use Rattle.bridge.specs.Fit.{Fit}
use Rattle.bridge.proofs.HoldLaws.{turn_same}
use Rattle.laws.specs.Reached.{Reached}
use Rattle.laws.proofs.Reached.{reached_sound}
use Rattle.laws.proofs.Changed.{changed_few}
use Rattle.answers.specs.AnswerWords.{answer_words}
use Rattle.rules.specs.Refusals.{Answer, shown}
use Rattle.call_form.specs.Requests.{judged}
use Rattle.call_form.proofs.Requested.{Read, refused_is}
use Rattle.engine.specs.Calls.{call_words}

-- ---- refusal 1
module _ (b : List ℕ) (a c : List ℤ) where
  pub call_malformed : {e : SchemaError} → check_schema b ≡ Err e → (Err SchemaMalformed, a) ≡ call_on b c a
  unfolding call_on under_schema
  call_malformed {e = Malformed} m = rw m refl

  pub call_under : check_schema b ≡ Accepted → area_step (schema_of b) c a ≡ call_on b c a
  unfolding call_on under_schema
  call_under m = rw m refl

-- ---- refusals 3, 4 and 10
module _ (s : Schema) (c a : List ℤ) where
  pub wrong_length : (length a ≡ area_size s → ⊥) → (Err WrongLength, a) ≡ area_step s c a
  unfolding area_step ensure
  wrong_length h = rw (ne_eqb (length a) (area_size s) h) refl

  module _ (size : length a ≡ area_size s) where
    pub bad_call : {r : Refusal} → r ≡ BadCall → allowed s (parse c) ≡ false → (Err r, a) ≡ area_step s c a
    unfolding area_step ensure
    bad_call e h = rw (e, eq-eqb (length a) (area_size s) size, h) refl

    pub damaged : allowed s (parse c) ≡ true → legible s a && undamaged s (view s a) ≡ false → (Err Damaged, a) ≡ area_step s c a
    unfolding area_step ensure step check
    damaged h d = go (legible s a) refl
      where
        go : (t : Bool) → legible s a ≡ t → (Err Damaged, a) ≡ area_step s c a
        go false e = rw (eq-eqb (length a) (area_size s) size, h, e) refl
        go true e =
            let u : undamaged s (view s a) ≡ false = ap (λ t. t && undamaged s (view s a)) (sym e) ∙ d in
            turn_same {t = step s c (view s a)} (record { size = size; legible_is = e }) (rw (h, u) refl) ∙ rw (eq-eqb (length a) (area_size s) size, h, e) refl

    pub carried : {d : Call} → Read s c d → legible s a ≡ true → undamaged s (view s a) ≡ true → on_words (act s d (view s a)) ≡ area_step s c a
    unfolding area_step ensure step check
    carried q l u = rw (eq-eqb (length a) (area_size s) size, q.allowed_is, l, u, q.parsed_is) refl

-- ---- a call on an area that calls led to
module _ {b : List ℕ} {a : List ℤ} (h : Reached b a) (c : List ℤ) where
  pub next_refused : {r : Refusal} → (r ≡ BadCall) × (malformed ≡ judged (schema_of b) (parse c)) → (Err r, a) ≡ call_on b c a
  next_refused (e, f) = bad_call (schema_of b) c a (reached_sound h).ready.fit.size e (refused_is (schema_of b) c f) ∙ call_under b a c h.accepted

  pub next_carried : {d : Call} → Read (schema_of b) c d → {x : AreaTurn} → x ≡ on_words (act (schema_of b) d (view (schema_of b) a)) → x ≡ call_on b c a
  next_carried q e =
      let f : Fit (schema_of b) a = (reached_sound h).ready.fit in
      e ∙ carried (schema_of b) c a f.size q f.legible_is (reached_sound h).undamaged_is ∙ call_under b a c h.accepted

-- ---- an answer's words

-- an answer that a call gives
pub answer_few : (bs : List ℕ) (c ws : List ℤ) {a : Answer} {ws' : List ℤ} → (a, ws') ≡ call_on bs c ws → (shown a).1 ≤ 4096
answer_few bs c ws e = rw (ap {B = Answer} (λ t. t.0) e) (changed_few bs c ws)

pub answer_is : (bs : List ℕ) (c ws : List ℤ) {a : Answer} {w ws' : List ℤ} → (a, ws') ≡ call_on bs c ws → w ≡ answer_words a → (w, ws') ≡ call_words bs c ws
unfolding call_words
answer_is bs c ws e f = λ i. ((f ∙ ap {B = List ℤ} (λ (t : AreaTurn). answer_words t.0) e) i, (e i).1)
