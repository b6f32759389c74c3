-- Calls on books that calls led to, and on their words.
-- Assumes nothing.
use mathlib.Core.Path.{◌≡◌, refl, sym, ◌∙◌, ap, subst}
use mathlib.Core.Bool.{true}
use mathlib.Core.List.{List, [], ◌∷◌}
use Prim.Native.Nat.{ℕ}
use lib.IntN.{ℤ}
use Rattle.schema.specs.Check.{Accepted, check_schema}
use Rattle.schema.specs.Records.{Schema}
use Rattle.schema.specs.Fields.{schema_of}
use Rattle.schema.proofs.SchemaLaws.{Valid, accepted_valid}
use Rattle.rules.specs.declared.Refusal.TheVariants.{BadCall}
use Rattle.rules.specs.Refusals.{accepted}
use Rattle.rules.specs.Book.{Book, fresh}
use Rattle.rules.specs.Calls.{parse, allowed}
use Rattle.rules.specs.Statement.{Turn, check}
use Rattle.rules.specs.Step.{act, step, Logged, run_all, run}
use Rattle.rules.specs.Area.{on_words, words}
use Rattle.rules.specs.Engine.{call_on, run_on}
use Rattle.bridge.proofs.RoundTrip.{words_fresh}
use Rattle.laws.specs.Reached.{Reached}
use Rattle.laws.proofs.Back.{Good}
use Rattle.laws.proofs.Good.{good_undamaged}
use Rattle.laws.proofs.Outcome.{outcome}
use Rattle.laws.proofs.Areas.{area_step_lem, area_run_lem, call_is, run_is}
use Rattle.laws.proofs.Struck.{Inv, keep_call, empty}
use Rattle.laws.proofs.Demand3.{fresh_good, fresh_none}
use Rattle.families.proofs.Settled.{Settled, settled_fresh, settled_run}
use Rattle.families.proofs.Statements.{check_passed, check_is}

-- ---- calls on a good book, and on its words

module _ {s : Schema} {b : Book} (g : Good s b) (c : List ℤ) where
  step_check : step s c b ≡ check (allowed s (parse c)) BadCall (act s (parse c)) b
  unfolding step check
  step_check = rw (good_undamaged g) refl

  pub step_act : allowed s (parse c) ≡ true → step s c b ≡ act s (parse c) b
  step_act h = step_check ∙ check_is _ _ _ b h

  pub step_allowed : accepted (step s c b).0 ≡ true → allowed s (parse c) ≡ true
  step_allowed h = (check_passed _ _ _ b (ap (λ (t : Turn). accepted t.0) (sym step_check) ∙ h)).0

pub call_step : (bs : List ℕ) → check_schema bs ≡ Accepted → {b : Book} → Good (schema_of bs) b → (c : List ℤ) → call_on bs c (words b) ≡ on_words (step (schema_of bs) c b)
call_step bs acc {b} g c = call_is bs acc c (words b) ∙ area_step_lem (accepted_valid bs acc) g c

-- ---- books that calls led to

pub record Lasting (s : Schema) (b : Book) : Type 0 where
  pub line : List Logged
  pub pile : List ℕ
  pub inv : Inv s (fresh s) b line pile

pub good_lasting : {s : Schema} {b : Book} → Lasting s b → Good s b
good_lasting l = l.inv.now.good

pub lasting_step : {s : Schema} {b : Book} → Valid s → Lasting s b → (c : List ℤ) (t : Turn) → step s c b ≡ t → Lasting s t.1
lasting_step {s} {b} v l c t e = subst (λ (t : Turn). Lasting s t.1) e (record { line = _; pile = _; inv = keep_call v l.inv c (outcome v l.inv.now.good c) refl })

pub lasting_run : (bs : List ℕ) → check_schema bs ≡ Accepted → {b : Book} → Lasting (schema_of bs) b → (cs : List (List ℤ)) → run_on bs cs (words b) ≡ ((run (schema_of bs) cs b).0, words (run (schema_of bs) cs b).1)
lasting_run bs acc {b} l cs = run_is bs acc cs (words b) ∙ area_run_lem (accepted_valid bs acc) l.inv cs

pub lasting_end : {s : Schema} {b : Book} → Valid s → Lasting s b → (cs : List (List ℤ)) → Lasting s (run s cs b).1
unfolding run_all
lasting_end v l [] = l
lasting_end {s} {b} v l (c ∷ cs) = lasting_end {b = (step s c b).1} v (lasting_step v l c (step s c b) refl) cs

-- ---- the book of an area that calls led to

pub record Start (bs : List ℕ) (area : List ℤ) : Type 0 where
  pub book : Book
  pub lasting : Lasting (schema_of bs) book
  pub settled : Settled (schema_of bs) book
  pub is : area ≡ words book

pub start : {bs : List ℕ} {area : List ℤ} → Reached bs area → Start bs area
start {bs} {area} h =
    let s : Schema = schema_of bs in
    let v : Valid s = accepted_valid bs h.accepted in
    let l : Lasting s (fresh s) = record { line = []; pile = []; inv = empty v (fresh_good bs h.accepted) (fresh_none s) } in
    record {
      book = (run s h.calls (fresh s)).1;
      lasting = lasting_end v l h.calls;
      settled = settled_run s h.calls (fresh s) (settled_fresh s);
      is = h.is ∙ ap {B = List ℤ} (λ ws. (run_on bs h.calls ws).1) (sym (words_fresh s)) ∙ ap {B = List ℤ} (λ (r : List Logged × List ℤ). r.1) (lasting_run bs h.accepted l h.calls);
    }
