-- Calls on a good book's words.
-- Assumes nothing.
use mathlib.Core.Path.{◌≡◌, refl, ap}
use mathlib.Core.Bool.{Bool, true, false}
use mathlib.Core.List.{List, [], ◌∷◌}
use Prim.Native.Nat.{ℕ}
use lib.Dec.{eqb, eqb_refl}
use lib.IntN.{ℤ}
use Rattle.schema.specs.Records.{Schema}
use Rattle.schema.specs.Sizes.{area_size}
use Rattle.schema.specs.Check.{Accepted, check_schema}
use Rattle.schema.specs.Fields.{schema_of}
use Rattle.schema.proofs.SchemaLaws.{Valid}
use Rattle.rules.specs.declared.Refusal.TheVariants.{BadCall, Damaged}
use Rattle.rules.specs.Book.{Book}
use Rattle.rules.specs.Calls.{parse, allowed}
use Rattle.rules.specs.Statement.{check}
use Rattle.rules.specs.Step.{step, run_all, run, Logged}
use Rattle.rules.specs.Area.{on_words, words, view, ensure, area_step, area_run}
use Rattle.rules.specs.Engine.{under_schema, call_on, run_on}
use Rattle.bridge.proofs.Tests.{passes}
use Rattle.bridge.proofs.RoundTrip.{view_words, legible_words, words_length}
use Rattle.laws.proofs.Back.{Good}
use Rattle.laws.proofs.Formed.{good_formed}
use Rattle.laws.proofs.Outcome.{outcome}
use Rattle.laws.proofs.Struck.{Inv, keep_call}

pub area_step_lem : {s : Schema} {b : Book} → Valid s → Good s b → (c : List ℤ) → area_step s c (words b) ≡ on_words (step s c b)
unfolding area_step ensure step check
area_step_lem {s} {b} v g c =
    rw (words_length (good_formed v g), passes (eqb (area_size s) (area_size s)) (eqb_refl (area_size s)), legible_words (good_formed v g)) (by (allowed s (parse c)) refl)
  where
    by : (t : Bool) → allowed s (parse c) ≡ t → ensure t BadCall (ensure true Damaged (λ ws. on_words (step s c (view s ws)))) (words b) ≡ on_words (step s c b)
    by true e = rw (view_words (good_formed v g)) refl
    by false e = rw e refl

pub area_run_lem : {s : Schema} {start : Book} → Valid s → {b : Book} {line : List Logged} {pile : List ℕ} → Inv s start b line pile → (cs : List (List ℤ)) → area_run s cs (words b) ≡ ((run s cs b).0, words (run s cs b).1)
unfolding run_all
area_run_lem v i [] = refl
area_run_lem {s} v {b} i (c ∷ cs) =
    rw (area_step_lem v i.now.good c)
    (ap {B = List Logged × List ℤ} (λ r. ((c, (step s c b).0) ∷ r.0, r.1)) (area_run_lem v {b = (step s c b).1} (keep_call v i c (outcome v i.now.good c) refl) cs))

-- under an accepted schema
module _ (bs : List ℕ) (accepted : check_schema bs ≡ Accepted) where
  pub call_is : (c ws : List ℤ) → call_on bs c ws ≡ area_step (schema_of bs) c ws
  unfolding call_on under_schema
  call_is c ws = rw accepted refl

  pub run_is : (cs : List (List ℤ)) (ws : List ℤ) → run_on bs cs ws ≡ area_run (schema_of bs) cs ws
  run_is cs ws = λ i. run_all (λ c ws. call_is c ws i) cs ws
