-- What an area that calls led to is: the words of a good book.
-- Assumes nothing.
use mathlib.Core.Path.{◌≡◌, refl, sym, ◌∙◌, ap, subst}
use mathlib.Core.List.{List, [], ◌∷◌, ◌++◌}
use Prim.Native.Nat.{ℕ}
use lib.IntN.{ℤ}
use lib.ListN.{length}
use Rattle.schema.specs.Check.{Accepted, check_schema}
use Rattle.schema.specs.Records.{Schema}
use Rattle.schema.specs.Fields.{schema_of}
use Rattle.schema.proofs.SchemaLaws.{Valid, accepted_valid}
use Rattle.rules.specs.Book.{Book, fresh, zero_records}
use Rattle.rules.specs.State.{undamaged}
use Rattle.rules.specs.Step.{run_all, run, Logged}
use Rattle.rules.specs.Area.{words, view, fresh_words}
use Rattle.rules.specs.Engine.{call_on, run_on}
use Rattle.bridge.specs.Fit.{work_of, Fit}
use Rattle.bridge.specs.Ready.{Sound}
use Rattle.bridge.proofs.RoundTrip.{view_words, legible_words, words_length, words_fresh}
use Rattle.laws.specs.Reached.{Reached}
use Rattle.laws.proofs.Back.{Good}
use Rattle.laws.proofs.Good.{good_undamaged}
use Rattle.laws.proofs.Formed.{good_formed}
use Rattle.laws.proofs.Struck.{run_snoc}
use Rattle.laws.proofs.Demand3.{follows, end_good, fresh_good, fresh_none}

pub reached_fresh : (bs : List ℕ) → check_schema bs ≡ Accepted → Reached bs (fresh_words (schema_of bs))
unfolding run_all
reached_fresh bs acc = record { accepted = acc; calls = []; is = refl }

pub reached_next : {bs : List ℕ} {ws : List ℤ} → Reached bs ws → (c : List ℤ) → Reached bs (call_on bs c ws).1
reached_next {bs} {ws} h c =
    record {
      accepted = h.accepted;
      calls = h.calls ++ (c ∷ []);
      is =
          ap {B = List ℤ} (λ l. (call_on bs c l).1) h.is
          ∙ sym (ap {B = List ℤ} (λ (r : List Logged × List ℤ). r.1) (run_snoc (call_on bs) h.calls c (fresh_words (schema_of bs))));
    }

-- the book
module _ {bs : List ℕ} {ws : List ℤ} (h : Reached bs ws) where
  unfoldable pub reached_book : Book
  reached_book = (run (schema_of bs) h.calls (fresh (schema_of bs))).1

  reached_good : Good (schema_of bs) reached_book
  unfolding reached_book
  reached_good = end_good bs h.accepted (fresh_good bs h.accepted) (fresh_none (schema_of bs)) h.calls

  reached_words : ws ≡ words reached_book
  unfolding reached_book
  reached_words =
      h.is
      ∙ ap {B = List ℤ} (λ l. (run_on bs h.calls l).1) (sym (words_fresh (schema_of bs)))
      ∙ ap {B = List ℤ} (λ (r : List Logged × List ℤ). r.1) (follows bs h.accepted (fresh_good bs h.accepted) (fresh_none (schema_of bs)) h.calls)

  pub reached_view : view (schema_of bs) ws ≡ reached_book
  reached_view = ap (view (schema_of bs)) reached_words ∙ view_words (good_formed (accepted_valid bs h.accepted) reached_good)

  -- refusals 3 and 10 do not apply
  pub reached_sound : Sound bs ws
  reached_sound =
      let s : Schema = schema_of bs in
      let v : Valid s = accepted_valid bs h.accepted in
      let fit : Fit s (words reached_book) = record { size = words_length (good_formed v reached_good); legible_is = legible_words (good_formed v reached_good) } in
      record {
        ready = record { accepted = h.accepted; fit = subst (Fit s) (sym reached_words) fit };
        undamaged_is = ap (undamaged s) reached_view ∙ good_undamaged reached_good;
      }

  -- every journal word past the records in use is zero
  pub reached_clean : (work_of (schema_of bs) ws).spare ≡ zero_records (length (work_of (schema_of bs) ws).spare)
  unfolding work_of
  reached_clean = subst (λ (b : Book). b.work.spare ≡ zero_records (length b.work.spare)) (sym reached_view) reached_good.clean
