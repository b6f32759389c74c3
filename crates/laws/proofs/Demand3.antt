-- Demand 3: what is left when refused calls, and rollbacks with what they undid, are struck out, gets the same answers and ends in the same area.
-- Assumes nothing.
use mathlib.Core.Path.{◌≡◌, refl, sym, ◌∙◌, ap, subst}
use mathlib.Core.Bool.{true}
use mathlib.Core.Logic.{inl, inr}
use mathlib.Core.List.{List, []}
use Prim.Native.Nat.{ℕ, ◌<◌}
use native.Mathlib.Omega.{arith}
use lib.IntN.{ℤ}
use lib.ListN.{length}
use Rattle.schema.specs.Records.{Schema}
use Rattle.schema.specs.Fields.{schema_of}
use Rattle.schema.specs.Check.{check_schema, Accepted}
use Rattle.schema.proofs.SchemaLaws.{Valid, valid, accepted_formed}
use Rattle.rules.specs.Refusals.{Answer, accepted}
use Rattle.rules.specs.Values.{all_zero, nat_of}
use Rattle.rules.specs.Keys.{counts}
use Rattle.rules.specs.Book.{Book, fresh}
use Rattle.rules.specs.State.{in_transaction}
use Rattle.rules.specs.Step.{step, run, Logged}
use Rattle.rules.specs.Area.{words, view, fresh_words}
use Rattle.rules.specs.Engine.{call_on, run_on}
use Rattle.rules.specs.Strike.{strike, calls_of, IsCommit, kept_words, counted_words, end_of, Demand3}
use Rattle.bridge.proofs.RoundTrip.{view_words, kept_is, word_1, words_fresh}
use Rattle.laws.specs.Regular.{regular_answer}
use Rattle.laws.proofs.Back.{Good, some_open}
use Rattle.laws.proofs.Good.{good_fresh}
use Rattle.laws.proofs.Formed.{good_formed}
use Rattle.laws.proofs.Outcome.{outcome, outcome_regular}
use Rattle.laws.proofs.Struck.{Inv, empty, invariant, commit_judged, release_judged}
use Rattle.laws.proofs.Areas.{area_step_lem, area_run_lem, call_is, run_is}

-- from the words of a good book outside a transaction
module _ (bs : List ℕ) (acc : check_schema bs ≡ Accepted) {start : Book} (good : Good (schema_of bs) start) (none_open : start.levels ≡ []) where
  abbrev s : Schema
  s = schema_of bs

  is_valid : Valid (schema_of bs)
  is_valid = valid bs (accepted_formed bs acc)

  -- the same list of calls, on words and on books
  pub follows : (cs : List (List ℤ)) → run_on bs cs (words start) ≡ ((run (schema_of bs) cs start).0, words (run (schema_of bs) cs start).1)
  follows cs = run_is bs acc cs (words start) ∙ area_run_lem is_valid (empty is_valid good none_open) cs

  module _ (cs : List (List ℤ)) where
    abbrev log : List Logged
    log = (run s cs start).0

    abbrev end : Book
    end = (run s cs start).1

    reached : Inv (schema_of bs) start (run (schema_of bs) cs start).1 (strike (run (schema_of bs) cs start).0).line (strike (run (schema_of bs) cs start).0).pile
    reached = invariant is_valid good none_open cs

    pub end_good : Good (schema_of bs) (run (schema_of bs) cs start).1
    end_good = reached.now.good

    end_view : view (schema_of bs) (words (run (schema_of bs) cs start).1) ≡ (run (schema_of bs) cs start).1
    end_view = view_words (good_formed is_valid end_good)

    counted_is : counted_words (schema_of bs) (words (run (schema_of bs) cs start).1) ≡ counts (schema_of bs) (run (schema_of bs) cs start).1.work.tabs
    counted_is = ap (λ (b : Book). counts s b.work.tabs) end_view

    -- a call sent next
    next_is : (c : List ℤ) → (call_on bs c (words (run (schema_of bs) cs start).1)).0 ≡ (step (schema_of bs) c (run (schema_of bs) cs start).1).0
    next_is c = ap {B = Answer} (λ t. t.0) (call_is bs acc c (words end) ∙ area_step_lem is_valid end_good c)

    judged : 0 < length (strike (run (schema_of bs) cs start).0).pile → (c : List ℤ) → IsCommit (words (run (schema_of bs) cs start).1) c
        → accepted (step (schema_of bs) c (run (schema_of bs) cs start).1).0 ≡ all_zero (counts (schema_of bs) (run (schema_of bs) cs start).1.work.tabs)
    unfolding nat_of
    judged o c h = by h
      where
        open_now : in_transaction end.levels ≡ true
        open_now = some_open end.levels {k = 0} (omega (arith, reached.height, o))

        by : IsCommit (words end) c → accepted (step s c end).0 ≡ all_zero (counts s end.work.tabs)
        by (inl e) = rw e (commit_judged end_good open_now)
        by (inr (o2, e)) =
            let opener : end.opener ≡ 2 = sym (word_1 (good_formed is_valid end_good)) ∙ ap nat_of o2 in
            rw e (release_judged end_good open_now opener)

    -- what holds of the run on the book's words holds of the run on words
    on_words : (P : List Logged × List ℤ → Type 0) → P ((run (schema_of bs) cs start).0, words (run (schema_of bs) cs start).1) → P (run_on bs cs (words start))
    on_words P p = subst P (sym (follows cs)) p

    pub demand_3 : Demand3 bs (words start) cs
    demand_3 =
        record {
          same =
              on_words (λ r. run_on bs (calls_of (strike r.0).line) (words start) ≡ ((strike r.0).line, r.1))
              (follows (calls_of (strike log).line) ∙ ap {B = List Logged × List ℤ} (λ (r : List Logged × Book). (r.0, words r.1)) reached.now.runs);
          counted =
              on_words (λ r. kept_words r.1 ≡ counted_words s r.1)
              (kept_is (good_formed is_valid end_good) ∙ end_good.counted ∙ sym counted_is);
          commit_next =
              on_words (λ r. 0 < length (strike r.0).pile → (c : List ℤ) → IsCommit r.1 c → accepted (call_on bs c r.1).0 ≡ all_zero (counted_words s r.1))
              (λ o c h. ap accepted (next_is c) ∙ judged o c h ∙ sym (ap all_zero counted_is));
        }

    -- the next call is refused neither by 10 nor by 19
    pub never_damaged : (c : List ℤ) → regular_answer (call_on bs c (end_of bs (words start) cs)).0 ≡ true
    never_damaged c =
        on_words (λ r. regular_answer (call_on bs c r.1).0 ≡ true) (ap regular_answer (next_is c) ∙ outcome_regular (outcome is_valid end_good c))

-- from a fresh area
pub fresh_good : (bs : List ℕ) → check_schema bs ≡ Accepted → Good (schema_of bs) (fresh (schema_of bs))
fresh_good bs acc = good_fresh (valid bs (accepted_formed bs acc))

pub fresh_none : (s : Schema) → (fresh s).levels ≡ []
unfolding fresh
fresh_none s = refl

module _ (bs : List ℕ) (acc : check_schema bs ≡ Accepted) (cs : List (List ℤ)) where
  pub fresh_demand_3 : Demand3 bs (fresh_words (schema_of bs)) cs
  fresh_demand_3 = rw (← (words_fresh (schema_of bs))) (demand_3 bs acc (fresh_good bs acc) (fresh_none (schema_of bs)) cs)

  pub fresh_never_damaged : (c : List ℤ) → regular_answer (call_on bs c (end_of bs (fresh_words (schema_of bs)) cs)).0 ≡ true
  fresh_never_damaged c = rw (← (words_fresh (schema_of bs))) (never_damaged bs acc (fresh_good bs acc) (fresh_none (schema_of bs)) cs c)
