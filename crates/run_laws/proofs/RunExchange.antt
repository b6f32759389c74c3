-- Either order of `run`: a corollary of either order and of what `run` promises.
-- Assumes nothing.
use mathlib.Core.Path.{◌≡◌, refl, sym, ◌∙◌, ap}
use mathlib.Core.Bool.{true}
use mathlib.Core.List.{List, [], ◌∷◌, ◌++◌, map, append_assoc, map-append}
use Prim.Native.Nat.{ℕ, suc, ◌*◌, ◌≤◌}
use native.Mathlib.Omega.{arith}
use lib.IntN.{ℤ}
use lib.ListN.{length, drop, length-append}
use Rattle.schema.specs.Ranges.{all}
use Rattle.schema.specs.Fields.{schema_of}
use Rattle.rules.specs.Lists.{flat}
use Rattle.rules.specs.Step.{Logged, run_all}
use Rattle.rules.specs.Area.{fresh_words}
use Rattle.rules.specs.Engine.{call_on, run_on}
use Rattle.rules.specs.Strike.{end_of}
use Rattle.bridge.proofs.Tests.{all_cons, all_head, all_tail, all_append, all_split}
use Rattle.bridge.proofs.AreaParts.{flat_append}
use Rattle.laws.proofs.Struck.{run_append}
use Rattle.families.specs.EitherOrder.{records_used, SameRuns, OneAfterOther, EitherOrder, first, both, swapped}
use Rattle.families.proofs.EitherOrder.{either_order}
use Rattle.answers.specs.AnswerWords.{answer_words}
use Rattle.runs.specs.Runs.{answers_words}
use Rattle.run_laws.specs.RunExchange.{twelve, run_both, run_swapped, RunsExchanged}
use Rattle.run_laws.proofs.RunDemand.{run_laid}

answers_append : (xs ys : List Logged) → answers_words (xs ++ ys) ≡ answers_words xs ++ answers_words ys
unfolding answers_words
answers_append xs ys = ap flat (map-append (λ (x : Logged). answer_words x.1) xs ys) ∙ flat_append (map (λ (x : Logged). answer_words x.1) xs) (map (λ (x : Logged). answer_words x.1) ys)

answers_length : (xs : List Logged) → length (answers_words xs) ≡ length xs * 3
unfolding answers_words flat answer_words
answers_length [] = refl
answers_length (x ∷ xs) = omega (arith, answers_length xs)

log_length : (bs : List ℕ) (cs : List (List ℤ)) (area : List ℤ) → length (run_on bs cs area).0 ≡ length cs
unfolding run_all
log_length bs [] area = refl
log_length bs (c ∷ cs) area = ap suc (log_length bs cs (call_on bs c area).1)

-- the answers of two calls after others
answers_two : (xs : List Logged) (x y : Logged) (ys : List Logged) (past : List ℤ) → answers_words (xs ++ (x ∷ y ∷ ys)) ++ past ≡ answers_words xs ++ (answer_words x.1 ++ (answer_words y.1 ++ (answers_words ys ++ past)))
unfolding answers_words flat
answers_two xs x y ys past = ap (λ ws. ws ++ past) (answers_append xs (x ∷ y ∷ ys)) ∙ simp append_assoc refl

-- some calls, then c and d, then others
module _ (bs : List ℕ) (cs : List (List ℤ)) (more : List (List ℤ)) (lent : List ℤ) where
  abbrev start : List ℤ
  start = fresh_words (schema_of bs)

  abbrev area : List ℤ
  area = end_of bs (fresh_words (schema_of bs)) cs

  run_is : (c d : List ℤ) → all twelve (cs ++ (c ∷ d ∷ more)) ≡ true → length (cs ++ (c ∷ d ∷ more)) * 3 ≤ length lent
      → run_both bs cs c d more lent
      ≡ (
        length (cs ++ (c ∷ d ∷ more)),
        (run_on bs more (both bs area c d).1).1,
        answers_words (run_on bs cs start).0 ++ (answer_words (first bs area c d).0 ++ (answer_words (both bs area c d).0 ++ (answers_words (run_on bs more (both bs area c d).1).0 ++ drop (length (cs ++ (c ∷ d ∷ more)) * 3) lent))),
      )
  unfolding run_all
  run_is c d sized room =
      run_laid bs (cs ++ (c ∷ d ∷ more)) sized start lent room
      ∙ ap (λ (r : List Logged × List ℤ). (length (cs ++ (c ∷ d ∷ more)), r.1, answers_words r.0 ++ drop (length (cs ++ (c ∷ d ∷ more)) * 3) lent)) (run_append (call_on bs) cs (c ∷ d ∷ more) start)
      ∙ ap (λ ws. (length (cs ++ (c ∷ d ∷ more)), (run_on bs more (both bs area c d).1).1, ws)) (answers_two _ _ _ _ _)

-- in either order there are as many, of twelve words each
sized_swapped : (cs : List (List ℤ)) (c d : List ℤ) (more : List (List ℤ)) → all twelve (cs ++ (c ∷ d ∷ more)) ≡ true → all twelve (cs ++ (d ∷ c ∷ more)) ≡ true
sized_swapped cs c d more h =
    let (front, tail) = all_split twelve cs (c ∷ d ∷ more) h in
    let last : all twelve (d ∷ more) ≡ true = all_tail twelve c (d ∷ more) tail in
    all_append twelve cs (d ∷ c ∷ more) front
    (all_cons twelve d (c ∷ more) (all_head twelve d more last) (all_cons twelve c more (all_head twelve c (d ∷ more) tail) (all_tail twelve d more last)))

as_many : (cs : List (List ℤ)) (c d : List ℤ) (more : List (List ℤ)) → length (cs ++ (d ∷ c ∷ more)) ≡ length (cs ++ (c ∷ d ∷ more))
as_many cs c d more = simp length-append refl

module _ (bs : List ℕ) (cs : List (List ℤ)) (c d : List ℤ) (more : List (List ℤ)) (lent : List ℤ) where
  pub run_either_order : OneAfterOther bs (end_of bs (fresh_words (schema_of bs)) cs) c d → all twelve (cs ++ (c ∷ d ∷ more)) ≡ true → length (cs ++ (c ∷ d ∷ more)) * 3 ≤ length lent → RunsExchanged bs cs c d more lent
  unfolding answer_words
  run_either_order h sized room =
      let area : List ℤ = end_of bs (fresh_words (schema_of bs)) cs in
      let claim : EitherOrder bs area c d = either_order bs area c d h in
      let then : SameRuns (schema_of bs) (records_used area) (run_on bs more (swapped bs area c d).1) (run_on bs more (both bs area c d).1) = claim.later more in
      let both_is = run_is bs cs more lent c d sized room in
      let swapped_is = run_is bs cs more lent d c (sized_swapped cs c d more sized) (rw (as_many cs c d more) room) in
      let end_both : (run_both bs cs c d more lent).1 ≡ (run_on bs more (both bs area c d).1).1 = ap {B = List ℤ} (λ (r : ℕ × List ℤ × List ℤ). r.1) both_is in
      let end_swapped : (run_swapped bs cs c d more lent).1 ≡ (run_on bs more (swapped bs area c d).1).1 = ap {B = List ℤ} (λ (r : ℕ × List ℤ × List ℤ). r.1) swapped_is in
      record {
        count = ap {B = ℕ} (λ (r : ℕ × List ℤ × List ℤ). r.0) swapped_is ∙ as_many cs c d more ∙ sym (ap {B = ℕ} (λ (r : ℕ × List ℤ × List ℤ). r.0) both_is);
        areas = rw (end_both, end_swapped) then.areas;
        every_word = rw (end_both, end_swapped) then.every_word;
        words_before = answers_words (run_on bs cs (fresh_words (schema_of bs))).0;
        words_c = answer_words (first bs area c d).0;
        words_d = answer_words (both bs area c d).0;
        words_after = answers_words (run_on bs more (both bs area c d).1).0 ++ drop (length (cs ++ (c ∷ d ∷ more)) * 3) lent;
        place = answers_length (run_on bs cs (fresh_words (schema_of bs))).0 ∙ ap (λ n. n * 3) (log_length bs cs (fresh_words (schema_of bs)));
        size_c = refl;
        size_d = refl;
        answers_both = ap {B = List ℤ} (λ (r : ℕ × List ℤ × List ℤ). r.2) both_is;
        answers_swapped = ap {B = List ℤ} (λ (r : ℕ × List ℤ × List ℤ). r.2) swapped_is ∙ rw (claim.answer_d, claim.answer_c, then.answers, as_many cs c d more) refl;
      }
