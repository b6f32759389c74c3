-- Demand 3 of `run`: a corollary of demand 3 and of what `run` promises.
-- Assumes nothing.
use mathlib.Core.Path.{◌≡◌, refl, sym, ◌∙◌, ap}
use mathlib.Core.Bool.{Bool, true, false, ◌&&◌}
use mathlib.Core.List.{List, [], ◌∷◌, ◌++◌}
use Prim.Native.Nat.{ℕ, pred, ◌+◌, ◌*◌, ◌-◌, ◌/◌, ◌≤◌}
use native.Mathlib.Omega.{arith}
use borrow.Author.Tests.{leb-false}
use lib.Dec.{leb, eqb}
use lib.IntN.{ℤ}
use lib.ListN.{length, drop, get_or, length-map}
use Rattle.schema.specs.Ranges.{all}
use Rattle.schema.specs.Fields.{schema_of}
use Rattle.schema.specs.Check.{check_schema, Accepted}
use Rattle.schema.proofs.RangeLaws.{and_left}
use Rattle.rules.specs.Refusals.{Answer}
use Rattle.std.specs.Prelude.{Ok, Err}
use Rattle.rules.specs.Lists.{𝟘, flat, chunks}
use Rattle.rules.specs.Values.{nat_of, natural}
use Rattle.rules.specs.Calls.{Call, malformed, insert, update, delete, begin, savepoint, release, rollback_to, rollback, commit, delete_where, update_where, formed_if, parsed, parse}
use Rattle.rules.specs.Step.{Logged}
use Rattle.rules.specs.Area.{fresh_words}
use Rattle.rules.specs.Engine.{run_on}
use Rattle.rules.specs.Strike.{Struck, place, mark, marks, strike, calls_of, end_of, Demand3}
use Rattle.bridge.proofs.Tests.{all_append, all_cons}
use Rattle.bridge.proofs.RoundTrip.{of_size, length_flat, chunks_flat, all_take, all_map}
use Rattle.laws.proofs.Demand3.{fresh_demand_3}
use Rattle.runs.specs.Runs.{least, calls_run, run_calls, answers_words}
use Rattle.run_laws.specs.RunDemand.{RunDemand3}

-- a call of twelve words
unfoldable twelve_words : Logged → Bool
twelve_words x = of_size 12 x.0

place_twelve : (c : Call) (x : Logged) (k : Struck) → twelve_words x ≡ true → all twelve_words k.line ≡ true → all twelve_words (place c x k).line ≡ true
unfolding place all
place_twelve malformed x k t h = h
place_twelve (insert a r m vs) x k t h = all_append twelve_words k.line (x ∷ []) h (all_cons twelve_words x [] t refl)
place_twelve (update a r m vs) x k t h = all_append twelve_words k.line (x ∷ []) h (all_cons twelve_words x [] t refl)
place_twelve (delete a r) x k t h = all_append twelve_words k.line (x ∷ []) h (all_cons twelve_words x [] t refl)
place_twelve begin x k t h = all_append twelve_words k.line (x ∷ []) h (all_cons twelve_words x [] t refl)
place_twelve savepoint x k t h = all_append twelve_words k.line (x ∷ []) h (all_cons twelve_words x [] t refl)
place_twelve (release a) x k t h = all_append twelve_words k.line (x ∷ []) h (all_cons twelve_words x [] t refl)
place_twelve (rollback_to a) x k t h = all_take twelve_words (get_or (drop (length k.pile - a) k.pile) 0 0) k.line h
place_twelve rollback x k t h = all_take twelve_words (pred (get_or k.pile (pred (length k.pile)) 0)) k.line h
place_twelve commit x k t h = all_append twelve_words k.line (x ∷ []) h (all_cons twelve_words x [] t refl)
place_twelve (delete_where a c m v) x k t h = all_append twelve_words k.line (x ∷ []) h (all_cons twelve_words x [] t refl)
place_twelve (update_where a c m v d y) x k t h = all_append twelve_words k.line (x ∷ []) h (all_cons twelve_words x [] t refl)

-- only calls of twelve words come into the line
mark_twelve : (ws : List ℤ) (a : Answer) (k : Struck) → all twelve_words k.line ≡ true → all twelve_words (mark (parse ws) ws a k).line ≡ true
unfolding mark parse formed_if place twelve_words
mark_twelve ws (Err r) k h = h
mark_twelve ws (Ok d) k h = by (eqb (length ws) 12 && natural (get_or ws 0 𝟘)) refl
  where
    by : (t : Bool) → eqb (length ws) 12 && natural (get_or ws 0 𝟘) ≡ t → all twelve_words (place (formed_if t (parsed (nat_of (get_or ws 0 𝟘)) ws)) (ws, Ok d) k).line ≡ true
    by true e = place_twelve (parsed (nat_of (get_or ws 0 𝟘)) ws) (ws, Ok d) k (and_left (eqb (length ws) 12) (natural (get_or ws 0 𝟘)) e) h
    by false e = h

marks_twelve : (log : List Logged) (k : Struck) → all twelve_words k.line ≡ true → all twelve_words (marks log k).line ≡ true
unfolding marks
marks_twelve [] k h = h
marks_twelve (x ∷ log) k h = marks_twelve log _ (mark_twelve x.0 x.1 k h)

left_twelve : (log : List Logged) → all twelve_words (strike log).line ≡ true
unfolding strike all
left_twelve log = marks_twelve log _ refl

-- as many calls as there are, where there is room for their answers
calls_all : (n room : ℕ) → n * 3 ≤ room → calls_run (n * 12) room ≡ n
unfolding calls_run least
calls_all n room h = by (leb ((n * 12 + 11) / 12) (room / 3)) refl
  where
    by : (t : Bool) → leb ((n * 12 + 11) / 12) (room / 3) ≡ t → elim t [ true ↦ (n * 12 + 11) / 12 | false ↦ room / 3 ] ≡ n
    by true e = omega arith
    by false e = absurd (omega (arith, h, leb-false ((n * 12 + 11) / 12) (room / 3) e))

-- calls of twelve words, laid end to end, are those calls
module _ (bs : List ℕ) (cs : List (List ℤ)) (sized : all (of_size 12) cs ≡ true) (area answers : List ℤ) (room : length cs * 3 ≤ length answers) where
  count_is : calls_run (length (flat cs)) (length answers) ≡ length cs
  count_is = ap (λ n. calls_run n (length answers)) (length_flat 12 cs sized) ∙ calls_all (length cs) (length answers) room

  pub run_laid : run_calls bs (flat cs) area answers ≡ (length cs, (run_on bs cs area).1, answers_words (run_on bs cs area).0 ++ drop (length cs * 3) answers)
  unfolding run_calls
  run_laid = rw (count_is, chunks_flat 12 cs sized) refl

calls_sized : (log : List Logged) → all twelve_words log ≡ true → all (of_size 12) (calls_of log) ≡ true
unfolding calls_of twelve_words
calls_sized log sized = all_map twelve_words (of_size 12) (λ x. x.0) (λ x h. h) log sized

calls_count : (log : List Logged) → length (calls_of log) ≡ length log
unfolding calls_of
calls_count log = simp length-map refl

module _ (bs : List ℕ) (acc : check_schema bs ≡ Accepted) (calls answers : List ℤ) where
  demand_of : Demand3 bs (fresh_words (schema_of bs)) (chunks 12 (calls_run (length calls) (length answers)) calls)
  demand_of = fresh_demand_3 bs acc (chunks 12 (calls_run (length calls) (length answers)) calls)

  -- from a fresh area, whatever calls are laid end to end
  pub run_demand_3 : RunDemand3 bs calls answers
  unfolding run_calls
  run_demand_3 =
      record {
        demand = demand_of;
        again = λ left e answers' room.
            let sized : all twelve_words left ≡ true = ap (all twelve_words) e ∙ left_twelve _ in
            let end : List ℤ = end_of bs (fresh_words (schema_of bs)) (chunks 12 (calls_run (length calls) (length answers)) calls) in
            let same : run_on bs (calls_of left) (fresh_words (schema_of bs)) ≡ (left, end)
            = ap (λ l. run_on bs (calls_of l) (fresh_words (schema_of bs))) e ∙ demand_of.same ∙ ap (λ l. (l, end)) (sym e) in
            rw (← (calls_count left))
            (run_laid bs (calls_of left) (calls_sized left sized) (fresh_words (schema_of bs)) answers' (rw (calls_count left) room)
            ∙ ap (λ (r : List Logged × List ℤ). (length (calls_of left), r.1, answers_words r.0 ++ drop (length (calls_of left) * 3) answers')) same);
      }
