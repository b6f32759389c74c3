-- What a call can come to.
-- Assumes nothing.
use mathlib.Core.Path.{◌≡◌, refl, sym, ◌∙◌, ap}
use mathlib.Core.Bool.{Bool, true, false, ◌&&◌, ◌||◌, true≢false, false≢true}
use mathlib.Core.List.{List, [], ◌∷◌}
use Prim.Native.Nat.{ℕ, suc, ◌-◌, ◌≤◌, ◌<◌}
use mathlib.Core.Logic.{◌≢◌}
use native.Mathlib.Omega.{arith}
use borrow.Author.Tests.{leb-true, ne_eqb}
use lib.Dec.{leb, eqb, leb→le, eqb→eq}
use lib.IntN.{ℤ}
use lib.ListN.{length, drop_of_length-le}
use Rattle.bridge.proofs.CountBounds.{counts_in_range}
use Rattle.bridge.proofs.Counts.{kept_counted}
use Rattle.bridge.proofs.Tests.{holds, fails}
use Rattle.bridge.proofs.Undo.{Undoes, Fine, went, stopped, of_change, fine_change, fine_found, shaped_after}
use Rattle.laws.proofs.Back.{Good, moved, unused}
use Rattle.laws.proofs.Good.{cleared_is, good_alone, good_undamaged}
use Rattle.laws.specs.Regular.{regular, regular_answer}
use Rattle.rules.specs.Book.{Work, Book, close, back, ended, abort, push}
use Rattle.rules.specs.Calls.{Call, malformed, insert, update, delete, begin, savepoint, release, rollback_to, rollback, commit, delete_where, update_where, in_table, parse, allowed}
use Rattle.rules.specs.Change.{Result}
use Rattle.rules.specs.Found.{rows_found}
use Rattle.rules.specs.Rows.{Row}
use Rattle.rules.specs.Keys.{counts}
use Rattle.rules.specs.Lists.{less, plus}
use Rattle.rules.specs.Refusals.{number, did}
use Rattle.rules.specs.State.{in_transaction, level_open, opener_fits, kept_in_range}
use Rattle.rules.specs.Statement.{Turn, check, demand, after_statement, journal_after, settle, conclude, statement, row_statement}
use Rattle.rules.specs.Step.{opened, opener_of, committed, rolled, released, act, step, Logged}
use Rattle.rules.specs.Strike.{Struck, joined, place}
use Rattle.std.specs.Prelude.{Err}
use Rattle.rules.specs.declared.Refusal.{Refusal}
use Rattle.schema.proofs.RangeLaws.{and_left, and_right}
use Rattle.schema.proofs.SchemaLaws.{Valid}
use Rattle.schema.specs.Records.{Schema}

-- how a call of this kind goes into the line and on the pile
abbrev pub Plain : Call → Type 0
Plain c = (x : Logged) (k : Struck) → place c x k ≡ record { line = joined x k.line; pile = k.pile }

abbrev pub Opens : Call → Type 0
Opens c = (x : Logged) (k : Struck) → place c x k ≡ record { line = joined x k.line; pile = length (joined x k.line) ∷ k.pile }

abbrev pub Ends : ℕ → Call → Type 0
Ends n c = (x : Logged) (k : Struck) → length k.pile ≡ n → place c x k ≡ record { line = joined x k.line; pile = [] }

pub data Outcome (s : Schema) (b : Book) : Call → Turn → Type 0 where
  refusal : {c : Call} {r : Refusal} {b' : Book} → regular r ≡ true → b' ≡ b → Outcome s b c (Err r, b')
  moving : {c : Call} {n : ℕ} {d : ℤ} {b' : Book} (w : Work) → Plain c → in_transaction b.levels ≡ true → kept_in_range s s.keys (counts s w.tabs) ≡ true → Undoes s b.work w → b' ≡ moved (counts s w.tabs) w b → Outcome s b c (did n d, b')
  alone : {c : Call} {n : ℕ} {d : ℤ} {b' : Book} → Plain c → b.levels ≡ [] → b'.levels ≡ [] → Good s b' → Outcome s b c (did n d, b')
  opening : {c : Call} {n : ℕ} {d : ℤ} {b' : Book} (o : ℕ) (x : List ℤ) (rest : List (List ℤ)) → Opens c → b.closed ≡ x ∷ rest → (in_transaction b.levels ≡ true → o ≡ b.opener) → opener_fits true o ≡ true → b' ≡ push o rest b → Outcome s b c (did n d, b')
  closing : {n : ℕ} {d : ℤ} {b' : Book} (a : ℕ) → 1 < a → a ≤ length b.levels → b' ≡ close (suc (length b.levels) - a) b → Outcome s b (release a) (did n d, b')
  ending : {c : Call} {n : ℕ} {d : ℤ} {b' : Book} → Ends (length b.levels) c → b' ≡ ended b.kept b.work b → Outcome s b c (did n d, b')
  backing : {n : ℕ} {d : ℤ} {b' : Book} (a : ℕ) → 0 < a → a ≤ length b.levels → b' ≡ back (length b.levels - a) b → Outcome s b (rollback_to a) (did n d, b')
  aborting : {n : ℕ} {d : ℤ} {b' : Book} → in_transaction b.levels ≡ true → b' ≡ abort b → Outcome s b rollback (did n d, b')

ends_release : {n : ℕ} (a : ℕ) → a ≡ 1 → Ends n (release a)
unfolding place
ends_release a e x k h =
    λ i. record { line = joined x k.line; pile = drop_of_length-le k.pile {i = suc (length k.pile) - a} (omega arith) i }

-- a row change is refused by 14 to 18, 23 and 24
change_regular : (r : Refusal) → of_change r ≡ true → regular r ≡ true
unfolding of_change regular
change_regular r h =
    let low : 14 ≤ number r = leb-true 14 (number r) (and_left (leb 14 (number r)) (leb (number r) 18 || leb 23 (number r)) h) in
    let high : leb (number r) 18 || leb 23 (number r) ≡ true = and_right (leb 14 (number r)) (leb (number r) 18 || leb 23 (number r)) h in
    rw (ne_eqb (number r) 10 (λ e. omega (arith, low)), ne_eqb (number r) 19 (λ e. false≢true (rw e at high)))

-- the number of an open level
pub level_in : (b : Book) (a : ℕ) → level_open b a ≡ true → (0 < a) × (a ≤ length b.levels)
unfolding level_open
level_in b a h =
    let e : leb 1 a && leb a (length b.levels) ≡ true = and_left (leb 1 a && leb a (length b.levels)) _ h in
    (leb→le 1 a (holds (and_left (leb 1 a) _ e)), leb→le a _ (holds (and_right (leb 1 a) _ e)))

module _ {s : Schema} {b : Book} (v : Valid s) (g : Good s b) where
  of_check : {c : Call} (t : Bool) (r : Refusal) (k : Book → Turn) → regular r ≡ true → (t ≡ true → Outcome s b c (k b)) → Outcome s b c (check t r k b)
  unfolding check
  of_check true r k h f = f refl
  of_check false r k h f = refusal h refl

  -- a test that holds
  of_sure : {c : Call} (t : Bool) (r : Refusal) (k : Book → Turn) → t ≡ true → Outcome s b c (k b) → Outcome s b c (check t r k b)
  unfolding check
  of_sure t r k e f = rw e f

  of_demand : {c : Call} (t : Bool) (r : Refusal) (k : Book → Turn) → regular r ≡ true → Outcome s b c (k b) → Outcome s b c (demand t r k b)
  unfolding demand
  of_demand true r k h f = f
  of_demand false r k h f = refusal h (cleared_is g)

  of_demanded : {c : Call} (t : Bool) (r : Refusal) (k : Book → Turn) → t ≡ true → Outcome s b c (k b) → Outcome s b c (demand t r k b)
  unfolding demand
  of_demanded t r k e f = rw e f

  of_accepted : {c : Call} (n : ℕ) (d : ℤ) (w : Work) → Plain c → Undoes s b.work w → kept_in_range s s.keys (counts s w.tabs) ≡ true → Outcome s b c (did n d, after_statement w (counts s w.tabs) b)
  unfolding after_statement journal_after
  of_accepted {c} n d w p u f = by (in_transaction b.levels) refl
    where
      by : (i : Bool) → in_transaction b.levels ≡ i → Outcome s b c (did n d, after_statement w (counts s w.tabs) b)
      by true h = moving {b' = after_statement w (counts s w.tabs) b} w p h f u (rw h refl)
      by false h = alone p (unused g h).0 (unused g h).0 (good_alone g w u h f)

  of_conclude : {c : Call} {x : Result} → Plain c → Fine s b.work x → Outcome s b c (conclude s x b)
  unfolding conclude settle regular number
  of_conclude p (went {v = w} u) =
      let f : kept_in_range s s.keys (counts s w.tabs) ≡ true = counts_in_range s w.tabs (shaped_after u g.shaped) in
      let e : plus b.kept (less (counts s w.tabs) (counts s b.work.tabs)) ≡ counts s w.tabs
      = ap (λ k. plus k (less (counts s w.tabs) (counts s b.work.tabs))) g.counted ∙ kept_counted s b.work.tabs w.tabs in
      rw e (of_demanded _ _ _ f (of_demand _ _ _ refl (of_accepted _ _ w p u f)))
  of_conclude p (stopped {c = r} h u) = refusal (change_regular r h) (cleared_is g)

  of_row : {c : Call} (fits : Bool) (t r : ℕ) (new : List ℤ) → Plain c → in_table s t r ≡ true → Outcome s b c (row_statement s fits t r new b)
  unfolding row_statement statement regular number
  of_row fits t r new p i = of_check fits _ _ refl (λ h. of_conclude p (fine_change v _ t r new i b.work g.shaped))

  of_found : {c : Call} (t : ℕ) (found : Row → Bool) (new : Row → Row) → Plain c → Outcome s b c (statement s (rows_found s t found new) b)
  unfolding statement
  of_found t found new p = of_conclude p (fine_found v t found new b.work g.shaped)

  of_opened : {c : Call} (o : ℕ) (rest : List (List ℤ)) → Opens c → b.closed ≡ rest → (in_transaction b.levels ≡ true → o ≡ b.opener) → opener_fits true o ≡ true → Outcome s b c (opened o rest b)
  unfolding opened regular number
  of_opened o [] p e f t = refusal refl refl
  of_opened o (x ∷ rest) p e f t = opening o x rest p e f t refl

  of_committed : {c : Call} → Ends (length b.levels) c → Outcome s b c (committed b)
  unfolding committed regular number
  of_committed p = of_check _ _ _ refl (λ h. ending p refl)

  of_released : (a : ℕ) → 0 < a → a ≤ length b.levels → Outcome s b (release a) (released (eqb a 1) (suc (length b.levels) - a) b)
  unfolding released
  of_released a h h' = by (eqb a 1) refl
    where
      by : (i : Bool) → eqb a 1 ≡ i → Outcome s b (release a) (released i (suc (length b.levels) - a) b)
      by true e = of_committed (ends_release a (eqb→eq a 1 (holds e)))
      by false e = let ne : a ≢ 1 = λ q. true≢false (sym (ap (λ m. eqb m 1) q) ∙ e) in closing a (omega arith) h' refl

  good_opener : (i : Bool) → opener_fits i b.opener ≡ true → opener_fits true (opener_of i b.opener) ≡ true
  unfolding opener_of opener_fits
  good_opener true h = h
  good_opener false h = refl

  of_act : (c : Call) → allowed s c ≡ true → Outcome s b c (act s c b)
  unfolding act place opener_of rolled allowed opener_fits regular number
  of_act malformed i = refusal refl refl
  of_act (insert t r m vs) i = of_row _ t r _ (λ x k. refl) (and_left (in_table s t r) _ i)
  of_act (update t r m vs) i = of_row _ t r _ (λ x k. refl) (and_left (in_table s t r) _ i)
  of_act (delete t r) i = of_row _ t r _ (λ x k. refl) i
  of_act begin i = of_check _ _ _ refl (λ h. of_opened 1 b.closed (λ x k. refl) refl (λ i. absurd (true≢false (sym i ∙ fails _ h))) refl)
  of_act savepoint i = of_opened _ b.closed (λ x k. refl) refl (λ i. rw i refl) (good_opener (in_transaction b.levels) g.heading)
  of_act (release a) i = of_check _ _ _ refl (λ h. of_released a (level_in b a h).0 (level_in b a h).1)
  of_act (rollback_to a) i = of_check _ _ _ refl (λ h. backing a (level_in b a h).0 (level_in b a h).1 refl)
  of_act rollback i = of_check _ _ _ refl (λ h. aborting h refl)
  of_act commit i = of_check _ _ _ refl (λ h. of_committed (λ x k e. refl))
  of_act (delete_where t c m x) i = of_found t _ _ (λ x k. refl)
  of_act (update_where t c m x d y) i = of_found t _ _ (λ x k. refl)

  pub outcome : (ws : List ℤ) → Outcome s b (parse ws) (step s ws b)
  unfolding step regular number
  outcome ws = of_check _ _ _ refl (λ h. of_sure _ _ _ (good_undamaged g) (of_act (parse ws) h))

-- an answer is neither 10 nor 19
pub outcome_regular : {s : Schema} {b : Book} {c : Call} {t : Turn} → Outcome s b c t → regular_answer t.0 ≡ true
unfolding regular_answer
outcome_regular (refusal h q) = h
outcome_regular (moving w p h f u q) = refl
outcome_regular (alone p h h' g) = refl
outcome_regular (opening o x rest p e f h q) = refl
outcome_regular (closing a h h' q) = refl
outcome_regular (ending p q) = refl
outcome_regular (backing a h h' q) = refl
outcome_regular (aborting h q) = refl
