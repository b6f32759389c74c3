-- The call that twelve words are, kind by kind, where refusal 4 does not refuse it.
-- Assumes nothing.
use mathlib.Core.Path.{◌≡◌, refl, sym, ◌∙◌, ap}
use mathlib.Core.Bool.{Bool, true, false, ◌&&◌, and-true, and-false}
use mathlib.Core.List.{List}
use Prim.Native.Nat.{ℕ, zero, suc, ◌+◌, ◌-◌, ◌≤◌, ◌<◌}
use native.Mathlib.Omega.{arith}
use borrow.Author.Tests.{ltb-true, eq-eqb, ne_eqb}
use Rattle.std.specs.Bool.{then_some}
use Rattle.std.specs.Option.{MatchOption, IsSomeAnd, ok_or}
use Rattle.std.specs.Result.{MatchResult}
use Rattle.std.specs.declared.result.Result.{Result}
use Rattle.std.specs.declared.option.Option.{Option}
use Rattle.std.specs.declared.option.Option.TheVariants.{Some, None}
use lib.Dec.{eqb}
use lib.IntN.{ℤ}
use lib.ListN.{length, get_or, drop}
use lib.Seq.{drop-drop}
use Rattle.schema.specs.Records.{Schema, table_of}
use Rattle.schema.proofs.RangeLaws.{and_right}
use Rattle.rules.specs.declared.Refusal.{Refusal}
use Rattle.rules.specs.declared.Refusal.TheVariants.{BadCall}
use Rattle.rules.specs.Lists.{𝟘}
use Rattle.rules.specs.Values.{nat_of, natural, all_zero}
use Rattle.rules.specs.Calls.{Call, malformed, delete, begin, savepoint, release, rollback_to, rollback, commit, formed_if, parsed, parse, in_table, row_fits, allowed}
use Rattle.bridge.proofs.UndoWords.{in_tables}
use Rattle.call_form.specs.declared.Request.{Request}
use Rattle.call_form.specs.declared.Request.TheVariants.{Insert, Update, Delete, Begin, Savepoint, Release, RollbackTo, Rollback, Commit, DeleteWhere, UpdateWhere}
use Rattle.call_form.specs.Requests.{call_of, asked, judged, row_place, column_place, names_row, gives_row, names_level, natural_place}

-- a request whose words pass a test
pub asked_if : (t : Bool) (r : Request) (ws : List ℤ) → asked (then_some t r) ws ≡ formed_if t (call_of r ws)
unfolding formed_if
asked_if true r ws = refl
asked_if false r ws = refl

-- and where there is no request, refusal 4
pub refused_or : (ws : List ℤ) (o : Option Request) (r : Result Request Refusal) {c : Call} → r ≡ ok_or o BadCall → asked o ws ≡ c → MatchResult r (λ x. call_of x ws ≡ c) (λ e. (e ≡ BadCall) × (malformed ≡ c))
refused_or ws (Some x) r e h = rw e h
refused_or ws None r e h = rw e (refl, h)

-- a request that is made of a place, where its words pass a test
pub asked_of : {A : Type 0} (f : A → Request) (t : Bool) (x : A) (ws : List ℤ) (o : Option A) (r : Option Request) {P : A → Request → Type 0}
    → o ≡ then_some t x → MatchOption o (r ≡ None) (λ y. IsSomeAnd r (P y)) → ((y : A) (z : Request) → P y z → z ≡ f y) → asked r ws ≡ formed_if t (call_of (f x) ws)
unfolding formed_if
asked_of f true x ws o (Some z) e h g = ap (λ z. call_of z ws) (g x z (rw e at h))
asked_of f true x ws o None e h g = absurd (rw e at h)
asked_of f false x ws o r e h g = ap (λ r. asked r ws) (rw e at h)

and_swap : (p n t f : Bool) → p && n && (t && f) ≡ p && t && n && f
and_swap false n t f = refl
and_swap true true t f = ap (λ x. x && f) (sym (and-true t))
and_swap true false true f = refl
and_swap true false false f = refl

and_last : (p n t : Bool) → p && n && t ≡ p && t && n
and_last false n t = refl
and_last true true true = refl
and_last true true false = refl
and_last true false true = refl
and_last true false false = refl

module _ (s : Schema) where
  judged_if : (t : Bool) (c : Call) → judged s (formed_if t c) ≡ formed_if (t && allowed s c) c
  unfolding judged formed_if allowed
  judged_if true c = refl
  judged_if false c = refl

  module _ (ws : List ℤ) where
    abbrev a : ℕ
    a = nat_of (get_or ws 1 𝟘)

    abbrev b : ℕ
    b = nat_of (get_or ws 2 𝟘)

    abbrev m : ℕ
    m = nat_of (get_or ws 3 𝟘)

    abbrev row : Request → Type 0
    row x = allowed s (call_of x ws) ≡ in_table s a b && row_fits (table_of s a) m (drop 4 ws)

    row_judged : (x : Request) → row x → formed_if (gives_row s ws) (call_of x ws) ≡ judged s (formed_if (natural (get_or ws 1 𝟘) && natural (get_or ws 2 𝟘) && natural (get_or ws 3 𝟘)) (call_of x ws))
    unfolding gives_row names_row
    row_judged x e =
        let p : Bool = natural (get_or ws 1 𝟘) && natural (get_or ws 2 𝟘) in
        sym (judged_if (p && natural (get_or ws 3 𝟘)) (call_of x ws)
        ∙ ap (λ t. formed_if t (call_of x ws)) (ap (λ t. p && natural (get_or ws 3 𝟘) && t) e ∙ and_swap p (natural (get_or ws 3 𝟘)) (in_table s a b) (row_fits (table_of s a) m (drop 4 ws))))

    -- the call of a request whose words pass the test of its kind
    pub insert_is : formed_if (gives_row s ws) (call_of (Insert (row_place ws)) ws) ≡ judged s (parsed 1 ws)
    unfolding parsed allowed call_of
    insert_is = row_judged (Insert (row_place ws)) refl

    pub update_is : formed_if (gives_row s ws) (call_of (Update (row_place ws)) ws) ≡ judged s (parsed 2 ws)
    unfolding parsed allowed call_of
    update_is = row_judged (Update (row_place ws)) refl

    pub delete_is : formed_if (names_row s ws && all_zero (drop 3 ws)) (call_of (Delete (row_place ws)) ws) ≡ judged s (parsed 3 ws)
    unfolding parsed allowed names_row call_of
    delete_is =
        let p : Bool = natural (get_or ws 1 𝟘) && natural (get_or ws 2 𝟘) in
        sym (judged_if (p && all_zero (drop 3 ws)) (delete a b) ∙ ap (λ t. formed_if t (delete a b)) (and_last p (all_zero (drop 3 ws)) (in_table s a b)))

    pub release_is : formed_if (names_level ws) (call_of (Release (nat_of (get_or ws 1 𝟘))) ws) ≡ judged s (parsed 6 ws)
    unfolding parsed allowed names_level call_of
    release_is = sym (judged_if (natural (get_or ws 1 𝟘) && all_zero (drop 2 ws)) (release a))

    pub rollback_to_is : formed_if (names_level ws) (call_of (RollbackTo (nat_of (get_or ws 1 𝟘))) ws) ≡ judged s (parsed 7 ws)
    unfolding parsed allowed names_level call_of
    rollback_to_is = sym (judged_if (natural (get_or ws 1 𝟘) && all_zero (drop 2 ws)) (rollback_to a))

    pub delete_where_is : formed_if (natural_place ws && all_zero (drop 5 ws) && allowed s (call_of (DeleteWhere (column_place ws)) ws)) (call_of (DeleteWhere (column_place ws)) ws) ≡ judged s (parsed 10 ws)
    unfolding parsed natural_place call_of
    delete_where_is = sym (judged_if (natural_place ws && all_zero (drop 5 ws)) (call_of (DeleteWhere (column_place ws)) ws))

    pub update_where_is : formed_if (natural_place ws && natural (get_or ws 5 𝟘) && all_zero (drop 7 ws) && allowed s (call_of (UpdateWhere (column_place ws)) ws)) (call_of (UpdateWhere (column_place ws)) ws) ≡ judged s (parsed 11 ws)
    unfolding parsed natural_place call_of
    update_where_is = sym (judged_if (natural_place ws && natural (get_or ws 5 𝟘) && all_zero (drop 7 ws)) (call_of (UpdateWhere (column_place ws)) ws))

    bare_judged : (c : Call) → allowed s c ≡ true → formed_if (all_zero (drop 1 ws)) c ≡ judged s (formed_if (all_zero (drop 1 ws)) c)
    unfolding formed_if
    bare_judged c e = sym (judged_if (all_zero (drop 1 ws)) c ∙ ap (λ t. formed_if t c) (and_on (all_zero (drop 1 ws)) e))
      where
        and_on : (t : Bool) {u : Bool} → u ≡ true → t && u ≡ t
        and_on true h = h
        and_on false h = refl

    pub begin_is : formed_if (all_zero (drop 1 ws)) (call_of Begin ws) ≡ judged s (parsed 4 ws)
    unfolding parsed allowed call_of
    begin_is = bare_judged begin refl

    pub savepoint_is : formed_if (all_zero (drop 1 ws)) (call_of Savepoint ws) ≡ judged s (parsed 5 ws)
    unfolding parsed allowed call_of
    savepoint_is = bare_judged savepoint refl

    pub rollback_is : formed_if (all_zero (drop 1 ws)) (call_of Rollback ws) ≡ judged s (parsed 8 ws)
    unfolding parsed allowed call_of
    rollback_is = bare_judged rollback refl

    pub commit_is : formed_if (all_zero (drop 1 ws)) (call_of Commit ws) ≡ judged s (parsed 9 ws)
    unfolding parsed allowed call_of
    commit_is = bare_judged commit refl

    -- the kind is n
    pub at_kind : {k n : ℕ} → k ≡ n → judged s (parsed n ws) ≡ judged s (parsed k ws)
    at_kind e = ap (λ i. judged s (parsed i ws)) (sym e)

    judged_malformed : judged s malformed ≡ malformed
    unfolding judged formed_if allowed
    judged_malformed = refl

    zero_kind : parsed 0 ws ≡ malformed
    unfolding parsed
    zero_kind = refl

    high_kind : (k : ℕ) → 12 ≤ k → parsed k ws ≡ malformed
    unfolding parsed
    high_kind k h =
        let e : k ≡ suc (suc (suc (suc (suc (suc (suc (suc (suc (suc (suc (suc (k - 12)))))))))))) = omega arith in
        ap (λ n. parsed n ws) e

    -- a kind that is none of eleven
    pub other_is : (k : ℕ) → (0 < k → 12 ≤ k) → malformed ≡ judged s (parsed k ws)
    other_is zero h = sym (ap (judged s) zero_kind ∙ judged_malformed)
    other_is (suc k) h = sym (ap (judged s) (high_kind (suc k) (h (omega arith))) ∙ judged_malformed)

    -- ---- the words

    pub names_table : names_row s ws ≡ true → nat_of (get_or ws 1 𝟘) < length s.tables
    unfolding names_row in_table
    names_table e = in_tables s a b (ltb-true b (table_of s a).rows (and_right (natural (get_or ws 1 𝟘) && natural (get_or ws 2 𝟘)) _ e))

    -- ---- the whole

    pub parse_short : (length ws ≡ 12 → ⊥) → malformed ≡ judged s (parse ws)
    unfolding parse formed_if
    parse_short h = rw (ne_eqb (length ws) 12 h) (sym judged_malformed)

    pub parse_negative : natural (get_or ws 0 𝟘) ≡ false → malformed ≡ judged s (parse ws)
    unfolding parse formed_if
    parse_negative e = sym (ap (λ t. judged s (formed_if t (parsed (nat_of (get_or ws 0 𝟘)) ws))) (ap (λ t. eqb (length ws) 12 && t) e ∙ and-false (eqb (length ws) 12)) ∙ judged_malformed)

    pub parse_kind : length ws ≡ 12 → natural (get_or ws 0 𝟘) ≡ true → parsed (nat_of (get_or ws 0 𝟘)) ws ≡ parse ws
    unfolding parse formed_if
    parse_kind h e = rw (eq-eqb (length ws) 12 h, e) refl

-- the values past the columns
pub past_columns : (ws : List ℤ) {c n : ℕ} → c ≡ n → all_zero (drop (4 + c) ws) ≡ all_zero (drop n (drop 4 ws))
past_columns ws {c} {n} e = ap (λ k. all_zero (drop (4 + k) ws)) e ∙ ap all_zero (sym (drop-drop n 4 ws))
