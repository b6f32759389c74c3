-- Laws of the row change, as the cycle uses them.
-- Assumes nothing.
use mathlib.Core.Path.{◌≡◌, refl, sym, ap, ap₂, ◌∙◌}
use mathlib.Core.Bool.{Bool, true, false, not, ◌&&◌, ◌||◌, true≢false}
use mathlib.Core.List.{List, [], ◌∷◌}
use mathlib.Core.Logic.{◌⊎◌, inl, inr}
use Prim.Native.Nat.{ℕ, zero, suc, ◌+◌, ◌-◌, ◌≤◌, ◌<◌}
use native.Mathlib.Numerals.{add-one}
use native.Mathlib.Omega.{arith}
use lib.Dec.{eqb}
use lib.IntN.{ℤ}
use lib.ListN.{length, drop}
use lib.Seq.{drop-cons}
use Rattle.schema.specs.declared.Action.{Action}
use Rattle.schema.specs.declared.Action.TheVariants.{NoAction, Restrict, SetNull, SetDefault, Cascade}
use Rattle.schema.specs.Records.{ForeignKey, Schema, parent_key, no_key, table_of, key_of}
use Rattle.rules.specs.declared.Refusal.{Refusal}
use Rattle.rules.specs.declared.Refusal.TheVariants.{TooDeep, Restricted}
use Rattle.rules.specs.Refusals.{Verdict}
use Rattle.std.specs.Prelude.{Ok, Err}
use Rattle.rules.specs.Lists.{any, up_from}
use Rattle.rules.specs.Rows.{Row, Tables, row_at, image, live, null_at}
use Rattle.rules.specs.Keys.{full_key, serves, same_parent_key, fires}
use Rattle.rules.specs.Book.{Work, write}
use Rattle.rules.specs.Change.{Change, go, then, given, admits, admitted, action_of, taken, key_turn, actions, change}
use Rattle.rules.specs.KeyValues.{key_values, has_old_key, child_has_key, turn_by_values, children_by_values}
use Rattle.bridge.specs.Ready.{Placed, result_of}
use Rattle.schema.proofs.RangeLaws.{and_right}
use Rattle.bridge.proofs.Tests.{fails}
use Rattle.bridge.proofs.Undo.{spared}
use Rattle.bridge.proofs.TurnLaws.{turns_start, turns_past, turns_done, turns_refused}
use Rattle.bridge.proofs.ValueLaws.{takes_values, children_values}
use Rattle.bridge.proofs.KeyLaws.{serves_same, get_padded}
use Rattle.table_keys.specs.Touched.{touches, whole_at}
use Rattle.moves.specs.Tally.{TalliedAt}
use Rattle.moves.proofs.Taken.{restrict_first}
use Rattle.change_parts.specs.Turns.{deletes_child, action_image, old_key, Unserved, WindowTurn}
use Rattle.change_parts.proofs.FollowerLaws.{old_compared, children_compared}
use Rattle.change_parts.proofs.PartLaws.{cascade_image}
use Rattle.change_parts.proofs.WindowTurns.{old_full}

-- a row with its tally is in the area
pub at_placed : {b : List ℕ} {tally a : List ℤ} {t r : ℕ} → TalliedAt b tally a t r → Placed b a t r
at_placed h = record { ready = h.tallied.ready; table = h.table; row = h.row }

-- ---- child rows in turn
module _ (rec : Change) (s : Schema) (new : Row) (k : ForeignKey) (vs : List ℤ) where
  pub rows_start : (n : ℕ) (w : Work) {m : ℕ} → m ≡ n → children_by_values rec s new k vs (up_from 0 n) w ≡ children_by_values rec s new k vs (up_from 0 (m - 0)) w
  unfolding children_by_values
  rows_start = turns_start (turn_by_values rec s new k vs)

  row_idle : (j : ℕ) (w : Work) → child_has_key k vs w.tabs j ≡ false → turn_by_values rec s new k vs j w ≡ go w
  unfolding turn_by_values given
  row_idle j w e = rw e refl

  row_taken : (j : ℕ) (w : Work) → child_has_key k vs w.tabs j ≡ true → turn_by_values rec s new k vs j w ≡ taken rec s new (action_of new k) k j (image k.child j w.tabs) w
  unfolding turn_by_values given
  row_taken j w e = rw e refl

  module _ (n j i : ℕ) (w : Work) (low : j ≤ i) (high : i < n) (idle : (m : ℕ) → j ≤ m → m < i → child_has_key k vs w.tabs m ≡ false) where
    module _ (on : child_has_key k vs w.tabs i ≡ true) (t : ℕ) (et : t ≡ k.child) (o : Verdict) (v : Work) (e : result_of o v ≡ taken rec s new (action_of new k) k i (image t i w.tabs) w) where
      turn_is : turn_by_values rec s new k vs i w ≡ result_of o v
      turn_is = row_taken i w on ∙ ap (λ (u : ℕ). taken rec s new (action_of new k) k i (image u i w.tabs) w) (sym et) ∙ sym e

      pub rows_done : o ≡ Ok tt → children_by_values rec s new k vs (up_from j (n - j)) w ≡ children_by_values rec s new k vs (up_from (i + 1) (n - (i + 1))) v
      unfolding children_by_values
      rows_done = turns_done (turn_by_values rec s new k vs) n j i w low (omega (arith, high)) (λ m p q. row_idle m w (idle m p q)) high o v turn_is

      pub rows_refused : {c : Refusal} → o ≡ Err c → children_by_values rec s new k vs (up_from j (n - j)) w ≡ result_of (Err c) v
      unfolding children_by_values
      rows_refused = turns_refused (turn_by_values rec s new k vs) n j i w low (omega (arith, high)) (λ m p q. row_idle m w (idle m p q)) high o v turn_is

  -- none of the rest is taken
  pub rows_past : (n j i : ℕ) (w : Work) → j ≤ i → i ≤ n → n ≤ i → ((m : ℕ) → j ≤ m → m < i → child_has_key k vs w.tabs m ≡ false) → children_by_values rec s new k vs (up_from j (n - j)) w ≡ result_of (Ok tt) w
  unfolding children_by_values
  rows_past n j i w l h p idle = turns_past (turn_by_values rec s new k vs) n j i w l h (λ m a b. row_idle m w (idle m a b)) p

-- ---- keys in turn
drop_past : {A : Type 0} (k : ℕ) (l : List A) → length l ≤ k → drop k l ≡ []
drop_past zero [] h = refl
drop_past zero (x ∷ l) h = absurd (omega arith)
drop_past (suc k) [] h = refl
drop_past (suc k) (x ∷ l) h = drop_past k l (omega arith)

module _ (rec : Change) (s : Schema) (new : Row) (t : ℕ) (old : Row) where
  pub keys_none : (k : ℕ) (w : Work) → length s.keys ≤ k → actions rec s new t old (drop k s.keys) w ≡ result_of (Ok tt) w
  unfolding actions result_of
  keys_none k w h = ap (λ (l : List ForeignKey). actions rec s new t old l w) (drop_past k s.keys h)

  module _ (k : ℕ) (w : Work) (l : k < length s.keys) (o : Verdict) (v : Work) (e : result_of o v ≡ key_turn rec s new t old (key_of s k) w) where
    keys_step : actions rec s new t old (drop k s.keys) w ≡ then (key_turn rec s new t old (key_of s k) w) (actions rec s new t old (drop (k + 1) s.keys))
    unfolding actions
    keys_step = ap (λ (l : List ForeignKey). actions rec s new t old l w) (drop-cons s.keys k no_key l ∙ ap (λ (i : ℕ). key_of s k ∷ drop i s.keys) (sym (add-one k)))

    pub keys_done : o ≡ Ok tt → actions rec s new t old (drop k s.keys) w ≡ actions rec s new t old (drop (k + 1) s.keys) v
    unfolding then result_of
    keys_done p = keys_step ∙ rw (← e, p) refl

    pub keys_refused : {c : Refusal} → o ≡ Err c → actions rec s new t old (drop k s.keys) w ≡ result_of (Err c) v
    unfolding then result_of
    keys_refused p = keys_step ∙ rw (← e, p) refl

-- ---- a key's turn

-- a key that does not touch the table, or is broken, has no actions
pub not_whole_still : (new : Row) (t : ℕ) (old : Row) (k : ForeignKey) → whole_at t k ≡ false → fires new t old k ≡ false
unfolding whole_at touches fires
not_whole_still new t old k h = go (eqb k.child t) (eqb k.parent t) k.broken h
  where
    go : (c p b : Bool) → (c || p) && not b ≡ false → p && (not b && (full_key (parent_key k) old && not (same_parent_key k old new))) ≡ false
    go c false b e = refl
    go c true true e = refl
    go true true false e = absurd (true≢false e)
    go false true false e = absurd (true≢false e)

module _ (rec : Change) (s : Schema) (new : Row) (t : ℕ) (old : Row) (k : ForeignKey) (w : Work) where
  pub key_off : fires new t old k ≡ false → result_of (Ok tt) w ≡ key_turn rec s new t old k w
  unfolding key_turn given result_of
  key_off e = sym (rw e refl)

  pub key_window : {o : Verdict} → WindowTurn s new t old k w o → result_of o w ≡ key_turn rec s new t old k w
  key_window h = sym (h.turn rec)

  module _ (e : fires new t old k ≡ true) (plain : k.windows ≡ []) (same_count : length k.child_columns ≡ length k.parent_columns) where
    few : length k.windows ≤ 1
    few = rw plain (omega arith)

    filled : any (null_at old) (parent_key k) ≡ false
    unfolding full_key
    filled = fails _ (and_right (live old) _ (old_full new t old k e))

    pub key_on : {vs : List ℤ} → vs ≡ old_key k old → children_by_values rec s new k vs (up_from 0 (table_of s k.child).rows) w ≡ key_turn rec s new t old k w
    unfolding key_turn given old_key
    key_on v =
        let rows = up_from 0 (table_of s k.child).rows in
        rw v
        (children_compared k plain (key_values (parent_key k) old) rec s new rows w
        ∙ sym (rw e (children_values old k same_count few filled rec s new rows w)))

    -- a row with the old key is one that the actions take: it does not map to the new row
    pub unserved : {vs : List ℤ} → vs ≡ old_key k old → Unserved k vs new
    unfolding old_key
    unserved v =
        record {
          none = λ row h.
              let has = sym (old_compared k plain (key_values (parent_key k) old) row) ∙ ap (λ (us : List ℤ). has_old_key k us row) (sym v) ∙ h in
              restrict_first k t 0 old new w.tabs same_count plain e row (takes_values old k same_count few filled row ∙ has);
        }

-- ---- a row that has the old key
pub row_unserved : (k : ForeignKey) (vs : List ℤ) (new : Row) → Unserved k vs new → (tabs : Tables) (i t : ℕ) → t ≡ k.child → child_has_key k vs tabs i ≡ true → serves k (image t i tabs) new ≡ false
unfolding child_has_key image
row_unserved k vs new u tabs i t e h =
    let row = row_at k.child i tabs in
    ap (λ (u : ℕ). serves k (image u i tabs) new) e ∙ serves_same _ row (get_padded 9 row) k new ∙ u.none row h

-- ---- a taken row
module _ (rec : Change) (s : Schema) (new : Row) (k : ForeignKey) (j : ℕ) (x : Row) (w : Work) (a : Action) (ea : a ≡ action_of new k) where
  pub row_none : a ≡ NoAction → result_of (Ok tt) w ≡ taken rec s new (action_of new k) k j x w
  unfolding taken result_of
  row_none e = rw (← ea, e) refl

  pub row_restrict : a ≡ Restrict → serves k x new ≡ false → result_of (Err Restricted) w ≡ taken rec s new (action_of new k) k j x w
  unfolding taken given result_of
  row_restrict e h = rw (← ea, e, h) refl

  module _ (t : ℕ) (et : t ≡ k.child) (y : Row) where
    -- by an action that gives it an image
    row_acted : (b : Action) → taken rec s new b k j x w ≡ rec k.child j (action_image b s k new x) w → a ≡ b → y ≡ action_image a s k new x → rec t j y w ≡ taken rec s new (action_of new k) k j x w
    row_acted b q e g =
        ap₂ (λ (u : ℕ) (z : Row). rec u j z w) et (g ∙ ap (λ (c : Action). action_image c s k new x) e)
        ∙ sym q
        ∙ ap (λ (c : Action). taken rec s new c k j x w) (sym e ∙ ea)

    row_null : a ≡ SetNull → y ≡ action_image a s k new x → rec t j y w ≡ taken rec s new (action_of new k) k j x w
    unfolding taken action_image deletes_child
    row_null = row_acted SetNull refl

    row_default : a ≡ SetDefault → y ≡ action_image a s k new x → rec t j y w ≡ taken rec s new (action_of new k) k j x w
    unfolding taken action_image deletes_child
    row_default = row_acted SetDefault refl

    row_cascade : a ≡ Cascade → y ≡ action_image a s k new x → rec t j y w ≡ taken rec s new (action_of new k) k j x w
    unfolding taken
    row_cascade = row_acted Cascade (ap (λ (z : Row). rec k.child j z w) (cascade_image s k new x))

    -- by one of the three
    pub row_given : (a ≡ SetNull) ⊎ ((a ≡ SetDefault) ⊎ (a ≡ Cascade)) → y ≡ action_image a s k new x → rec t j y w ≡ taken rec s new (action_of new k) k j x w
    row_given (inl e) g = row_null e g
    row_given (inr (inl e)) g = row_default e g
    row_given (inr (inr e)) g = row_cascade e g

-- ---- a change
module _ (s : Schema) (t r : ℕ) (new : Row) (w : Work) (left : ℕ) where
  pub change_none : left ≡ 0 → result_of (Err TooDeep) w ≡ change left s t r new w
  unfolding change result_of
  change_none e = sym (rw e refl)

  module _ (h : left ≡ 0 → ⊥) (o : Verdict) (v : o ≡ admits s t r new w) where
    change_on : change left s t r new w ≡ admitted o (λ (w : Work). actions (change (left - 1) s) s new t (image t r w.tabs) s.keys (write t r new w)) w
    unfolding change
    change_on = let level : left ≡ suc (left - 1) = omega arith in ap (λ (n : ℕ). change n s t r new w) level ∙ rw v refl

    pub change_refused : {c : Refusal} → o ≡ Err c → result_of (Err c) w ≡ change left s t r new w
    unfolding admitted result_of
    change_refused e = sym (change_on ∙ rw e refl)

    pub change_more : o ≡ Ok tt → actions (change (left - 1) s) s new t (image t r w.tabs) s.keys (write t r new w) ≡ change left s t r new w
    unfolding admitted
    change_more e = sym (change_on ∙ rw e refl)

    pub change_room : o ≡ Ok tt → 0 < length w.spare
    change_room e = spared s t r new w (sym v ∙ e)
