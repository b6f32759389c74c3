-- The turn of a foreign key with a window: its actions take no row or refuse.
-- Assumes nothing.
use mathlib.Core.Path.{◌≡◌, refl, sym, ap, ◌∙◌}
use mathlib.Core.Bool.{Bool, true, false, not, ◌&&◌}
use mathlib.Core.List.{List, [], ◌∷◌}
use mathlib.Core.Logic.{◌⊎◌}
use Prim.Native.Nat.{ℕ, suc, ◌+◌, ◌<◌}
use native.Mathlib.Nat.{zero-add}
use native.Mathlib.Omega.{arith}
use borrow.Author.Tests.{ne_eqb}
use lib.Dec.{eqb}
use lib.IntN.{ℤ}
use lib.ListN.{length, get_or}
use Rattle.schema.specs.declared.Action.{Action}
use Rattle.schema.specs.declared.Action.TheVariants.{NoAction, Restrict}
use Rattle.schema.specs.Check.{Accepted, check_schema}
use Rattle.schema.specs.Records.{ForeignKey, Schema, parent_key, table_of, key_of}
use Rattle.schema.specs.Fields.{schema_of}
use Rattle.schema.proofs.RangeLaws.{and_left, and_right}
use Rattle.schema.proofs.FieldLaws.{window_actions}
use Rattle.rules.specs.declared.Refusal.TheVariants.{Restricted}
use Rattle.rules.specs.Refusals.{Verdict}
use Rattle.std.specs.Prelude.{Ok, Err}
use Rattle.rules.specs.Lists.{any, up_from}
use Rattle.rules.specs.Rows.{Row, Tables, row_at, image, live}
use Rattle.rules.specs.Keys.{full_key, serves, takes, fires}
use Rattle.rules.specs.Book.{Work}
use Rattle.rules.specs.Change.{Change, Result, go, stop, then, given, in_turn, action_of, taken, row_turn, children, key_turn}
use Rattle.bridge.specs.Fit.{work_of}
use Rattle.bridge.specs.Ready.{Ready, result_of}
use Rattle.bridge.proofs.KeyLaws.{serves_same, get_padded}
use Rattle.bridge.proofs.RowWords.{rows_length, formed_fit}
use Rattle.change_parts.specs.Turns.{restricted, WindowTurn}

-- ---- the action of a key with a window
pub window_action : (b : List ℕ) → check_schema b ≡ Accepted → (k : ℕ) → k < length (schema_of b).keys → length (key_of (schema_of b) k).windows ≡ 1 → (new : Row)
    → (action_of new (key_of (schema_of b) k) ≡ NoAction) ⊎ (action_of new (key_of (schema_of b) k) ≡ Restrict)
unfolding action_of
window_action b acc k h one new = by (live new)
  where
    by : (t : Bool) → (◌≡◌ {A = Action} (elim t [ true ↦ (key_of (schema_of b) k).on_update | false ↦ (key_of (schema_of b) k).on_delete ]) NoAction) ⊎ (◌≡◌ {A = Action} (elim t [ true ↦ (key_of (schema_of b) k).on_update | false ↦ (key_of (schema_of b) k).on_delete ]) Restrict)
    by true = (window_actions b acc k h one).1
    by false = (window_actions b acc k h one).0

-- ---- child rows in turn

-- child row i is taken and does not map to the new row
abbrev refuses : ForeignKey → Row → Row → Tables → ℕ → Bool
refuses k old new tabs i = takes k old (row_at k.child i tabs) && not (serves k (image k.child i tabs) new)

module _ (change : Change) (s : Schema) (new : Row) (k : ForeignKey) (old : Row) where
  abbrev turn : ℕ → Work → Result
  turn = row_turn change s new k old

  -- NO ACTION leaves each as it is
  module _ (a : action_of new k ≡ NoAction) where
    turn_idle : (i : ℕ) (w : Work) → turn i w ≡ go w
    unfolding row_turn taken given
    turn_idle i w = rw a (by (takes k old (row_at k.child i w.tabs)))
      where
        by : (t : Bool) → given t go w ≡ go w
        by true = refl
        by false = refl

    rows_idle : (is : List ℕ) (w : Work) → children change s new k old is w ≡ go w
    unfolding children in_turn then
    rows_idle [] w = refl
    rows_idle (i ∷ is) w = ap (λ (x : Result). then x (in_turn turn is)) (turn_idle i w) ∙ rows_idle is w

  -- RESTRICT refuses at the first that is taken and does not map to the new row
  module _ (a : action_of new k ≡ Restrict) where
    turn_restricted : (i : ℕ) (w : Work) → turn i w ≡ result_of (restricted (refuses k old new w.tabs i)) w
    unfolding row_turn taken given restricted result_of
    turn_restricted i w = rw a (by (takes k old (row_at k.child i w.tabs)) (not (serves k (image k.child i w.tabs) new)))
      where
        by : (p q : Bool) → given p (given q (stop Restricted)) w ≡ result_of (restricted (p && q)) w
        by true true = refl
        by true false = refl
        by false q = refl

    rows_restricted : (is : List ℕ) (w : Work) → children change s new k old is w ≡ result_of (restricted (any (refuses k old new w.tabs) is)) w
    unfolding children in_turn then any restricted result_of
    rows_restricted [] w = refl
    rows_restricted (i ∷ is) w = ap (λ (x : Result). then x (in_turn turn is)) (turn_restricted i w) ∙ by (refuses k old new w.tabs i) (rows_restricted is w)
      where
        by : (t : Bool) → in_turn turn is w ≡ result_of (restricted (any (refuses k old new w.tabs) is)) w → then (result_of (restricted t) w) (in_turn turn is) ≡ result_of (restricted (elim t [ true ↦ true | false ↦ any (refuses k old new w.tabs) is ])) w
        by true e = refl
        by false e = e

-- ---- what RESTRICT says
pub restrict_fail : {t : Bool} → t ≡ true → Err Restricted ≡ restricted t
unfolding restricted
restrict_fail e = sym (ap restricted e)

pub restrict_pass : {t : Bool} → t ≡ false → Ok tt ≡ restricted t
unfolding restricted
restrict_pass e = sym (ap restricted e)

-- rows by their numbers
any_numbers : (p : Row → Bool) (rows : List Row) (i : ℕ) (q : ℕ → Bool) → ((j : ℕ) → q (i + j) ≡ p (get_or rows j [])) → any q (up_from i (length rows)) ≡ any p rows
unfolding any up_from
any_numbers p [] i q e = refl
any_numbers p (x ∷ rows) i q e =
    let first : q i ≡ p x = let n : i ≡ i + 0 = omega arith in ap q n ∙ e 0 in
    let rest = any_numbers p rows (suc i) q (λ j. let n : suc i + j ≡ i + suc j = omega arith in ap q n ∙ e (suc j)) in
    λ d. elim (first d) [ true ↦ true | false ↦ rest d ]

-- ---- whether the key fires
module _ (new : Row) (t : ℕ) (old : Row) (k : ForeignKey) where
  pub not_parent : (k.parent ≡ t → ⊥) → fires new t old k ≡ false
  unfolding fires
  not_parent h = rw (ne_eqb k.parent t h)

  pub old_full : fires new t old k ≡ true → full_key (parent_key k) old ≡ true
  unfolding fires
  old_full e = and_left (full_key (parent_key k) old) _ (and_right (not k.broken) _ (and_right (eqb k.parent t) _ e))

-- ---- the key's turn
module _ (b : List ℕ) (a : List ℤ) (r : Ready b a) (k : ForeignKey) (t : ℕ) (old new : Row) where
  abbrev S : Schema
  S = schema_of b

  abbrev W : Work
  W = work_of (schema_of b) a

  pub turn_off : fires new t old k ≡ false → WindowTurn S new t old k W (Ok tt)
  unfolding key_turn given result_of
  turn_off e = record { turn = λ change. rw e refl }

  module _ (on : fires new t old k ≡ true) where
    pub turn_none : action_of new k ≡ NoAction → WindowTurn S new t old k W (Ok tt)
    unfolding key_turn given result_of
    turn_none e = record { turn = λ change. rw on (rows_idle change S new k old e (up_from 0 (table_of S k.child).rows) W) }

    -- a child row that is left behind
    abbrev leaves : Row → Bool
    leaves c = takes k old c && not (serves k c new)

    row_same : (i : ℕ) → refuses k old new W.tabs i ≡ leaves (get_or (get_or W.tabs k.child []) i [])
    unfolding image row_at
    row_same i = let row = row_at k.child i W.tabs in ap (λ (t : Bool). takes k old row && not t) (serves_same _ row (get_padded 9 row) k new)

    rows_many : length (get_or W.tabs k.child []) ≡ (table_of S k.child).rows
    unfolding work_of
    rows_many = rows_length S W.tabs (formed_fit r.fit).shaped k.child

    pub turn_restrict : action_of new k ≡ Restrict → {o : Verdict} → o ≡ restricted (any leaves (get_or W.tabs k.child [])) → WindowTurn S new t old k W o
    unfolding key_turn given
    turn_restrict e q =
        let same : any (refuses k old new W.tabs) (up_from 0 (table_of S k.child).rows) ≡ any leaves (get_or W.tabs k.child []) = ap (λ (n : ℕ). any (refuses k old new W.tabs) (up_from 0 n)) (sym rows_many) ∙ any_numbers leaves (get_or W.tabs k.child []) 0 (refuses k old new W.tabs) (λ j. ap (refuses k old new W.tabs) (zero-add j) ∙ row_same j) in
        record { turn = λ change. rw on (rows_restricted change S new k old e (up_from 0 (table_of S k.child).rows) W ∙ ap (λ (v : Verdict). result_of v W) (ap restricted same ∙ sym q)) }
