-- A row change that 24 lets pass keeps the windows of parent rows apart.
-- Assumes nothing.
use mathlib.Core.Path.{◌≡◌, refl, sym, ◌∙◌, ap, ap₂, subst}
use mathlib.Core.Bool.{Bool, true, false, ◌&&◌, ◌||◌, true≢false, and-false}
use mathlib.Core.List.{List, []}
use mathlib.Core.Logic.{◌≢◌}
use Prim.Native.Nat.{ℕ, suc, ◌≤◌}
use borrow.Author.Tests.{eq-eqb}
use lib.Dec.{eqb}
use lib.ListN.{get_or}
use lib.Signed.{le_z}
use Rattle.schema.specs.Check.{Accepted, check_schema}
use Rattle.schema.specs.Records.{Window, ForeignKey, Schema, no_key, table_of, key_of, parent_key}
use Rattle.schema.specs.Fields.{schema_of}
use Rattle.rules.specs.Lists.{𝟘, any, except}
use Rattle.rules.specs.Values.{nat_of}
use Rattle.rules.specs.Rows.{Row, Tables, row_at, put_row, overwrite, live, live_state}
use Rattle.rules.specs.Keys.{full_key, first_day, end_day, shares_day, same_parent}
use Rattle.rules.specs.Change.{clashes, window_broken, bad_window}
use Rattle.bridge.proofs.CountLaws.{any_neither}
use Rattle.bridge.proofs.Shapes.{Shaped}
use Rattle.laws.specs.Windows.{Windowed, parent_row, WindowsApart}
use Rattle.laws.proofs.WrittenRows.{Stands, written, stays, stands, written_words, same_live, same_full, same_value_lem, same_key_lem}
use Rattle.laws.proofs.Clashes.{none_at, none_but, pairs_in, first_in, end_in, full_live, clash_sym}

-- no row that is vacant or has NULL in its key clashes with another
no_row : (k : ForeignKey) (x : Row) (w : Window) → clashes k x w [] ≡ false
unfolding clashes full_key live live_state nat_of
no_row k x w = refl

not_full : (k : ForeignKey) (x : Row) (w : Window) (y : Row) → full_key (parent_key k) y ≡ false → clashes k x w y ≡ false
unfolding clashes
not_full k x w y h = rw h refl

-- a key that is not there has no window
no_key_lem : (t r : ℕ) (new : Row) (rows : List Row) → bad_window t r new rows no_key ≡ false
unfolding bad_window any
no_key_lem t r new rows = ap (λ b. (eqb 0 t && true) && b) (and-false (full_key (parent_key no_key) new)) ∙ and-false (eqb 0 t && true)

or_neither : (a b : Bool) → a || b ≡ false → (a ≡ false) × (b ≡ false)
or_neither true b h = absurd (true≢false h)
or_neither false b h = (refl, h)

module _ (bs : List ℕ) (acc : check_schema bs ≡ Accepted) where
  abbrev s : Schema
  s = schema_of bs

  -- ---- row r of table t is given the image new, which is let pass by 24
  module _ (tabs : Tables) (shaped : Shaped (schema_of bs) tabs) (t r : ℕ) (new : Row) (let_pass : live new && any (bad_window t r new (get_or tabs t [])) (schema_of bs).keys ≡ false) where
    abbrev row : Row
    row = overwrite (row_at t r tabs) new

    abbrev rows : List Row
    rows = get_or tabs t []

    module _ {k : ℕ} {w : Window} (q : Windowed (schema_of bs) k w) (here : (key_of (schema_of bs) k).parent ≡ t) (full : full_key (parent_key (key_of (schema_of bs) k)) (overwrite (row_at t r tabs) new) ≡ true) where
      abbrev key : ForeignKey
      key = key_of s k

      abbrev columns : ℕ
      columns = (table_of s key.parent).columns

      -- where the key looks, the written row's words are the image's
      words : (i : ℕ) → i ≤ columns → get_or row i 𝟘 ≡ get_or new i 𝟘
      words i l = written_words s tabs shaped t r new (full_live (parent_key key) row full) i (subst (λ u. i ≤ (table_of s u).columns) here l)

      first_same : first_day w row ≡ first_day w new
      unfolding first_day
      first_same = same_value_lem columns row new words w.first (first_in bs acc q)

      end_same : end_day w row ≡ end_day w new
      unfolding end_day
      end_same = same_value_lem columns row new words (suc w.first) (end_in bs acc q)

      clash_same : (y : Row) → clashes key row w y ≡ clashes key new w y
      unfolding clashes same_parent
      clash_same y =
          λ i. full_key (parent_key key) y
          && ((live y && same_key_lem columns row new words y key.folds key.parent_columns key.parent_columns (pairs_in bs acc q) i)
          && shares_day (first_day w y) (end_day w y) (first_same i) (end_same i))

      -- the rule, for this key and its window
      none_broken : window_broken key r new rows w ≡ false
      unfolding bad_window any
      none_broken =
          let lives = sym (same_live columns row new words) ∙ full_live (parent_key key) row full in
          let filled = sym (same_full columns row new words (parent_key key)) ∙ full in
          let none = none_at (bad_window t r new rows) no_key (no_key_lem t r new rows) s.keys (rw lives at let_pass) k in
          (any_neither (window_broken key r new rows) w [] (rw (eq-eqb key.parent t here, q.unbroken, filled, q.window) at none)).0

      parts : (le_z (end_day w new) (first_day w new) ≡ false) × (any (clashes key new w) (except r rows) ≡ false)
      unfolding window_broken
      parts = or_neither (le_z (end_day w new) (first_day w new)) (any (clashes key new w) (except r rows)) none_broken

      -- the written row's window is not empty, and no other row's shares a day with it
      written_lasts : le_z (end_day w row) (first_day w row) ≡ false
      written_lasts = ap₂ le_z end_same first_same ∙ parts.0

      written_apart : (j : ℕ) → j ≢ r → clashes key row w (row_at key.parent j tabs) ≡ false
      unfolding row_at
      written_apart j n = clash_same (row_at key.parent j tabs) ∙ rw here (none_but (clashes key new w) [] (no_row key new w) rows r parts.1 j n)

    module _ (before : WindowsApart s tabs) where
      abbrev after : Tables
      after = put_row t r row tabs

      put_lasting : {k : ℕ} {w : Window} → Windowed s k w → (i : ℕ) → full_key (parent_key (key_of s k)) (parent_row s after k i) ≡ true
          → le_z (end_day w (parent_row s after k i)) (first_day w (parent_row s after k i)) ≡ false
      put_lasting {k} {w} q i = by (stands tabs t r new (key_of s k).parent i)
        where
          by : Stands tabs t r new (key_of s k).parent i → full_key (parent_key (key_of s k)) (parent_row s after k i) ≡ true → le_z (end_day w (parent_row s after k i)) (first_day w (parent_row s after k i)) ≡ false
          by (written here at e) = rw e (written_lasts q here)
          by (stays e) = rw e (before.lasting q i)

      put_apart : {k : ℕ} {w : Window} → Windowed s k w → (i j : ℕ) → i ≢ j → full_key (parent_key (key_of s k)) (parent_row s after k i) ≡ true
          → clashes (key_of s k) (parent_row s after k i) w (parent_row s after k j) ≡ false
      put_apart {k} {w} q i j n = by (stands tabs t r new (key_of s k).parent i) (stands tabs t r new (key_of s k).parent j)
        where
          -- a row that stays, beside the written one
          across : (y : Row) → full_key (parent_key (key_of s k)) y ≡ true → (b : Bool) → full_key (parent_key (key_of s k)) row ≡ b → (b ≡ true → clashes (key_of s k) row w y ≡ false) → clashes (key_of s k) y w row ≡ false
          across y full true f h = clash_sym (key_of s k) w y row full f ∙ h refl
          across y full false f h = not_full (key_of s k) y w row f

          by : Stands tabs t r new (key_of s k).parent i → Stands tabs t r new (key_of s k).parent j → full_key (parent_key (key_of s k)) (parent_row s after k i) ≡ true → clashes (key_of s k) (parent_row s after k i) w (parent_row s after k j) ≡ false
          by (written here at e) (written here' at' e') = absurd (n (at ∙ sym at'))
          by (written here at e) (stays e') = rw (e, e') (λ full. written_apart q here full j (λ p. n (at ∙ sym p)))
          by (stays e) (written here at e') = rw (e, e') (λ full. across (parent_row s tabs k i) full (full_key (parent_key (key_of s k)) row) refl (λ f. written_apart q here f i (λ p. n (p ∙ sym at))))
          by (stays e) (stays e') = rw (e, e') (before.apart q i j n)

      pub put_windows : WindowsApart (schema_of bs) (put_row t r (overwrite (row_at t r tabs) new) tabs)
      put_windows = record { lasting = put_lasting; apart = put_apart }
