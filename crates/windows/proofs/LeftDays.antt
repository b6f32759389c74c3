-- Child rows that a parent row leaves behind: those that map to it before, and whose day it does not keep.
-- Assumes nothing.
use mathlib.Core.Path.{◌≡◌, refl, sym, ap, ◌∙◌}
use mathlib.Core.Bool.{Bool, true, false, cond, not, ◌&&◌, false≢true, true≢false}
use mathlib.Core.List.{List}
use Prim.Native.Nat.{ℕ, suc}
use native.Mathlib.Omega.{arith}
use lib.IntN.{ℤ}
use lib.Signed.{lt_z, le_z}
use Rattle.schema.specs.Records.{Window, ForeignKey, parent_key, table_of, key_of}
use Rattle.schema.specs.Fields.{schema_of}
use Rattle.schema.proofs.RangeLaws.{and_left, and_right}
use Rattle.rules.specs.Lists.{any}
use Rattle.rules.specs.Rows.{Row, live, null_at, value_at}
use Rattle.rules.specs.Keys.{same_key, full_key, first_day, end_day, is_within, in_window, maps_to, serves, takes}
use Rattle.bridge.proofs.Tests.{and_both}
use Rattle.bridge.proofs.WindowLaws.{not_lt, not_le, lt_le, le_lt, le_trans, lt_trans_le, within, from_first, before_end, day_kept}
use Rattle.bridge.proofs.KeyLaws.{key_sym, key_trans}
use Rattle.bridge.proofs.MapLaws.{InWindow, in_window_lem, window_in}
use Rattle.rows.specs.declared.SoughtKey.{SoughtKey}
use Rattle.rows.specs.Sought.{has_sought, SoughtOf}
use Rattle.windows.specs.declared.WindowKey.{WindowKey}
use Rattle.windows.specs.Days.{day_within, meets, DaysIn, is_on}
use Rattle.windows.specs.WindowKey.{window_of, WindowColumns, child_days, pair_folds, child_pairs, parent_pairs, parent_all, serves_by, keeps_pairs, keeps_days, left_first, left_end, left_days}
use Rattle.windows.proofs.WindowLaws.{narrowed}
use Rattle.windows.proofs.KeyDays.{parent_all_lem, first_filled, end_filled, serves_by_lem, maps_parts, taken_on}

-- ---- days of a window that another one may not hold
module _ (first end first' end' day : ℤ) where
  abbrev from : ℤ
  from = left_first first first' end'

  abbrev until : ℤ
  until = left_end end first' end'

  -- they are days of the window
  left_first_lem : le_z from day ≡ true → le_z first day ≡ true
  unfolding left_first
  left_first_lem = by (is_within first' end' first) refl
    where
      by : (t : Bool) → is_within first' end' first ≡ t → le_z (cond t end' first) day ≡ true → le_z first day ≡ true
      by true e h = le_trans first end' day (lt_le first end' (before_end first' end' first e)) h
      by false e h = h

  left_end_lem : lt_z day until ≡ true → lt_z day end ≡ true
  unfolding left_end
  left_end_lem = by (lt_z first' end && le_z end end') refl
    where
      by : (t : Bool) → lt_z first' end && le_z end end' ≡ t → lt_z day (cond t first' end) ≡ true → lt_z day end ≡ true
      by true e h = le_lt day first' end (lt_le day first' h) (and_left (lt_z first' end) (le_z end end') e)
      by false e h = h

  pub left_inside : is_within from until day ≡ true → is_within first end day ≡ true
  left_inside h = within first end day (left_first_lem (from_first from until day h)) (left_end_lem (before_end from until day h))

  -- and the other one holds the rest
  module _ (h : is_within first end day ≡ true) where
    kept_start : le_z from day ≡ false → is_within first' end' day ≡ true
    unfolding left_first
    kept_start = by (is_within first' end' first) refl
      where
        by : (t : Bool) → is_within first' end' first ≡ t → le_z (cond t end' first) day ≡ false → is_within first' end' day ≡ true
        by true e l = within first' end' day (le_trans first' first day (from_first first' end' first e) (from_first first end day h)) (not_le end' day l)
        by false e l = absurd (false≢true (sym l ∙ from_first first end day h))

    kept_end : lt_z day until ≡ false → is_within first' end' day ≡ true
    unfolding left_end
    kept_end = by (lt_z first' end && le_z end end') refl
      where
        by : (t : Bool) → lt_z first' end && le_z end end' ≡ t → lt_z day (cond t first' end) ≡ false → is_within first' end' day ≡ true
        by true e l = within first' end' day (not_lt day first' l) (lt_trans_le day end end' (before_end first end day h) (and_right (lt_z first' end) (le_z end end') e))
        by false e l = absurd (false≢true (sym l ∙ before_end first end day h))

    pub left_outside : is_within from until day ≡ false → is_within first' end' day ≡ true
    unfolding is_within
    left_outside = by (le_z from day) refl
      where
        by : (t : Bool) → le_z from day ≡ t → t && lt_z day until ≡ false → is_within first' end' day ≡ true
        by true e l = kept_end l
        by false e l = kept_start e

-- ---- by the columns of a foreign key with a window
module _ (b : List ℕ) (k : ℕ) (x : WindowKey) (h : WindowColumns b k x) (old new : Row) where
  abbrev K : ForeignKey
  K = key_of (schema_of b) k

  abbrev w : Window
  w = window_of x

  pub left_days_in : DaysIn (suc (table_of (schema_of b) K.child).columns) (left_days old new x)
  unfolding left_days child_days DaysIn
  left_days_in = by (keeps_pairs x old new)
    where
      by : (t : Bool) → DaysIn (suc (table_of (schema_of b) K.child).columns) (cond t (narrowed x old new) (child_days old x))
      by true = omega (arith, h.day_column_within)
      by false = omega (arith, h.day_column_within)

  -- a child row that maps to the old image: its pairs are equal, and its day is in the window
  module _ (row : Row) (taken : takes K old row ≡ true) where
    abbrev day : ℤ
    day = value_at row x.day

    parts : (same_key (pair_folds x) (child_pairs x) (parent_pairs x) row old ≡ true) × (in_window row old w ≡ true)
    unfolding takes
    parts = maps_parts b k x h row old (and_right (live row) (maps_to K row old) taken)

    inside : InWindow row old w
    inside = in_window_lem row old w parts.1

    -- it maps to the new one, where that keeps the pairs and its day
    stays_served : keeps_pairs x old new ≡ true → is_within (first_day w new) (end_day w new) day ≡ true → serves K row new ≡ true
    unfolding keeps_pairs serves_by full_key
    stays_served kept within =
        let same = same_key (pair_folds x) (parent_pairs x) (parent_pairs x) new old in
        let full : full_key (parent_all x) new ≡ true = and_left (full_key (parent_all x) new) same kept in
        let whole : full_key (parent_key K) new ≡ true = ap (λ (cs : List ℕ). full_key cs new) (sym (parent_all_lem b k x h)) ∙ full in
        let turned = key_sym old new (pair_folds x) (parent_pairs x) (parent_pairs x) ∙ and_right (full_key (parent_all x) new) same kept in
        let pairs = sym (key_trans old new row (pair_folds x) (child_pairs x) (parent_pairs x) (parent_pairs x) refl turned) ∙ parts.0 in
        let window = window_in row new w (record { day = inside.day; first = first_filled b k x h new whole; end = end_filled b k x h new whole; within = within }) in
        sym (serves_by_lem b k x h row new) ∙ and_both (and_left (live new) (not (any (null_at new) (parent_all x))) full) (and_both pairs window)

    -- so it does where that keeps all days
    pub kept_served : keeps_days x old new ≡ true → serves K row new ≡ true
    unfolding keeps_days
    kept_served e =
        let low = le_z (first_day w new) (first_day w old) in
        let high = le_z (end_day w old) (end_day w new) in
        let days = and_right (keeps_pairs x old new) (low && high) e in
        stays_served (and_left (keeps_pairs x old new) (low && high) e)
        (day_kept (first_day w old) (end_day w old) (first_day w new) (end_day w new) day (and_left low high days) (and_right low high days) inside.within)

    -- and where its day is not sought
    passed_served : meets (left_days old new x) row ≡ false → serves K row new ≡ true
    unfolding left_days child_days meets day_within
    passed_served = by (keeps_pairs x old new) refl
      where
        by : (t : Bool) → keeps_pairs x old new ≡ t → meets (cond t (narrowed x old new) (child_days old x)) row ≡ false → serves K row new ≡ true
        by true kept m =
            stays_served kept
            (left_outside (first_day w old) (end_day w old) (first_day w new) (end_day w new) day inside.within (rw inside.day at m))
        by false kept m = absurd (true≢false (sym (rw (inside.day, inside.within) refl) ∙ m))

  -- the days that are sought are days of the old window
  left_meets : (row : Row) → meets (left_days old new x) row ≡ true → meets (child_days old x) row ≡ true
  unfolding left_days child_days meets day_within
  left_meets row = by (keeps_pairs x old new)
    where
      by : (t : Bool) → meets (cond t (narrowed x old new) (child_days old x)) row ≡ true → meets (child_days old x) row ≡ true
      by true m =
          let filled = not (null_at row x.day) in
          let sought = is_within (left_first (first_day w old) (first_day w new) (end_day w new)) (left_end (end_day w old) (first_day w new) (end_day w new)) (value_at row x.day) in
          and_both (and_left filled sought m) (left_inside (first_day w old) (end_day w old) (first_day w new) (end_day w new) (value_at row x.day) (and_right filled sought m))
      by false m = m

  -- ---- the rows that are searched by the old pairs and these days
  module _ (full : full_key (parent_key K) old ≡ true) {key : SoughtKey} (s : SoughtOf x.pairs.folded x.pairs.n x.pairs.cs x.pairs.ps old key) (row : Row) where
    -- those that are found map to the old image
    pub left_found : is_on key (left_days old new x) row ≡ true → takes K old row ≡ true
    unfolding is_on
    left_found e =
        let sought = has_sought key row in
        let days = meets (left_days old new x) row in
        sym (taken_on b k x h old full s row) ∙ and_both (and_left sought days e) (left_meets row (and_right sought days e))

    -- others that map to it map to the new one
    pub left_over : takes K old row ≡ true → is_on key (left_days old new x) row ≡ false → serves K row new ≡ true
    unfolding is_on
    left_over t e =
        let sought = and_left (has_sought key row) (meets (child_days old x) row) (taken_on b k x h old full s row ∙ t) in
        passed_served row t (sym (ap (λ (b : Bool). b && meets (left_days old new x) row) sought) ∙ e)
