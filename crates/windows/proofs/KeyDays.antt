-- A foreign key with a window by its columns: its keys, whether actions follow, the rows that are searched by its pairs and days.
-- Assumes nothing.
use mathlib.Core.Path.{◌≡◌, refl, sym, ap, ◌∙◌}
use mathlib.Core.Bool.{Bool, true, false, not, ◌&&◌, false≢true, and-false, and-true}
use mathlib.Core.List.{List, [], ◌∷◌, ◌++◌, map}
use Prim.Native.Nat.{ℕ, suc, ◌-◌, ◌≤◌, ◌<◌}
use native.Mathlib.Omega.{arith}
use borrow.Author.Tests.{eq-eqb}
use lib.ListN.{length, get_or, take, length-append}
use lib.Seq.{get_or-take, length-take-le}
use Rattle.schema.specs.Ranges.{all}
use Rattle.schema.specs.Records.{Window, ForeignKey, child_key, unique_columns, parent_key, table_of, key_of}
use Rattle.schema.specs.Fields.{schema_of}
use Rattle.schema.proofs.RangeLaws.{and_left, and_right}
use Rattle.schema.proofs.FieldLaws.{same_width, pairs_some, read_width, window_below}
use Rattle.rules.specs.Lists.{any}
use Rattle.rules.specs.Rows.{Row, live, null_at, value_at}
use Rattle.rules.specs.Keys.{same_key, full_key, first_day, end_day, is_within, shares_day, in_window, same_window, maps_to, serves, takes, same_parent, same_parent_key, fires}
use Rattle.rules.specs.Change.{clashes}
use Rattle.bridge.proofs.Tests.{and_assoc, and_same, and_both, fails}
use Rattle.bridge.proofs.KeyLaws.{key_sym, full_left}
use Rattle.rows.specs.declared.KeyPairs.{KeyPairs}
use Rattle.rows.specs.declared.SoughtKey.{SoughtKey}
use Rattle.rows.specs.KeyColumns.{WholeKey, KeyColumns}
use Rattle.rows.specs.Sought.{with_key, SoughtOf}
use Rattle.rows.proofs.ColumnLaws.{child_length}
use Rattle.rows.proofs.TableLaws.{columns_few, child_table_lem, parent_table, child_wide, parent_wide}
use Rattle.windows.specs.declared.WindowKey.{WindowKey}
use Rattle.windows.specs.Days.{day_within, window_holds, window_shares, meets, DaysIn, is_on}
use Rattle.windows.specs.WindowKey.{WindowedKey, window_of, WindowColumns, WindowIn, child_days, parent_days, clash_days, pair_folds, child_pairs, parent_pairs, child_all, parent_all, key_changes, serves_by}
use Rattle.windows.proofs.WindowLaws.{child_full, parent_full}

-- a test of one window
all_one : (p : Window → Bool) (w : Window) → all p (w ∷ []) ≡ p w
unfolding all
all_one p w = by (p w)
  where
    by : (b : Bool) → elim b [ true ↦ true | false ↦ false ] ≡ b
    by true = refl
    by false = refl

-- ---- the columns as they are read

-- the last column, behind those of the pairs
behind : (xs ys : List ℕ) (a n : ℕ) → length ys ≡ n → take (length (ys ++ (a ∷ []))) xs ≡ ys ++ (a ∷ []) → get_or xs n 0 ≡ a
behind xs ys a n l e =
    let h : n < length (ys ++ (a ∷ [])) = omega (arith, l, length-append ys (a ∷ [])) in
    sym (get_or-take (length (ys ++ (a ∷ []))) xs n 0 h)
    ∙ ap (λ (zs : List ℕ). get_or zs n 0) e
    ∙ ap (λ (i : ℕ). get_or (ys ++ (a ∷ [])) i 0) (sym l)
    ∙ here ys
  where
    here : (ys : List ℕ) → get_or (ys ++ (a ∷ [])) (length ys) 0 ≡ a
    here [] = refl
    here (y ∷ ys) = here ys

-- the window, by the last columns
window_read : (cc pc cs ps : List ℕ) (n : ℕ) → length cc ≡ n → length pc ≡ n → (ws : List Window) → length ws ≡ 1 → take (length (cc ++ map (λ w. w.day) ws)) cs ≡ cc ++ map (λ w. w.day) ws → take (length (pc ++ map (λ w. w.first) ws)) ps ≡ pc ++ map (λ w. w.first) ws → ws ≡ record { day = get_or cs n 0; first = get_or ps n 0 } ∷ []
window_read cc pc cs ps n e f [] one c p = absurd (omega (arith, one))
window_read cc pc cs ps n e f (w ∷ []) one c p = rw (behind cs cc w.day n e c, behind ps pc w.first n f p) refl
window_read cc pc cs ps n e f (w ∷ v ∷ ws) one c p = absurd (omega (arith, one))

module _ (b : List ℕ) (k : ℕ) where
  abbrev K : ForeignKey
  K = key_of (schema_of b) k

  module _ (h : WindowedKey b k) where
    -- the pairs are all columns but the last
    pub pairs_number : {m : ℕ} → m ≡ length (child_key K) → m - 1 ≡ length K.child_columns
    pairs_number e = omega (arith, e, child_length K, h.windowed)

    pub window_columns : {n : ℕ} → n ≡ length K.child_columns → (cs ps : List ℕ) → take (length (child_key K)) cs ≡ child_key K → take (length (unique_columns K)) ps ≡ unique_columns K → {x : KeyPairs} → KeyColumns b k x → WindowColumns b k (record { pairs = x; day = get_or cs n 0; first = get_or ps n 0 })
    unfolding child_key unique_columns
    window_columns {n = n} e cs ps c p columns =
        let w = h.whole_key in
        let wide : length K.parent_columns ≡ n = same_width b w.accepted k w.key ∙ sym e in
        let is = window_read K.child_columns K.parent_columns cs ps n (sym e) wide K.windows h.windowed c p in
        let below = window_below b w.accepted k w.key w.whole _ is in
        record { columns = columns; window_is = is; day_column_within = below.0; end_within = below.1 }

  -- ---- a key by its columns

  module _ (x : WindowKey) (h : WindowColumns b k x) where
    whole : WholeKey b k
    whole = h.columns.columns.parents.whole_key

    -- how many pairs there are
    pairs_count : x.pairs.n ≡ length K.child_columns
    pairs_count =
        let c = h.columns.columns.child_within in
        sym (length-take-le x.pairs.n x.pairs.cs (omega (arith, c.size, c.few))) ∙ ap length h.columns.columns.child_is

    pub some_pairs : 1 ≤ x.pairs.n
    some_pairs = omega (arith, pairs_count, pairs_some b whole.accepted k whole.key)

    few_pairs : x.pairs.n < 8
    few_pairs =
        let width = read_width b whole.accepted k whole.key refl in
        omega (arith, pairs_count, child_length K, width.0, width.1.high)

    pub window_in : WindowIn x
    window_in =
        record {
          child = child_wide b k x.pairs.n x.pairs.cs x.pairs.ps h.columns.columns;
          parent = parent_wide b k x.pairs.n x.pairs.ps h.columns.columns.parents;
          some = few_pairs;
          day = omega (arith, h.day_column_within, columns_few b whole.accepted K.child (child_table_lem b whole.accepted k whole.key));
          end = omega (arith, h.end_within, columns_few b whole.accepted K.parent (parent_table b k whole));
        }

    -- the days' columns in rows of the two tables
    pub parent_days_in : (child : Row) → DaysIn (suc (table_of (schema_of b) K.parent).columns) (parent_days child x)
    unfolding parent_days DaysIn
    parent_days_in child = omega (arith, h.end_within)

    pub clash_days_in : (parent : Row) → DaysIn (suc (table_of (schema_of b) K.parent).columns) (clash_days parent x)
    unfolding clash_days DaysIn
    clash_days_in parent = omega (arith, h.end_within)

    -- ---- the whole keys

    pub child_all_lem : child_all x ≡ child_key K
    unfolding child_all child_pairs child_key
    child_all_lem = λ i. h.columns.columns.child_is i ++ map (λ w. w.day) (sym h.window_is i)

    pub parent_all_lem : parent_all x ≡ parent_key K
    unfolding parent_all parent_pairs parent_key unique_columns
    parent_all_lem = λ i. (h.columns.columns.parents.parent_is i ++ map (λ w. w.first) (sym h.window_is i)) ++ map (λ w. suc w.first) (sym h.window_is i)

    -- where they have no NULL, the pairs have none, nor has the window
    module _ (row : Row) where
      child_parts : full_key (child_key K) row ≡ true → full_key (child_pairs x) row && not (null_at row x.day) ≡ true
      child_parts full = sym (child_full x row) ∙ ap (λ (cs : List ℕ). full_key cs row) child_all_lem ∙ full

      pub child_pairs_full : full_key (child_key K) row ≡ true → full_key (child_pairs x) row ≡ true
      child_pairs_full full = and_left (full_key (child_pairs x) row) (not (null_at row x.day)) (child_parts full)

      day_filled : full_key (child_key K) row ≡ true → null_at row x.day ≡ false
      day_filled full = fails (null_at row x.day) (and_right (full_key (child_pairs x) row) (not (null_at row x.day)) (child_parts full))

      abbrev before_end : Bool
      before_end = full_key (parent_pairs x) row && not (null_at row x.first)

      parent_parts : full_key (parent_key K) row ≡ true → before_end && not (null_at row (suc x.first)) ≡ true
      parent_parts full = sym (parent_full x row) ∙ ap (λ (cs : List ℕ). full_key cs row) parent_all_lem ∙ full

      first_parts : full_key (parent_key K) row ≡ true → before_end ≡ true
      first_parts full = and_left before_end (not (null_at row (suc x.first))) (parent_parts full)

      pub parent_pairs_full : full_key (parent_key K) row ≡ true → full_key (parent_pairs x) row ≡ true
      parent_pairs_full full = and_left (full_key (parent_pairs x) row) (not (null_at row x.first)) (first_parts full)

      pub first_filled : full_key (parent_key K) row ≡ true → null_at row x.first ≡ false
      first_filled full = fails (null_at row x.first) (and_right (full_key (parent_pairs x) row) (not (null_at row x.first)) (first_parts full))

      pub end_filled : full_key (parent_key K) row ≡ true → null_at row (suc x.first) ≡ false
      end_filled full = fails (null_at row (suc x.first)) (and_right before_end (not (null_at row (suc x.first))) (parent_parts full))

    -- a test of the key's window
    window_test : (p : Window → Bool) → p (window_of x) ≡ all p K.windows
    window_test p = sym (ap (all p) h.window_is ∙ all_one p (window_of x))

    -- ---- actions

    pub changes_fires : {t : ℕ} → K.parent ≡ t → (old new : Row) → key_changes x old new ≡ fires new t old K
    unfolding key_changes pair_folds parent_pairs fires same_parent_key same_parent
    changes_fires {t = t} e old new =
        let same = window_test (same_window new old) in
        (λ i. full_key (parent_all_lem i) old && not ((live new && same_key (h.columns.folds_are i) (h.columns.columns.parents.parent_is i) (h.columns.columns.parents.parent_is i) new old) && same i))
        ∙ sym (rw (eq-eqb K.parent t e, whole.whole) refl)

    -- ---- a child row and a parent row

    module _ (child parent : Row) where
      maps_by : same_key (pair_folds x) (child_pairs x) (parent_pairs x) child parent && in_window child parent (window_of x) ≡ maps_to K child parent
      unfolding pair_folds child_pairs parent_pairs maps_to
      maps_by =
          let within = window_test (in_window child parent) in
          λ i. same_key (h.columns.folds_are i) (h.columns.columns.child_is i) (h.columns.columns.parents.parent_is i) child parent && within i

      pub maps_parts : maps_to K child parent ≡ true → (same_key (pair_folds x) (child_pairs x) (parent_pairs x) child parent ≡ true) × (in_window child parent (window_of x) ≡ true)
      maps_parts e =
          let same = same_key (pair_folds x) (child_pairs x) (parent_pairs x) child parent in
          (and_left same (in_window child parent (window_of x)) (maps_by ∙ e), and_right same (in_window child parent (window_of x)) (maps_by ∙ e))

      pub serves_by_lem : serves_by x child parent ≡ serves K child parent
      unfolding serves_by serves
      serves_by_lem = ap (λ (b : Bool). live parent && b) maps_by

    -- ---- rows that are searched

    -- child rows that map to a parent row
    taken_days : (parent : Row) → full_key (parent_key K) parent ≡ true → (row : Row) → meets (child_days parent x) row ≡ in_window row parent (window_of x)
    unfolding child_days meets day_within in_window
    taken_days parent full row =
        sym (rw (first_filled parent full, end_filled parent full) (ap (λ (b : Bool). b && is_within (first_day (window_of x) parent) (end_day (window_of x) parent) (value_at row x.day)) (and-true (not (null_at row x.day)))))

    pub taken_on : (parent : Row) → full_key (parent_key K) parent ≡ true → {key : SoughtKey} → SoughtOf x.pairs.folded x.pairs.n x.pairs.cs x.pairs.ps parent key → (row : Row) → is_on key (child_days parent x) row ≡ takes K parent row
    unfolding is_on with_key takes pair_folds child_pairs parent_pairs
    taken_on parent full s row =
        let same = same_key (pair_folds x) (child_pairs x) (parent_pairs x) row parent in
        and_same (s.same row) (taken_days parent full row)
        ∙ sym (and_assoc (live row) same (in_window row parent (window_of x)))
        ∙ ap (λ (b : Bool). live row && b) (maps_by row parent)

    -- parent rows that a child row maps to
    serving_days : (child : Row) → full_key (child_key K) child ≡ true → (row : Row) → meets (parent_days child x) row ≡ in_window child row (window_of x)
    unfolding parent_days meets window_holds in_window first_day end_day
    serving_days child full row = sym (rw (day_filled child full) refl)

    pub serving_on : (child : Row) → full_key (child_key K) child ≡ true → {key : SoughtKey} → SoughtOf x.pairs.folded x.pairs.n x.pairs.ps x.pairs.cs child key → (row : Row) → is_on key (parent_days child x) row ≡ serves K child row
    unfolding is_on with_key serves pair_folds child_pairs parent_pairs
    serving_on child full s row =
        let same = same_key (pair_folds x) (child_pairs x) (parent_pairs x) child row in
        let turned = ap (λ (b : Bool). live row && b) (key_sym row child (pair_folds x) (parent_pairs x) (child_pairs x)) in
        and_same (s.same row ∙ turned) (serving_days child full row)
        ∙ sym (and_assoc (live row) same (in_window child row (window_of x)))
        ∙ ap (λ (b : Bool). live row && b) (maps_by child row)

    -- parent rows whose window clashes with that of a parent row
    pub clashing_on : (parent : Row) {key : SoughtKey} → SoughtOf x.pairs.folded x.pairs.n x.pairs.ps x.pairs.ps parent key → (row : Row) → is_on key (clash_days parent x) row ≡ clashes K parent (window_of x) row
    unfolding is_on with_key clash_days meets window_shares clashes full_key same_parent first_day end_day pair_folds parent_pairs
    clashing_on parent s row =
        let w = window_of x in
        let same = same_key (pair_folds x) (parent_pairs x) (parent_pairs x) row parent in
        let shares = shares_day (first_day w row) (end_day w row) (first_day w parent) (end_day w parent) in
        and_same (s.same row) refl
        ∙ full_too (live row && same) (full_key (parent_pairs x) row) (not (null_at row w.first)) (not (null_at row (suc w.first))) shares full
        ∙ ap (λ (b : Bool). b && ((live row && same) && shares)) (sym (parent_full x row))
        ∙ (λ i. full_key (parent_all_lem i) row && ((live row && same_key (h.columns.folds_are i) (h.columns.columns.parents.parent_is i) (h.columns.columns.parents.parent_is i) row parent) && shares))
      where
        -- equal pairs have no NULL
        full : live row && same_key (pair_folds x) (parent_pairs x) (parent_pairs x) row parent ≡ true → full_key (parent_pairs x) row ≡ true
        full e =
            let same = same_key (pair_folds x) (parent_pairs x) (parent_pairs x) row parent in
            let filled : any (null_at row) (parent_pairs x) ≡ false = full_left row parent (pair_folds x) (parent_pairs x) (parent_pairs x) refl (and_right (live row) same e) in
            and_both (and_left (live row) same e) (ap not filled)

        full_too : (p f first end shares : Bool) → (p ≡ true → f ≡ true) → p && ((first && end) && shares) ≡ ((f && first) && end) && (p && shares)
        full_too false f first end shares h = sym (and-false ((f && first) && end))
        full_too true false first end shares h = absurd (false≢true (h refl))
        full_too true true first end shares h = refl
