-- Child rows that map to a parent row and that it leaves behind, as a search finds them.
-- Assumes nothing.
use mathlib.Core.Path.{◌≡◌, refl, sym, ap, ◌∙◌}
use mathlib.Core.Bool.{Bool, true, false, not, ◌&&◌, ◌||◌, true≢false, and-true}
use mathlib.Core.List.{List, []}
use Prim.Native.Nat.{ℕ, zero, suc, ◌+◌, ◌*◌, ◌≤◌, ◌<◌}
use native.Mathlib.Omega.{arith}
use borrow.Author.Tests.{eq-eqb, ne_eqb, lt-ltb}
use lib.Dec.{eqb, ltb}
use lib.IntN.{ℤ}
use lib.ListN.{length, get_or, take, drop}
use Rattle.schema.specs.Records.{ForeignKey, child_key, parent_key, table_of, key_of}
use Rattle.schema.specs.Fields.{schema_of}
use Rattle.schema.proofs.FieldLaws.{read_rows}
use Rattle.schema.proofs.RangeLaws.{and_left, and_right}
use Rattle.rules.specs.Lists.{𝟘, padded, any, count, except}
use Rattle.rules.specs.Rows.{Row, Tables, live}
use Rattle.rules.specs.Keys.{full_key, maps_to, serves, takes, same_parent_key, fires}
use Rattle.rules.specs.Change.{clashes}
use Rattle.bridge.specs.Fit.{work_of}
use Rattle.bridge.specs.Ready.{Ready, row_in}
use Rattle.bridge.proofs.CountLaws.{any_never, count_none, count_some}
use Rattle.bridge.proofs.Tests.{and_both}
use Rattle.bridge.proofs.KeyLaws.{full_same, serves_same, get_padded}
use Rattle.bridge.proofs.MapLaws.{child_full}
use Rattle.moves.specs.Movement.{pick, except_if, unserved, stranded_rows}
use Rattle.moves.proofs.Taken.{stranded_scan, stranded_clear}
use Rattle.rows.specs.declared.SoughtKey.{SoughtKey}
use Rattle.rows.specs.declared.TableRows.{TableRows}
use Rattle.rows.specs.Sought.{SoughtIn, SoughtOf}
use Rattle.rows.specs.Standing.{Standing, RowsOf, rows_in}
use Rattle.rows.proofs.SoughtLaws.{sought_ready}
use Rattle.rows.proofs.TableLaws.{row_get, rows_are, standing, child_table_lem, parent_table}
use Rattle.scans.specs.Parts.{rows_before, rows_after}
use Rattle.scans.proofs.ScanLaws.{before_stands, after_stands}
use Rattle.windows.specs.declared.Days.{Days}
use Rattle.windows.specs.declared.WindowKey.{WindowKey}
use Rattle.windows.specs.Days.{DaysIn, is_on}
use Rattle.windows.specs.WindowKey.{window_of, WindowColumns, left_days}
use Rattle.windows.proofs.KeyDays.{some_pairs}
use Rattle.windows.proofs.LeftDays.{left_days_in, left_found, left_over}
use Rattle.window_keys.specs.Left.{left_by}
use Rattle.window_keys.proofs.OrphanLaws.{whole, same_count}

-- a row that a search finds and that is left
abbrev pub left_row : (Row → Bool) → Bool → ForeignKey → Row → List Row → Row → Bool
left_row found clear k y others c = found c && left_by clear k y others c

not_none : (n : ℕ) → not (eqb n 0) ≡ ltb 0 n
not_none zero = refl
not_none (suc n) = ap not (ne_eqb (suc n) 0 (λ e. absurd (omega (arith, e)))) ∙ sym (lt-ltb 0 (suc n) (omega arith))

-- ---- one child row

module _ (k : ForeignKey) (y : Row) (others : List Row) (c : Row) where
  pub left_served : (clear : Bool) → serves k c y ≡ true → false ≡ left_by clear k y others c
  unfolding left_by
  left_served clear h = sym (rw h refl)

  module _ (h : serves k c y ≡ false) where
    pub left_alone : {clear : Bool} → clear ≡ true → true ≡ left_by clear k y others c
    unfolding left_by
    left_alone t = sym (rw (t, h) refl)

    pub left_others : {clear : Bool} → clear ≡ false → {served : Bool} → served ≡ any (serves k c) others → not served ≡ left_by clear k y others c
    unfolding left_by
    left_others t e = sym (rw (t, h, ← e) refl)

  -- where the others are asked, and where they are not
  pub left_asked : left_by false k y others c ≡ unserved k y others c
  unfolding left_by unserved
  left_asked = refl

  pub left_clear : left_by true k y others c ≡ not (serves k c y)
  unfolding left_by
  left_clear = and-true (not (serves k c y))

-- rows of the same words, but for zeros at the end
left_same : (clear : Bool) (k : ForeignKey) (y : Row) (others : List Row) (c c' : Row) → ((i : ℕ) → get_or c i 𝟘 ≡ get_or c' i 𝟘) → left_by clear k y others c ≡ left_by clear k y others c'
unfolding left_by
left_same clear k y others c c' same =
    λ i. not (serves_same c c' same k y i) && (clear || not (any (λ p. serves_same c c' same k p i) others))

-- a child row that maps to x has no NULL in its key
taken_full : (k : ForeignKey) → length k.child_columns ≡ length k.parent_columns → (x c : Row) → takes k x c ≡ true → full_key (child_key k) c ≡ true
unfolding takes full_key
taken_full k e x c h =
    and_both (and_left (live c) (maps_to k c x) h) (ap not (child_full k e x c (and_right (live c) (maps_to k c x) h)))

-- ---- row j of some rows, and its image
module _ (a : List ℤ) (t : TableRows) (j : ℕ) (l : j < t.count) {child : Row} (i : child ≡ padded 9 (take t.width (drop (t.start + j * t.width) a))) where
  abbrev row : Row
  row = get_or (rows_in a t) j []

  same_words : (n : ℕ) → get_or child n 𝟘 ≡ get_or row n 𝟘
  unfolding row_in
  same_words n =
      ap (λ (c : Row). get_or c n 𝟘) i
      ∙ get_padded 9 (take t.width (drop (t.start + j * t.width) a)) n
      ∙ ap (λ (c : Row). get_or c n 𝟘) (row_get a t j l)

  -- one that maps to x has no NULL in its key
  module _ (k : ForeignKey) (x : Row) (h : takes k x row ≡ true) where
    pub found_full : length k.child_columns ≡ length k.parent_columns → full_key (child_key k) child ≡ true
    found_full e = full_same child row same_words (child_key k) ∙ taken_full k e x row h

  -- whether one that is found is left is judged by its image
  pub found_left : (found : Row → Bool) → found row ≡ true → (clear : Bool) (k : ForeignKey) (y : Row) (others : List Row) {z : Bool} → z ≡ left_by clear k y others child → left_row found clear k y others row ≡ z
  found_left found h clear k y others e = ap (λ (b : Bool). b && left_by clear k y others row) h ∙ sym (e ∙ left_same clear k y others child row same_words)

-- a row that a search passes over is not left
pub passed_over : (found : Row → Bool) (clear : Bool) (k : ForeignKey) (y : Row) (others : List Row) (c : Row) → found c ≡ false → left_row found clear k y others c ≡ false
passed_over found clear k y others c h = ap (λ (b : Bool). b && left_by clear k y others c) h

-- ---- by the columns of a foreign key with a window
module _ (b : List ℕ) (k : ℕ) (x : WindowKey) (h : WindowColumns b k x) where
  abbrev K : ForeignKey
  K = key_of (schema_of b) k

  -- child rows that map to a parent row with the old image and may not map to it with the new one are searched by the old pairs and days
  module _ (old new : Row) {key : SoughtKey} (s : SoughtOf x.pairs.folded x.pairs.n x.pairs.cs x.pairs.ps old key) {days : Days} (d : days ≡ left_days old new x) where
    pub taken_ready : (t : TableRows) → t.width ≡ suc (table_of (schema_of b) K.child).columns → ((1 ≤ key.n) × SoughtIn t.width key) × DaysIn t.width days
    taken_ready t w = rw w (sought_ready s (some_pairs b k x h) h.columns.columns.child_within, rw d (left_days_in b k x h old new))

    module _ (full : full_key (parent_key K) old ≡ true) where
      -- those that are found map to the old image
      pub found_taken : (row : Row) → is_on key days row ≡ true → takes K old row ≡ true
      found_taken row f = left_found b k x h old new full s row (sym (ap (λ (d : Days). is_on key d row) d) ∙ f)

      -- others are not left: they map to the new one, or not to the old one
      found_same : (clear : Bool) (others : List Row) (c : Row) → left_row (is_on key days) clear K new others c ≡ left_row (takes K old) clear K new others c
      found_same clear others c = by (is_on key days c) (takes K old c) refl refl
        where
          by : (f t : Bool) → is_on key days c ≡ f → takes K old c ≡ t → f && left_by clear K new others c ≡ t && left_by clear K new others c
          by true true e g = refl
          by true false e g = absurd (true≢false (sym (found_taken c e) ∙ g))
          by false true e g = left_served K new others c clear (left_over b k x h old new full s c g (sym (ap (λ (d : Days). is_on key d c) d) ∙ e))
          by false false e g = refl

      pub count_found : (clear : Bool) (others rows : List Row) → count (left_row (is_on key days) clear K new others) rows ≡ count (left_row (takes K old) clear K new others) rows
      count_found clear others rows = λ i. count (λ c. found_same clear others c i) rows

  -- ---- the rows of the two tables

  -- a parent table has a row
  pub parents_some : {parents : TableRows} → RowsOf b K.parent parents → 0 < parents.count
  parents_some rows =
      let w = whole b k x h in
      let r = read_rows b w.accepted K.parent (parent_table b k w) refl in
      omega (arith, rows.count_is, r.0, r.1.low)

  pub parents_there : {t r : ℕ} → K.parent ≡ t → r < (table_of (schema_of b) t).rows → {parents : TableRows} → RowsOf b t parents → RowsOf b K.parent parents × (r < parents.count)
  parents_there e l rows = (rw e rows, omega (arith, l, rows.count_is))

  module _ (a : List ℤ) (ready : Ready b a) {c : ℕ} (e : c ≡ K.child) {children : TableRows} (rows : RowsOf b c children) where
    children_of_lem : RowsOf b K.child children
    children_of_lem = rw (← e) rows

    child_there : K.child < length (schema_of b).tables
    child_there = let w = whole b k x h in child_table_lem b w.accepted k w.key

    pub children_stand : Standing a children × (children.width ≡ suc (table_of (schema_of b) K.child).columns)
    children_stand = (standing b a ready K.child child_there children children_of_lem, children_of_lem.width_is)

    pub children_are : rows_in a children ≡ get_or (work_of (schema_of b) a).tabs K.child []
    children_are = rows_are b a ready K.child child_there children children_of_lem

  -- ---- whether one is left, where the others are not asked
  pub some_left : (old new : Row) (others rows : List Row) {m : ℕ} → m ≡ count (left_row (takes K old) true K new others) rows → not (eqb m 0) ≡ any (λ c. takes K old c && not (serves K c new)) rows
  some_left old new others rows {m} e =
      not_none m
      ∙ ap (ltb 0) e
      ∙ count_some (left_row (takes K old) true K new others) rows
      ∙ (λ i. any (λ c. takes K old c && left_clear K new others c i) rows)

  -- none is, where each row that maps to the old image maps to the new one
  pub none_left : (old new : Row) → ((c : Row) → takes K old c ≡ true → serves K c new ≡ true) → (rows : List Row) → false ≡ any (λ c. takes K old c && not (serves K c new)) rows
  none_left old new kept rows = sym (any_never (λ c. takes K old c && not (serves K c new)) (λ c. by c (takes K old c) refl) rows)
    where
      by : (c : Row) (t : Bool) → takes K old c ≡ t → t && not (serves K c new) ≡ false
      by c true e = ap not (kept c e)
      by c false e = refl

  -- ---- the rows that are stranded
  module _ (t : ℕ) (old new : Row) (fired : fires new t old K ≡ true) where
    pub fires_full : full_key (parent_key K) old ≡ true
    unfolding fires
    fires_full =
        let whole = and_right (eqb K.parent t) (not K.broken && (full_key (parent_key K) old && not (same_parent_key K old new))) fired in
        let changed = and_right (not K.broken) (full_key (parent_key K) old && not (same_parent_key K old new)) whole in
        and_left (full_key (parent_key K) old) (not (same_parent_key K old new)) changed

    module _ (r : ℕ) (tabs : Tables) where
      abbrev others_of : List Row
      others_of = except r (get_or tabs K.parent [])

      abbrev children_of : List Row
      children_of = except_if (eqb K.child t) r (get_or tabs K.child [])

      -- where another window clashes with the old one, the other parent rows are asked
      left_stranded : (clash : Bool) → clash ≡ any (clashes K old (window_of x)) others_of → count (left_row (takes K old) (not clash) K new others_of) children_of ≡ stranded_rows K t r old new tabs
      unfolding pick
      left_stranded true e =
          (λ i. count (λ c. takes K old c && left_asked K new others_of c i) children_of)
          ∙ sym (stranded_scan K t r old new tabs (same_count b k x h) ∙ ap (λ (f : Bool). pick f (count (λ c. takes K old c && unserved K new others_of c) children_of)) fired)
      left_stranded false e =
          (λ i. count (λ c. takes K old c && left_clear K new others_of c i) children_of)
          ∙ sym (stranded_clear K t r old new tabs (same_count b k x h) (window_of x) h.window_is (sym e) ∙ ap (λ (f : Bool). pick f (count (λ c. takes K old c && not (serves K c new)) children_of)) fired)

      pub stranded_none : ((c : Row) → takes K old c ≡ true → serves K c new ≡ true) → 0 ≡ stranded_rows K t r old new tabs
      unfolding pick unserved
      stranded_none kept =
          sym (stranded_scan K t r old new tabs (same_count b k x h)
          ∙ ap (λ (f : Bool). pick f (count (λ c. takes K old c && unserved K new others_of c) children_of)) fired
          ∙ count_none (λ c. takes K old c && unserved K new others_of c) (λ c. by c (takes K old c) refl) children_of)
        where
          by : (c : Row) (t : Bool) → takes K old c ≡ t → t && (not (serves K c new) && not (any (serves K c) others_of)) ≡ false
          by c true e = rw (kept c e) refl
          by c false e = refl

      module _ (p : K.parent ≡ t) {clash : Bool} (e : clash ≡ any (clashes K old (window_of x)) (except r (get_or tabs t []))) {c : ℕ} (q : c ≡ K.child) where
        abbrev is_left : Row → Bool
        is_left = left_row (takes K old) (not clash) K new others_of

        all_stranded : count is_left children_of ≡ stranded_rows K t r old new tabs
        all_stranded = left_stranded clash (e ∙ ap (λ (t : ℕ). any (clashes K old (window_of x)) (except r (get_or tabs t []))) (sym p))

        -- of another table, all rows; of the same table, all but row r
        pub left_all : (c ≡ t → ⊥) → count is_left (get_or tabs K.child []) ≡ stranded_rows K t r old new tabs
        unfolding except_if
        left_all o =
            sym (ap (λ (own : Bool). count is_left (except_if own r (get_or tabs K.child []))) (ne_eqb K.child t (λ e. o (q ∙ e)))) ∙ all_stranded

        pub left_besides : c ≡ t → count is_left (except r (get_or tabs K.child [])) ≡ stranded_rows K t r old new tabs
        unfolding except_if
        left_besides o =
            sym (ap (λ (own : Bool). count is_left (except_if own r (get_or tabs K.child []))) (eq-eqb K.child t (sym q ∙ o))) ∙ all_stranded

-- ---- rows of one table but for row r
module _ (a : List ℤ) (t : TableRows) (r : ℕ) (l : r < t.count) {w : ℕ} (s : Standing a t × (t.width ≡ w)) {x : TableRows} where
  pub before_there : x ≡ rows_before t r → Standing a x × (x.width ≡ w)
  unfolding rows_before
  before_there e = rw e (before_stands a t r l s.0, s.1)

  pub after_there : x ≡ rows_after t r → Standing a x × (x.width ≡ w)
  unfolding rows_after
  after_there e = rw e (after_stands a t r l s.0, s.1)

-- row r of table t is one of the child rows, where these are that table's
pub own_row : (b : List ℕ) {t c r : ℕ} {children : TableRows} → RowsOf b c children → r < (table_of (schema_of b) t).rows → c ≡ t → r < children.count
own_row b rows l o =
    let same = ap (λ (t : ℕ). (table_of (schema_of b) t).rows) o in
    omega (arith, l, rows.count_is, same)
