-- The parent rows that serve a child row's image, as a search finds them, and whether it is an orphan.
-- Assumes nothing.
use mathlib.Core.Path.{◌≡◌, refl, sym, ap, ◌∙◌}
use mathlib.Core.Bool.{Bool, true, false, not}
use mathlib.Core.List.{List, []}
use Prim.Native.Nat.{ℕ, ◌≤◌}
use borrow.Author.Tests.{not-true, not-false}
use lib.IntN.{ℤ}
use lib.ListN.{length, get_or, take}
use Rattle.schema.specs.Bounds.{Columns}
use Rattle.schema.specs.Records.{ForeignKey, child_key, parent_key, key_of}
use Rattle.schema.specs.Fields.{schema_of}
use Rattle.schema.proofs.FieldLaws.{same_width}
use Rattle.rules.specs.Lists.{any, except}
use Rattle.rules.specs.Rows.{Row}
use Rattle.rules.specs.Keys.{full_key, half_due, serves, orphan}
use Rattle.bridge.specs.Fit.{work_of}
use Rattle.bridge.specs.Ready.{Ready}
use Rattle.bridge.proofs.NullKeys.{whole_due, half_orphan}
use Rattle.rows.specs.declared.SoughtKey.{SoughtKey}
use Rattle.rows.specs.declared.TableRows.{TableRows}
use Rattle.rows.specs.KeyColumns.{WholeKey}
use Rattle.rows.specs.Sought.{SoughtIn, SoughtOf}
use Rattle.rows.specs.Standing.{Standing, RowsOf, rows_in}
use Rattle.rows.proofs.SoughtLaws.{sought_ready}
use Rattle.rows.proofs.TableLaws.{rows_are, standing, parent_in, parent_table}
use Rattle.windows.specs.declared.Days.{Days}
use Rattle.windows.specs.declared.WindowKey.{WindowKey}
use Rattle.windows.specs.Days.{DaysIn, is_on}
use Rattle.windows.specs.WindowKey.{WindowColumns, parent_days, child_pairs, parent_pairs, child_all}
use Rattle.windows.proofs.KeyDays.{some_pairs, window_in, parent_days_in, child_all_lem, child_pairs_full, parent_pairs_full, serving_on}

module _ (b : List ℕ) (k : ℕ) (x : WindowKey) (h : WindowColumns b k x) where
  abbrev K : ForeignKey
  K = key_of (schema_of b) k

  pub whole : WholeKey b k
  whole = h.columns.columns.parents.whole_key

  -- its columns are as many on both sides
  pub same_count : length K.child_columns ≡ length K.parent_columns
  same_count = sym (same_width b whole.accepted k whole.key)

  -- what it needs to take the pairs of a child row, or of a parent row, for a key
  pub child_pairs_lem : (row : Row) → full_key (child_key K) row ≡ true → Columns 9 x.pairs.n x.pairs.cs × (full_key (take x.pairs.n x.pairs.cs) row ≡ true)
  unfolding child_pairs
  child_pairs_lem row full = ((window_in b k x h).child, child_pairs_full b k x h row full)

  pub parent_pairs_lem : (row : Row) → full_key (parent_key K) row ≡ true → Columns 9 x.pairs.n x.pairs.ps × (full_key (take x.pairs.n x.pairs.ps) row ≡ true)
  unfolding parent_pairs
  parent_pairs_lem row full = ((window_in b k x h).parent, parent_pairs_full b k x h row full)

  -- ---- parent rows that serve a child row
  module _ (a : List ℤ) (ready : Ready b a) (parents : TableRows) (rows : RowsOf b K.parent parents) where
    abbrev parent_rows : List Row
    parent_rows = get_or (work_of (schema_of b) a).tabs K.parent []

    pub parents_stand : Standing a parents
    parents_stand = standing b a ready K.parent (parent_table b k whole) parents rows

    parents_are : rows_in a parents ≡ parent_rows
    parents_are = rows_are b a ready K.parent (parent_table b k whole) parents rows

    module _ (child : Row) (full : full_key (child_key K) child ≡ true) {key : SoughtKey} (s : SoughtOf x.pairs.folded x.pairs.n x.pairs.ps x.pairs.cs child key) {days : Days} (d : days ≡ parent_days child x) where
      pub serving_ready : ((1 ≤ key.n) × SoughtIn parents.width key) × DaysIn parents.width days
      serving_ready =
          (sought_ready s (some_pairs b k x h) (parent_in b k x.pairs.n x.pairs.ps h.columns.columns.parents refl rows), rw (d, rows.width_is) (parent_days_in b k x h child))

      serving : (row : Row) → is_on key days row ≡ serves K child row
      serving row = ap (λ (d : Days). is_on key d row) d ∙ serving_on b k x h child full s row

      pub any_serving : any (is_on key days) (rows_in a parents) ≡ any (serves K child) parent_rows
      any_serving = (λ i. any (λ row. serving row i) (rows_in a parents)) ∙ ap (any (serves K child)) parents_are

      pub other_serving : (r : ℕ) → any (is_on key days) (except r (rows_in a parents)) ≡ any (serves K child) (except r parent_rows)
      other_serving r = (λ i. any (λ row. serving row i) (except r (rows_in a parents))) ∙ ap (λ (rows : List Row). any (serves K child) (except r rows)) parents_are

  -- ---- orphans: a row with no NULL in its key is one if nobody serves it; any other if it is half filled and the match is full
  module _ (row : Row) {full : Bool} (e : full ≡ full_key (child_all x) row) where
    full_is : full_key (child_key K) row ≡ full
    full_is = sym (e ∙ ap (λ (cs : List ℕ). full_key cs row) (child_all_lem b k x h))

    pub full_there : not full ≡ false → full_key (child_key K) row ≡ true
    full_there t = full_is ∙ not-false full t

    pub orphan_half : not full ≡ true → (ps : List Row) {half : Bool} → half ≡ half_due K.match (child_key K) row → half ≡ orphan K ps row
    orphan_half t ps f = f ∙ sym (half_orphan K same_count row whole.whole ps (full_is ∙ not-true full t))

    pub orphan_full : not full ≡ false → (ps : List Row) {served : Bool} → served ≡ any (serves K row) ps → not served ≡ orphan K ps row
    unfolding orphan
    orphan_full t ps f = rw (whole_due K whole.whole row, full_there t) (ap not f)
