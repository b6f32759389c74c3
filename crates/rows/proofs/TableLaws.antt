-- The rows of a table as they stand in the area, and the columns of its keys.
-- Assumes nothing.
use mathlib.Core.Path.{◌≡◌, refl, sym, ap, ap₂, ◌∙◌}
use mathlib.Core.List.{List, []}
use Prim.Native.Nat.{ℕ, suc, ◌+◌, ◌*◌, ◌≤◌, ◌<◌}
use native.Mathlib.Omega.{arith}
use lib.IntN.{ℤ}
use lib.ListN.{length, get_or, take, drop}
use lib.Seq.{ext_get_or}
use Rattle.schema.specs.Check.{Accepted, check_schema}
use Rattle.schema.specs.Bounds.{Columns}
use Rattle.schema.specs.Bytes.{folds_of}
use Rattle.schema.specs.Records.{ForeignKey, child_key, unique_columns, table_of, key_of}
use Rattle.schema.specs.Fields.{schema_of}
use Rattle.schema.specs.Sizes.{table_size, rows_size, table_offset, area_size}
use Rattle.schema.proofs.ListLaws.{length_from, get_list}
use Rattle.schema.proofs.KeyLaws.{parent_key}
use Rattle.schema.proofs.FieldLaws.{read_rows, read_columns, read_child, folds_are, same_width}
use Rattle.rules.specs.Rows.{row_at}
use Rattle.bridge.specs.Fit.{work_of}
use Rattle.bridge.specs.Ready.{Ready, row_in}
use Rattle.bridge.proofs.Offsets.{row_offset}
use Rattle.bridge.proofs.RowWords.{row_fits, table_fits, offset_fits, row_words, formed_fit, rows_length}
use Rattle.rows.specs.declared.TableRows.{TableRows}
use Rattle.rows.specs.Standing.{RowAt, Standing, rows_in, RowsOf, PlacedAt}
use Rattle.rows.specs.KeyColumns.{folds_in, WholeKey, ParentColumns, PairColumns, KeyColumns}
use Rattle.rows.proofs.CellLaws.{widen}
use Rattle.rows.proofs.ColumnLaws.{fewer, child_pairs_lem, parent_pairs_lem}

-- ---- rows that stand in an area
abbrev pub rows_from : ℕ → ℕ → ℕ → TableRows
rows_from start width count = record { start = start; width = width; count = count }

module _ (a : List ℤ) (t : TableRows) where
  pub rows_many : length (rows_in a t) ≡ t.count
  unfolding rows_in
  rows_many = length_from (λ j. row_in a (t.start + j * t.width) t.width) t.count 0

  module _ (j : ℕ) (l : j < t.count) where
    pub row_get : row_in a (t.start + j * t.width) t.width ≡ get_or (rows_in a t) j []
    unfolding rows_in
    row_get = sym (get_list (λ j. row_in a (t.start + j * t.width) t.width) t.count j [] l)

    pub row_at_lem : Standing a t → RowAt a (t.start + j * t.width) t.width
    row_at_lem s = record { some = s.some; narrow = s.narrow; within = omega (arith, row_fits j t.count t.width l, s.within) }

-- ---- sizes of an accepted schema
module _ (b : List ℕ) (acc : check_schema b ≡ Accepted) where
  module _ (t : ℕ) (h : t < length (schema_of b).tables) where
    pub columns_few : (table_of (schema_of b) t).columns ≤ 8
    columns_few = let r = read_columns b acc t h refl in omega (arith, r.0, r.1.high)

    pub rows_few : (table_of (schema_of b) t).rows ≤ 1024
    rows_few = let r = read_rows b acc t h refl in omega (arith, r.0, r.1.high)

  module _ (k : ℕ) (h : k < length (schema_of b).keys) where
    pub child_table_lem : (key_of (schema_of b) k).child < length (schema_of b).tables
    child_table_lem = let r = read_child b acc k h refl in omega (arith, r.0, r.1)

pub parent_table : (b : List ℕ) (k : ℕ) → WholeKey b k → (key_of (schema_of b) k).parent < length (schema_of b).tables
parent_table b k w = (parent_key b w.accepted k w.key w.whole).there

-- ---- rows of a table
offset_is : (b : List ℕ) (t j : ℕ) → table_offset (schema_of b) t + j * suc (table_of (schema_of b) t).columns ≡ 333 + row_offset (schema_of b) t j
unfolding table_offset row_offset
offset_is b t j = omega arith

module _ (b : List ℕ) (a : List ℤ) (t j p w : ℕ) (h : PlacedAt b a t j p w) where
  pub row_in_lem : row_in a p w ≡ row_at t j (work_of (schema_of b) a).tabs
  unfolding row_in
  row_in_lem =
      ap₂ (λ (w p : ℕ). take w (drop p a)) h.width_is (h.place_is ∙ ap (λ (w : ℕ). table_offset (schema_of b) t + j * w) h.width_is ∙ offset_is b t j)
      ∙ sym (row_words (schema_of b) a t j h.placed.table h.placed.row)

  pub row_stands : RowAt a p w
  unfolding area_size
  row_stands =
      let n : length a ≡ 333 + rows_size (schema_of b).tables + (schema_of b).room * 10 = h.placed.ready.fit.size in
      let q : p ≡ 333 + row_offset (schema_of b) t j = h.place_is ∙ ap (λ (w : ℕ). table_offset (schema_of b) t + j * w) h.width_is ∙ offset_is b t j in
      record {
        some = omega (arith, h.width_is);
        narrow = omega (arith, h.width_is, columns_few b h.placed.ready.accepted t h.placed.table);
        within = omega (arith, h.width_is, offset_fits (schema_of b) t j h.placed.table h.placed.row);
      }

module _ (b : List ℕ) (a : List ℤ) (h : Ready b a) (t : ℕ) (l : t < length (schema_of b).tables) (x : TableRows) (e : RowsOf b t x) where
  pub placed_at : (j : ℕ) → j < x.count → PlacedAt b a t j (x.start + j * x.width) x.width
  placed_at j m =
      record {
        placed = record { ready = h; table = l; row = omega (arith, e.count_is) };
        place_is = ap (λ (s : ℕ). s + j * x.width) e.start_is;
        width_is = e.width_is;
      }

  tabs_many : length (get_or (work_of (schema_of b) a).tabs t []) ≡ (table_of (schema_of b) t).rows
  unfolding work_of
  tabs_many = rows_length (schema_of b) (work_of (schema_of b) a).tabs (formed_fit h.fit).shaped t

  pub rows_are : rows_in a x ≡ get_or (work_of (schema_of b) a).tabs t []
  unfolding row_at
  rows_are =
      ext_get_or [] (rows_in a x) (get_or (work_of (schema_of b) a).tabs t []) (rows_many a x ∙ e.count_is ∙ sym tabs_many)
      (λ j m.
      let m : j < x.count = omega (arith, rows_many a x) in
      sym (row_get a x j m) ∙ row_in_lem b a t j (x.start + j * x.width) x.width (placed_at j m))

  pub standing : Standing a x
  unfolding area_size table_offset table_size
  standing =
      let n : length a ≡ 333 + rows_size (schema_of b).tables + (schema_of b).room * 10 = h.fit.size in
      let s : x.count * x.width ≡ (table_of (schema_of b) t).rows * suc (table_of (schema_of b) t).columns = ap₂ (λ (r c : ℕ). r * c) e.count_is e.width_is in
      record {
        some = omega (arith, e.width_is);
        narrow = omega (arith, e.width_is, columns_few b h.accepted t l);
        few = omega (arith, e.count_is, rows_few b h.accepted t l);
        within = omega (arith, e.start_is, table_fits (schema_of b).tables t l);
      }

-- ---- the columns of a foreign key

-- columns that were read: n of them, within rows of w words
abbrev pub Read : ℕ → ℕ → List ℕ → List ℕ → Type 0
Read w n columns cs = (take n cs ≡ columns) × Columns (suc w) n cs

module _ (b : List ℕ) (k : ℕ) (w : WholeKey b k) (n : ℕ) (e : n ≡ length (key_of (schema_of b) k).child_columns) where
  abbrev K : ForeignKey
  K = key_of (schema_of b) k

  module _ (ps : List ℕ) (g : Read (table_of (schema_of b) K.parent).columns (length (unique_columns K)) (unique_columns K) ps) where
    parents : (take n ps ≡ K.parent_columns) × (n ≤ length (unique_columns K))
    parents = parent_pairs_lem K ps n (e ∙ sym (same_width b w.accepted k w.key)) g.0

    pub parent_columns : ParentColumns b k n ps
    parent_columns = record { whole_key = w; parent_is = parents.0; parent_within = fewer n parents.1 g.1 }

    pub key_columns : (cs : List ℕ) → Read (table_of (schema_of b) K.child).columns (length (child_key K)) (child_key K) cs → {f : ℕ} → folds_in n f ≡ K.folds → KeyColumns b k (record { n = n; folded = f; cs = cs; ps = ps })
    key_columns cs r f =
        let children = child_pairs_lem K cs n e r.0 in
        record { columns = record { parents = parent_columns; child_is = children.0; child_within = fewer n children.1 r.1 }; folds_are = f }

module _ (b : List ℕ) (k n : ℕ) (ps : List ℕ) (h : ParentColumns b k n ps) where
  pub parent_wide : Columns 9 n ps
  parent_wide = widen (omega (arith, columns_few b h.whole_key.accepted (key_of (schema_of b) k).parent (parent_table b k h.whole_key))) h.parent_within

  -- in the rows of the parent table
  pub parent_in : {t : ℕ} {x : TableRows} → t ≡ (key_of (schema_of b) k).parent → RowsOf b t x → Columns x.width n ps
  parent_in e r = rw (r.width_is, e) h.parent_within

  -- which pairs are folded, by the mask of the parent table
  pub parent_folds : {t m : ℕ} → t ≡ (key_of (schema_of b) k).parent → m ≡ (table_of (schema_of b) t).folded → folds_of m (take n ps) ≡ (key_of (schema_of b) k).folds
  parent_folds e f =
      let w = h.whole_key in
      ap₂ folds_of (f ∙ ap (λ (t : ℕ). (table_of (schema_of b) t).folded) e) h.parent_is ∙ sym (folds_are b w.accepted k w.key w.whole)

pub child_wide : (b : List ℕ) (k n : ℕ) (cs ps : List ℕ) → PairColumns b k n cs ps → Columns 9 n cs
child_wide b k n cs ps h =
    let w = h.parents.whole_key in
    widen (omega (arith, columns_few b w.accepted (key_of (schema_of b) k).child (child_table_lem b w.accepted k w.key))) h.child_within
