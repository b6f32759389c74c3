-- The child rows of a foreign key, as they stand in the area and as they are judged.
-- Assumes nothing.
use mathlib.Core.Path.{◌≡◌, refl, sym, ap, ◌∙◌, subst}
use mathlib.Core.Bool.{Bool}
use mathlib.Core.List.{List, []}
use Prim.Native.Nat.{ℕ, ◌+◌, ◌*◌, ◌≤◌, ◌<◌}
use native.Mathlib.Omega.{arith}
use lib.IntN.{ℤ}
use lib.ListN.{length, get_or, take, drop}
use Rattle.schema.specs.Records.{ForeignKey, table_of, key_of}
use Rattle.schema.specs.Fields.{schema_of}
use Rattle.rules.specs.Lists.{padded, count, one}
use Rattle.rules.specs.Rows.{Row, row_at}
use Rattle.rules.specs.Keys.{orphan, orphans}
use Rattle.bridge.specs.Fit.{work_of}
use Rattle.bridge.specs.Ready.{Ready, row_in}
use Rattle.bridge.proofs.KeyLaws.{orphan_same, get_padded}
use Rattle.bridge.proofs.BrokenKeys.{broken_orphan}
use Rattle.bridge.proofs.CountLaws as all
use Rattle.bridge.proofs.RowWords.{formed_fit, rows_length}
use Rattle.rows.specs.Standing.{RowAt, PlacedAt}
use Rattle.bridge.proofs.LoopLaws.{count_none, count_more}
use Rattle.rows.proofs.TableLaws.{child_table_lem, rows_few, placed_at, row_in_lem, row_stands}
use Rattle.orphans.specs.declared.KeyRows.{KeyRows}
use Rattle.orphans.specs.KeyRows.{KeyRowsOf, RowsIfWhole, Searched}
use Rattle.std.specs.declared.option.Option.{Option}
use Rattle.std.specs.Prelude.{Some, None}

-- an image is the row with zeros after it
image_same : (k : ForeignKey) (ys : List Row) (a : List ℤ) (p w : ℕ) {x : Row} → x ≡ padded 9 (take w (drop p a)) → orphan k ys x ≡ orphan k ys (row_in a p w)
unfolding row_in
image_same k ys a p w e = ap (orphan k ys) e ∙ orphan_same (padded 9 (take w (drop p a))) (take w (drop p a)) (get_padded 9 (take w (drop p a))) k ys

module _ (b : List ℕ) (a : List ℤ) (k : ℕ) where
  -- the number of foreign key k's child table, its rows, row j, and which rows are orphans
  abbrev child_table : ℕ
  child_table = (key_of (schema_of b) k).child

  abbrev pub child_rows : List Row
  child_rows = get_or (work_of (schema_of b) a).tabs child_table []

  abbrev pub child_at : ℕ → Row
  child_at j = row_at child_table j (work_of (schema_of b) a).tabs

  abbrev pub is_alone : Row → Bool
  is_alone = orphan (key_of (schema_of b) k) (get_or (work_of (schema_of b) a).tabs (key_of (schema_of b) k).parent [])

  pub orphans_are : count is_alone child_rows ≡ orphans (work_of (schema_of b) a).tabs (key_of (schema_of b) k)
  unfolding orphans
  orphans_are = refl

  pub child_is : (j : ℕ) {z : Bool} → z ≡ is_alone (child_at j) → is_alone (get_or child_rows j []) ≡ z
  unfolding row_at
  child_is j i = sym i

  pub child_many : Ready b a → length child_rows ≡ (table_of (schema_of b) child_table).rows
  unfolding work_of
  child_many h = rows_length (schema_of b) (work_of (schema_of b) a).tabs (formed_fit h.fit).shaped child_table

  module _ (h : Ready b a) (x : KeyRows) (e : KeyRowsOf b k x) where
    child_there : child_table < length (schema_of b).tables
    child_there = child_table_lem b h.accepted k e.whole_key.key

    -- how many child rows there are
    pub children_few : x.children.count ≤ 1024
    children_few = omega (arith, e.children.count_is, rows_few b h.accepted child_table child_there)

    pub children_many : length child_rows ≡ x.children.count
    children_many = child_many h ∙ sym e.children.count_is

    -- the orphans from row j on
    pub none_left : (j : ℕ) → x.children.count ≤ j → count is_alone (drop j child_rows) ≡ 0
    none_left j l = count_none is_alone child_rows j (omega (arith, children_many, l))

    pub one_less : (j : ℕ) → j < x.children.count → {z : Bool} → z ≡ is_alone (child_at j) → count is_alone (drop j child_rows) ≡ one z + count is_alone (drop (j + 1) child_rows)
    one_less j l i = rw (← child_is j i) (count_more is_alone child_rows j (omega (arith, children_many, l)) [] (get_or child_rows j []) refl)

    -- where row j stands; by its image there it is judged
    module _ (j : ℕ) (l : j < x.children.count) where
      abbrev place : ℕ
      place = x.children.start + j * x.children.width

      child_placed : PlacedAt b a child_table j place x.children.width
      child_placed = placed_at b a h child_table child_there x.children e.children j l

      pub child_stands : RowAt a place x.children.width
      child_stands = row_stands b a child_table j place x.children.width child_placed

      pub child_judged : {z : Bool} {y : Row} → z ≡ is_alone y → y ≡ padded 9 (take x.children.width (drop place a)) → z ≡ is_alone (child_at j)
      child_judged f i = f ∙ image_same _ _ a place x.children.width i ∙ ap is_alone (row_in_lem b a child_table j place x.children.width child_placed)

  -- ---- what is searched

  -- a key that is not broken has its rows; a broken one has no orphan
  pub rows_there : {o : Option KeyRows} → Searched b k o → {x : KeyRows} → o ≡ Some x → KeyRowsOf b k x
  rows_there e i = subst (RowsIfWhole b k) i e.rows

  pub none_alone : {o : Option KeyRows} → Searched b k o → o ≡ None → (j : ℕ) → count is_alone (drop j child_rows) ≡ 0
  none_alone e i j =
      all.count_none is_alone (broken_orphan (key_of (schema_of b) k) (subst (RowsIfWhole b k) i e.rows) (get_or (work_of (schema_of b) a).tabs (key_of (schema_of b) k).parent [])) (drop j child_rows)
