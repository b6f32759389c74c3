-- One foreign key: the row itself, the rows that it strands, and the scans that find them.
-- Assumes nothing.
use mathlib.Core.Path.{◌≡◌, refl, sym, ap, ap₂, ◌∙◌}
use mathlib.Core.Bool.{Bool, true, false, not, ◌&&◌}
use mathlib.Core.List.{List, []}
use Prim.Native.Nat.{ℕ, ◌≤◌, ◌<◌}
use native.Mathlib.Omega.{arith}
use borrow.Author.Tests.{eq-eqb, ne_eqb}
use lib.Dec.{eqb}
use lib.IntN.{ℤ}
use mir.Val.{bool_byte}
use lib.ListN.{length, get_or, take}
use Rattle.schema.specs.Records.{ForeignKey, parent_key, key_of}
use Rattle.schema.specs.Fields.{schema_of}
use Rattle.schema.proofs.RangeLaws.{and_left, and_right}
use Rattle.rules.specs.Lists.{any, count, one, except}
use Rattle.rules.specs.Rows.{Row, Tables, live}
use Rattle.rules.specs.Keys.{same_key, full_key, orphan, takes, same_parent_key, fires}
use Rattle.bridge.specs.Fit.{work_of}
use Rattle.bridge.specs.Ready.{Placed}
use Rattle.bridge.proofs.MapLaws.{parent_plain, maps_plain, same_plain}
use Rattle.rows.specs.declared.TableRows.{TableRows}
use Rattle.rows.specs.Standing.{Standing, RowsOf, rows_in}
use Rattle.rows.specs.declared.KeyPairs.{KeyPairs}
use Rattle.rows.specs.KeyColumns.{folds_in, PlainKey, KeyColumns}
use Rattle.rows.proofs.TableLaws.{child_table_lem, parent_in, standing, rows_are}
use Rattle.rows.specs.declared.SoughtKey.{SoughtKey}
use Rattle.rows.specs.Sought.{has_sought, SoughtIn, with_key, SoughtOf}
use Rattle.rows.proofs.SoughtLaws.{sought_ready, any_sought, count_sought}
use Rattle.constraints.proofs.ServedLaws.{some_columns}
use Rattle.moves.specs.Movement.{pick, except_if, own_orphan, stranded_rows}
use Rattle.moves.proofs.Taken.{stranded_scan, stranded_rows_lem, pick_zero}
use Rattle.row_orphans.specs.RowOrphans.{taken_rows, has_twin}

-- ---- a test as a number

pub byte_is : (b : Bool) → bool_byte b ≡ one b
unfolding one
byte_is true = refl
byte_is false = refl

pub byte_few : (b : Bool) → bool_byte b ≤ 1
byte_few true = omega arith
byte_few false = omega arith

-- ---- the row itself
module _ (k : ForeignKey) (t : ℕ) (x : Row) (tabs : Tables) where
  pub own_other : (k.child ≡ t → ⊥) → 0 ≡ own_orphan k t x tabs
  unfolding own_orphan pick
  own_other h = sym (rw (ne_eqb k.child t h))

  pub own_is : k.child ≡ t → {b : Bool} → orphan k (get_or tabs k.parent []) x ≡ b → one b ≡ own_orphan k t x tabs
  unfolding own_orphan pick
  own_is h e = sym (rw (eq-eqb k.child t h, e))

-- ---- the rows that it strands
module _ (k : ForeignKey) (same : length k.parent_columns ≡ length k.child_columns) (t r : ℕ) (x y : Row) (tabs : Tables) where
  pub none_other : (k.parent ≡ t → ⊥) → 0 ≡ stranded_rows k t r x y tabs
  unfolding stranded_rows pick
  none_other h = sym (rw (ne_eqb k.parent t h))

  pub none_fires : fires y t x k ≡ false → 0 ≡ stranded_rows k t r x y tabs
  unfolding pick
  none_fires h = sym (stranded_scan k t r x y tabs (sym same) ∙ none_picked _ h)
    where
      none_picked : {b : Bool} (n : ℕ) → b ≡ false → pick b n ≡ 0
      none_picked n e = ap (λ (b : Bool). pick b n) e

  -- of a key without a window
  module _ (none : k.windows ≡ []) where
    by_tests : stranded_rows k t r x y tabs ≡ pick (fires y t x k && not (has_twin k r x tabs)) (taken_rows k t r x tabs)
    unfolding has_twin taken_rows
    by_tests = stranded_rows_lem k t r x y tabs (sym same) none

    pub none_taken : taken_rows k t r x tabs ≡ 0 → 0 ≡ stranded_rows k t r x y tabs
    unfolding pick
    none_taken h = sym (by_tests ∙ ap (pick (fires y t x k && not (has_twin k r x tabs))) h ∙ pick_zero (fires y t x k && not (has_twin k r x tabs)))

    pub twin_serves : has_twin k r x tabs ≡ true → 0 ≡ stranded_rows k t r x y tabs
    unfolding pick
    twin_serves h = sym (by_tests ∙ ap (λ b. pick (fires y t x k && not b) (taken_rows k t r x tabs)) h ∙ never (fires y t x k))
      where
        never : (b : Bool) → pick (b && false) (taken_rows k t r x tabs) ≡ 0
        never true = refl
        never false = refl

    pub all_stranded : fires y t x k ≡ true → has_twin k r x tabs ≡ false → taken_rows k t r x tabs ≡ stranded_rows k t r x y tabs
    unfolding pick
    all_stranded h e = sym (by_tests ∙ ap₂ (λ a b. pick (a && not b) (taken_rows k t r x tabs)) h e)

-- an old key that actions follow has no NULL
pub fires_full : (k : ForeignKey) → k.windows ≡ [] → (t : ℕ) (x y : Row) {ps : List ℕ} → ps ≡ k.parent_columns → fires y t x k ≡ true → full_key ps x ≡ true
unfolding fires
fires_full k none t x y e h =
    rw (e ∙ sym (parent_plain k none)) (and_left (full_key (parent_key k) x) _ (and_right (not k.broken) _ (and_right (eqb k.parent t) _ h)))

-- ---- the scans
module _ (b : List ℕ) (a : List ℤ) (k t r : ℕ) (pairs : KeyPairs) (h : Placed b a t r) (c : KeyColumns b k pairs) (p : PlainKey b k) where
  abbrev K : ForeignKey
  K = key_of (schema_of b) k

  abbrev tabs : Tables
  tabs = (work_of (schema_of b) a).tabs

  abbrev TakenBy : Row → SoughtKey → Type 0
  TakenBy x key = SoughtOf pairs.folded pairs.n pairs.cs pairs.ps x key

  abbrev TwinOf : Row → SoughtKey → Type 0
  TwinOf x key = SoughtOf pairs.folded pairs.n pairs.ps pairs.ps x key

  takes_with : (x : Row) → with_key (folds_in pairs.n pairs.folded) (take pairs.n pairs.cs) (take pairs.n pairs.ps) x ≡ takes (key_of (schema_of b) k) x
  unfolding with_key takes
  takes_with x =
      (λ i row. live row && same_key (c.folds_are i) (c.columns.child_is i) (c.columns.parents.parent_is i) row x)
      ∙ (λ i row. live row && sym (maps_plain K p.plain row x) i)

  twin_with : (x : Row) → with_key (folds_in pairs.n pairs.folded) (take pairs.n pairs.ps) (take pairs.n pairs.ps) x ≡ same_parent_key (key_of (schema_of b) k) x
  unfolding with_key
  twin_with x =
      (λ i row. live row && same_key (c.folds_are i) (c.columns.parents.parent_is i) (c.columns.parents.parent_is i) row x)
      ∙ (λ i row. sym (same_plain K p.plain x row) i)

  -- the child rows
  module _ {q : ℕ} (e : q ≡ (key_of (schema_of b) k).child) (rows : TableRows) (o : RowsOf b q rows) where
    child_there : q < length (schema_of b).tables
    child_there = rw e (child_table_lem b c.columns.parents.whole_key.accepted k c.columns.parents.whole_key.key)

    pub children_stand : Standing a rows
    children_stand = standing b a h.ready q child_there rows o

    pub children_sought : {x : Row} {key : SoughtKey} → TakenBy x key → (1 ≤ key.n) × SoughtIn rows.width key
    children_sought s = sought_ready s (some_columns b k pairs.n pairs.cs pairs.ps c.columns) (rw (o.width_is, e) c.columns.child_within)

    pub children_few : {m : ℕ} → m ≤ rows.count → m ≤ 1024
    children_few l = omega (arith, l, children_stand.few)

    children_are : rows_in a rows ≡ get_or (work_of (schema_of b) a).tabs (key_of (schema_of b) k).child []
    children_are = rows_are b a h.ready q child_there rows o ∙ ap (λ (n : ℕ). get_or tabs n []) e

    pub row_below : q ≡ t → r < rows.count
    row_below f = rw (o.count_is, f) h.row

    pub taken_others : q ≡ t → (x : Row) {key : SoughtKey} → TakenBy x key → count (has_sought key) (except r (rows_in a rows)) ≡ taken_rows (key_of (schema_of b) k) t r x (work_of (schema_of b) a).tabs
    unfolding taken_rows except_if
    taken_others f x s = rw (eq-eqb K.child t (sym e ∙ f)) (count_sought s (except r (rows_in a rows)) ∙ ap₂ (λ test l. count test (except r l)) (takes_with x) children_are)

    pub taken_all : (q ≡ t → ⊥) → (x : Row) {key : SoughtKey} → TakenBy x key → count (has_sought key) (rows_in a rows) ≡ taken_rows (key_of (schema_of b) k) t r x (work_of (schema_of b) a).tabs
    unfolding taken_rows except_if
    taken_all f x s = rw (ne_eqb K.child t (λ g. f (e ∙ g))) (count_sought s (rows_in a rows) ∙ ap₂ (λ test l. count test l) (takes_with x) children_are)

  -- the parent rows
  module _ (e : (key_of (schema_of b) k).parent ≡ t) (rows : TableRows) (o : RowsOf b t rows) where
    pub parents_stand : Standing a rows × (r < rows.count)
    parents_stand = (standing b a h.ready t h.table rows o, rw o.count_is h.row)

    pub parents_sought : {x : Row} {key : SoughtKey} → TwinOf x key → (1 ≤ key.n) × SoughtIn rows.width key
    parents_sought s = sought_ready s (some_columns b k pairs.n pairs.cs pairs.ps c.columns) (parent_in b k pairs.n pairs.ps c.columns.parents (sym e) o)

    pub twin_is : (x : Row) {key : SoughtKey} → TwinOf x key → any (has_sought key) (except r (rows_in a rows)) ≡ has_twin (key_of (schema_of b) k) r x (work_of (schema_of b) a).tabs
    unfolding has_twin
    twin_is x s =
        any_sought s (except r (rows_in a rows)) ∙ ap₂ (λ q l. any q (except r l)) (twin_with x) (rows_are b a h.ready t h.table rows o ∙ ap (λ q. get_or tabs q []) (sym e))
