-- The child rows that an action goes through: where they stand, and which of them have the old key.
-- Assumes nothing.
use mathlib.Core.Path.{◌≡◌, sym, ap, ap₂, ◌∙◌}
use mathlib.Core.Bool.{Bool, true, ◌&&◌, and-true}
use mathlib.Core.List.{List, []}
use Prim.Native.Nat.{ℕ, ◌+◌, ◌*◌, ◌≤◌, ◌<◌}
use lib.IntN.{ℤ}
use lib.ListN.{length, get_or, take, drop}
use Rattle.schema.specs.declared.Action.{Action}
use Rattle.schema.specs.Ranges.{all}
use Rattle.schema.specs.Records.{ForeignKey, Schema, table_of, key_of}
use Rattle.schema.specs.Fields.{schema_of}
use Rattle.rules.specs.Lists.{padded}
use Rattle.rules.specs.Rows.{Row, Tables, row_at, image, live}
use Rattle.rules.specs.Book.{Work}
use Rattle.rules.specs.Change.{Change, given, in_turn, taken, action_of}
use Rattle.rules.specs.KeyValues.{key_values, has_key, has_old_key, child_has_key, turn_by_values, children_by_values}
use Rattle.bridge.specs.Fit.{work_of}
use Rattle.bridge.specs.Ready.{Ready, row_in}
use Rattle.bridge.proofs.MapLaws.{parent_plain}
use Rattle.rows.specs.declared.SoughtKey.{SoughtKey}
use Rattle.rows.specs.declared.TableRows.{TableRows}
use Rattle.rows.specs.Standing.{RowAt, Standing, rows_in, RowsOf, PlacedAt}
use Rattle.rows.specs.declared.KeyPairs.{KeyPairs}
use Rattle.rows.specs.KeyColumns.{KeyColumns}
use Rattle.rows.specs.Sought.{sought_values, compared_values, has_sought, SoughtIn, SoughtOf}
use Rattle.rows.proofs.FoldLaws.{holds_compared}
use Rattle.rows.proofs.SoughtLaws.{sought_in}
use Rattle.rows.proofs.TableLaws.{child_table_lem, rows_are, standing, placed_at, row_in_lem, row_stands}
use Rattle.scans.specs.FirstFrom.{FirstFrom, FirstRow}
use Rattle.scans.proofs.FirstLaws.{at_turn, passes_at_turn}
use Rattle.constraints.proofs.ServedLaws.{some_columns}
use Rattle.change_parts.specs.declared.Followers.{Followers}
use Rattle.change_parts.specs.Turns.{old_key, FollowersOf}

pub followers_are : (b : List ℕ) (k : ℕ) (old new : Row) {t : ℕ} {rows : TableRows} {pairs : KeyPairs} {key : SoughtKey} {act : Action} → KeyColumns b k pairs → (key_of (schema_of b) k).windows ≡ [] → t ≡ (key_of (schema_of b) k).child → RowsOf b t rows → SoughtOf pairs.folded pairs.n pairs.cs pairs.ps old key → act ≡ action_of new (key_of (schema_of b) k)
    → FollowersOf b k new (record { table = t; rows = rows; key = key; ps = pairs.ps; action = act }) × (sought_values key ≡ old_key (key_of (schema_of b) k) old)
unfolding old_key
followers_are b k old new {key = key} c none e o s a = (
  record {
    columns = rw (s.folded_is, s.width_is, s.columns_are) c;
    plain = none;
    sought = sought_in (rw (o.width_is, e) c.columns.child_within) s;
    table_is = e;
    stand = o;
    action_is = a;
  },
  ap (λ (m : ℕ). take m key.vs) s.width_is
      ∙ s.values_are
      ∙ ap₂ compared_values c.folds_are (ap (λ (l : List ℕ). key_values l old) (c.columns.parents.parent_is ∙ sym (parent_plain (key_of (schema_of b) k) none))),
)

-- ---- without a window: the pairs alone are asked
old_plain : (k : ForeignKey) → k.windows ≡ [] → (vs : List ℤ) (row : Row) → has_old_key k vs row ≡ has_key k.folds k.child_columns vs row
unfolding has_old_key all
old_plain k plain vs row = rw plain (and-true (has_key k.folds k.child_columns vs row))

-- ---- values as they are compared: the same child rows have them
module _ (k : ForeignKey) (plain : k.windows ≡ []) (vs : List ℤ) where
  pub old_compared : (row : Row) → has_old_key k (compared_values k.folds vs) row ≡ has_old_key k vs row
  unfolding has_key
  old_compared row =
      old_plain k plain (compared_values k.folds vs) row
      ∙ ap (λ (b : Bool). live row && b) (holds_compared row k.folds k.child_columns vs)
      ∙ sym (old_plain k plain vs row)

  child_compared : (tabs : Tables) (i : ℕ) → child_has_key k (compared_values k.folds vs) tabs i ≡ child_has_key k vs tabs i
  unfolding child_has_key
  child_compared tabs i = old_compared (row_at k.child i tabs)

  -- so the same are gone through
  pub children_compared : (change : Change) (s : Schema) (new : Row) (is : List ℕ) (w : Work) → children_by_values change s new k (compared_values k.folds vs) is w ≡ children_by_values change s new k vs is w
  unfolding children_by_values turn_by_values
  children_compared change s new is w =
      λ j. in_turn (λ i v. given (child_compared v.tabs i j) (taken change s new (action_of new k) k i (image k.child i v.tabs)) v) is w

module _ (b : List ℕ) (a : List ℤ) (r : Ready b a) (k : ℕ) (new : Row) (x : Followers) (f : FollowersOf b k new x) where
  pub table_there : x.table < length (schema_of b).tables
  table_there = rw f.table_is (child_table_lem b r.accepted k f.columns.columns.parents.whole_key.key)

  -- what the search for the next row requires
  pub search_ready : Standing a x.rows × ((1 ≤ x.key.n) × SoughtIn x.rows.width x.key)
  search_ready = (
    standing b a r x.table table_there x.rows f.stand,
    (some_columns b k x.key.n x.key.cs x.ps f.columns.columns, f.sought),
  )

  pub rows_many : x.rows.count ≡ (table_of (schema_of b) (key_of (schema_of b) k).child).rows
  rows_many = f.stand.count_is ∙ ap (λ (u : ℕ). (table_of (schema_of b) u).rows) f.table_is

  -- child row j has the old key: its values, as they were typed or as they are compared
  abbrev HasOldKey : List ℤ → ℕ → Bool
  HasOldKey vs = child_has_key (key_of (schema_of b) k) vs (work_of (schema_of b) a).tabs

  -- what it finds: of the area the child table's rows matter and nothing else, of the old row the values
  found_pairs : {from i : ℕ} → FirstRow (has_sought x.key) a x.rows from i → FirstFrom (λ j. has_key (key_of (schema_of b) k).folds (key_of (schema_of b) k).child_columns (sought_values x.key) (row_at (key_of (schema_of b) k).child j (work_of (schema_of b) a).tabs)) x.rows.count from i
  unfolding has_sought row_at
  found_pairs h =
      let q : rows_in a x.rows ≡ get_or (work_of (schema_of b) a).tabs (key_of (schema_of b) k).child [] = rows_are b a r x.table table_there x.rows f.stand ∙ ap (λ (u : ℕ). get_or (work_of (schema_of b) a).tabs u []) f.table_is in
      rw (q, f.columns.columns.child_is, f.columns.folds_are) at h

  pub found_first : {from i : ℕ} → FirstRow (has_sought x.key) a x.rows from i → FirstFrom (HasOldKey (sought_values x.key)) x.rows.count from i
  unfolding child_has_key
  found_first h =
      let g = found_pairs h in
      record {
        low = g.low;
        high = g.high;
        skipped = λ j p q. old_plain (key_of (schema_of b) k) f.plain (sought_values x.key) _ ∙ g.skipped j p q;
        found = λ l. old_plain (key_of (schema_of b) k) f.plain (sought_values x.key) _ ∙ g.found l;
      }

  -- so, for any values, in any area that is not refused, whatever the parent's row and the journal hold: the search that begins at row j, at its turn, finds it exactly if it is live, has no NULL in its child key and holds the values
  pub found_at_turn : (vs : List ℤ) → sought_values x.key ≡ compared_values (key_of (schema_of b) k).folds vs → (j : ℕ) → j < x.rows.count → {i : ℕ} → FirstRow (has_sought x.key) a x.rows j i → (i ≡ j → HasOldKey vs j ≡ true) × (HasOldKey vs j ≡ true → i ≡ j)
  found_at_turn vs e j l h =
      let g = found_first h in
      let same : HasOldKey (sought_values x.key) j ≡ HasOldKey vs j = ap (λ (us : List ℤ). HasOldKey us j) e ∙ child_compared (key_of (schema_of b) k) f.plain vs (work_of (schema_of b) a).tabs j in
      (λ p. sym same ∙ at_turn l g p, λ p. passes_at_turn l g (same ∙ p))

  -- row j of them
  module _ (j : ℕ) (l : j < (table_of (schema_of b) x.table).rows) where
    placed : PlacedAt b a x.table j (x.rows.start + j * x.rows.width) x.rows.width
    placed = placed_at b a r x.table table_there x.rows f.stand j (rw f.stand.count_is l)

    pub child_stands : RowAt a (x.rows.start + j * x.rows.width) x.rows.width
    child_stands = row_stands b a x.table j (x.rows.start + j * x.rows.width) x.rows.width placed

    pub child_image_lem : {y : Row} → y ≡ padded 9 (take x.rows.width (drop (x.rows.start + j * x.rows.width) a)) → y ≡ image x.table j (work_of (schema_of b) a).tabs
    unfolding image row_in
    child_image_lem e = e ∙ ap (padded 9) (row_in_lem b a x.table j (x.rows.start + j * x.rows.width) x.rows.width placed)
