-- A key as plain values: "for any old key given as plain values .., a child row is found at its turn exactly if it is live and has that key".
-- Assumes nothing.
use Rattle.std.specs.Prelude.{Bool, true, false, not, ◌&&◌, List, [], ◌∷◌, map, ℕ, suc, ℤ, length, get_or, drop}
use Rattle.schema.specs.Ranges.{all}
use Rattle.schema.specs.Records.{Window, ForeignKey, Schema}
use Rattle.rules.specs.Rows.{Row, Tables, row_at, image, live, null_at, value_at}
use Rattle.rules.specs.Lists.{𝟘}
use Rattle.rules.specs.Keys.{is_within}
use Rattle.rules.specs.Book.{Work}
use Rattle.rules.specs.Change.{Change, Result, given, in_turn, taken, action_of}
use Rattle.rules.specs.Found.{cell_is}

-- the values of a row in columns cs
unfoldable pub key_values : List ℕ → Row → List ℤ
key_values cs row = map (value_at row) cs

-- columns cs hold the values vs, compared folded where fs says so, and none of them is NULL
unfoldable pub holds_key : List Bool → List ℕ → List ℤ → Row → Bool
holds_key fs [] vs row = true
holds_key fs (c ∷ cs) [] row = true
holds_key fs (c ∷ cs) (v ∷ vs) row = cell_is (get_or fs 0 false) false v c row && holds_key (drop 1 fs) cs vs row

-- the row "is live and has that key"
unfoldable pub has_key : List Bool → List ℕ → List ℤ → Row → Bool
has_key fs cs vs row = live row && holds_key fs cs vs row

-- the row's day is in the window whose first day and end stand behind n values
unfoldable pub holds_day : ℕ → List ℤ → Row → Window → Bool
holds_day n vs row w = not (null_at row w.day) && is_within (get_or vs n 𝟘) (get_or vs (suc n) 𝟘) (value_at row w.day)

-- the row has the values vs in the child columns; of a windowed key, its day is in their window
unfoldable pub has_old_key : ForeignKey → List ℤ → Row → Bool
has_old_key k vs row = has_key k.folds k.child_columns vs row && all (holds_day (length k.child_columns) vs row) k.windows

-- child row i has them
unfoldable pub child_has_key : ForeignKey → List ℤ → Tables → ℕ → Bool
child_has_key k vs tabs i = has_old_key k vs (row_at k.child i tabs)

-- `row_turn` and `children` of a row change, with the values of the old key in place of the old row
module _ (change : Change) (s : Schema) (new : Row) where
  unfoldable pub turn_by_values : ForeignKey → List ℤ → ℕ → Work → Result
  turn_by_values k vs i w = given (child_has_key k vs w.tabs i) (taken change s new (action_of new k) k i (image k.child i w.tabs)) w

  unfoldable pub children_by_values : ForeignKey → List ℤ → List ℕ → Work → Result
  children_by_values k vs = in_turn (turn_by_values k vs)
