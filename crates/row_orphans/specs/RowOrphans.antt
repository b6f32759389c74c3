-- The orphans that a row makes by having one image and not another.
-- Assumes nothing.
use Rattle.std.specs.Prelude.{◌≡◌, Bool, true, false, List, [], map, ℕ, ◌+◌, eqb, ℤ, pos, get_or}
use Rattle.schema.specs.Records.{ForeignKey, Schema}
use Rattle.rules.specs.Lists.{any, count, padded, except}
use Rattle.rules.specs.Rows.{Row, Tables}
use Rattle.rules.specs.Keys.{takes, same_parent_key}
use Rattle.moves.specs.Movement.{except_if, own_orphan, stranded_rows}
use Rattle.rows.specs.KeyColumns.{WholeKey, PlainKey}
use Rattle.windows.specs.WindowKey.{WindowedKey}

module _ (k : ForeignKey) (t r : ℕ) where
  -- the child rows, but for row r of table t, that have x's parent key
  unfoldable pub taken_rows : Row → Tables → ℕ
  taken_rows x tabs = count (takes k x) (except_if (eqb k.child t) r (get_or tabs k.child []))

  -- row r of table t has x, and not y: the row itself, and the child rows that y would serve
  unfoldable pub row_orphans : Row → Row → Tables → ℕ
  row_orphans x y tabs = stranded_rows k t r y x tabs + own_orphan k t x tabs

-- a parent row other than row r has x's parent key
unfoldable pub has_twin : ForeignKey → ℕ → Row → Tables → Bool
has_twin k r x tabs = any (same_parent_key k x) (except r (get_or tabs k.parent []))

-- of foreign keys 0 to 31
unfoldable pub row_counts : Schema → ℕ → ℕ → Row → Row → Tables → List ℤ
row_counts s t r x y tabs = padded 32 (map (λ k. pos (row_orphans k t r x y tabs)) s.keys)

-- foreign key k of an accepted schema is not broken, and has a window or none
pub record KindOf (b : List ℕ) (k : ℕ) (windowed : Bool) : Type 0 where
  pub whole_key : WholeKey b k
  pub plain : windowed ≡ false → PlainKey b k
  pub window : windowed ≡ true → WindowedKey b k
