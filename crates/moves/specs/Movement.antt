-- By how much one row write moves the orphans of a foreign key, without counting the book.
-- Assumes nothing.
use Rattle.std.specs.Prelude.{◌≡◌, Bool, true, false, not, ◌&&◌, List, [], ◌∷◌, map, ℕ, ◌+◌, ◌<◌, eqb, ℤ, pos, ◌-ℤ◌, get_or, length, replicate}
use Rattle.schema.specs.Records.{ForeignKey, Schema}
use Rattle.rules.specs.Lists.{𝟘, any, count, except, one, padded, plus}
use Rattle.rules.specs.Rows.{Row, Tables, row_at, put_row}
use Rattle.rules.specs.Keys.{due, serves, orphan, counts}

-- n where the test holds
unfoldable pub pick : Bool → ℕ → ℕ
pick true n = n
pick false n = 0

module _ {A : Type 0} where
  unfoldable pub except_if : Bool → ℕ → List A → List A
  except_if true r xs = except r xs
  except_if false r xs = xs

-- neither y nor one of the others serves child row c
unfoldable pub unserved : ForeignKey → Row → List Row → Row → Bool
unserved k y others c = not (serves k c y) && not (any (serves k c) others)

-- child row c needs a parent, x serves it, y does not, and none of the others does
unfoldable pub stranded : ForeignKey → Row → Row → List Row → Row → Bool
stranded k x y others c = due k c && (serves k c x && unserved k y others c)

-- the written row as a child: 1 where it is an orphan
unfoldable pub own_orphan : ForeignKey → ℕ → Row → Tables → ℕ
own_orphan k t x tabs = pick (eqb k.child t) (one (orphan k (get_or tabs k.parent []) x))

module _ (k : ForeignKey) (t r : ℕ) where
  -- the written row as a parent: the other child rows that are stranded when row r of table t turns from x to y
  unfoldable pub stranded_rows : Row → Row → Tables → ℕ
  stranded_rows x y tabs =
      pick (eqb k.parent t)
      (count (stranded k x y (except r (get_or tabs k.parent []))) (except_if (eqb k.child t) r (get_or tabs k.child [])))

  -- the movement: the row's old words are x in the tables before, the new ones y in those after
  unfoldable pub movement : Row → Row → Tables → Tables → ℤ
  movement x y tabs tabs' = pos (stranded_rows x y tabs + own_orphan k t y tabs') -ℤ pos (stranded_rows y x tabs + own_orphan k t x tabs)

-- of foreign keys 0 to 31, when row r of table t becomes y
unfoldable pub movements : Schema → ℕ → ℕ → Row → Tables → List ℤ
movements s t r y tabs = padded 32 (map (λ k. movement k t r (row_at t r tabs) y tabs (put_row t r y tabs)) s.keys)

-- a tally tells how the counts moved
pub record Tells (s : Schema) (tabs tabs' : Tables) (m : List ℤ) : Type 0 where
  pub size : length m ≡ 32
  pub told : plus (counts s tabs) m ≡ counts s tabs'

-- writes one after the other, and their movements added up
pub record RowWrite : Type 0 where
  pub table : ℕ
  pub row : ℕ
  pub words : Row

unfoldable pub writes : List RowWrite → Tables → Tables
writes [] tabs = tabs
writes (w ∷ ws) tabs = writes ws (put_row w.table w.row w.words tabs)

unfoldable pub movements_of : Schema → List RowWrite → Tables → List ℤ
movements_of s [] tabs = replicate 32 𝟘
movements_of s (w ∷ ws) tabs = plus (movements s w.table w.row w.words tabs) (movements_of s ws (put_row w.table w.row w.words tabs))

-- each write is in its table
unfoldable pub InTables : List RowWrite → Tables → Type 0
InTables [] tabs = Unit
InTables (w ∷ ws) tabs = (w.row < length (get_or tabs w.table [])) × InTables ws (put_row w.table w.row w.words tabs)
