-- The rows of a foreign key, and the columns of its keys.
-- Assumes nothing.
use Rattle.std.specs.Prelude.{◌≡◌, true, Some, None, List, ℕ, ◌<◌, length}
use Rattle.schema.specs.Records.{key_of}
use Rattle.schema.specs.Fields.{schema_of}
use Rattle.rows.specs.Standing.{RowsOf}
use Rattle.rows.specs.KeyColumns.{WholeKey, PlainKey, KeyColumns}
use Rattle.std.specs.declared.option.Option.{Option}
use Rattle.windows.specs.WindowKey.{WindowColumns}
use Rattle.orphans.specs.declared.KeyKind.{KeyKind}
use Rattle.orphans.specs.declared.KeyKind.TheVariants.{Plain, Windowed}
use Rattle.orphans.specs.declared.KeyRows.{KeyRows}

-- the columns of foreign key k: its pairs, where it has no window, or those with its window
unfoldable pub ColumnsOf : List ℕ → ℕ → KeyKind → Type 0
ColumnsOf b k (Plain pairs) = KeyColumns b k pairs × PlainKey b k
ColumnsOf b k (Windowed key) = WindowColumns b k key

-- those of foreign key k, which is not broken
pub record KeyRowsOf (b : List ℕ) (k : ℕ) (x : KeyRows) : Type 0 where
  pub whole_key : WholeKey b k
  pub columns : ColumnsOf b k x.columns
  pub children : RowsOf b (key_of (schema_of b) k).child x.children
  pub parents : RowsOf b (key_of (schema_of b) k).parent x.parents

-- they are those of foreign key k; of a broken one there are none
abbrev pub RowsIfWhole : List ℕ → ℕ → Option KeyRows → Type 0
RowsIfWhole b k (Some x) = KeyRowsOf b k x
RowsIfWhole b k None = (key_of (schema_of b) k).broken ≡ true

-- what is searched for orphans of foreign key k
pub record Searched (b : List ℕ) (k : ℕ) (x : Option KeyRows) : Type 0 where
  pub key : k < length (schema_of b).keys
  pub rows : RowsIfWhole b k x
