-- A key that rows are searched for, as plain values.
-- Assumes nothing.
use Rattle.std.specs.Prelude.{◌≡◌, Bool, false, ◌&&◌, List, [], ◌∷◌, ℕ, ◌<◌, ℤ, length, get_or, take, drop}
use Rattle.schema.specs.Bounds.{Columns}
use Rattle.schema.specs.Bytes.{bit}
use Rattle.rules.specs.Lists.{𝟘}
use Rattle.rules.specs.Values.{folded}
use Rattle.rules.specs.Rows.{Row, live}
use Rattle.rules.specs.Keys.{same_key}
use Rattle.rules.specs.Found.{cell_is}
use Rattle.rules.specs.KeyValues.{key_values, has_key}
use Rattle.rows.specs.declared.SoughtKey.{SoughtKey}
use Rattle.rows.specs.KeyColumns.{folds_in}

-- a live row with the value v in column c, which is not folded
unfoldable pub has_value : ℕ → ℤ → Row → Bool
has_value c v row = live row && cell_is false false v c row

-- a sought key: which of its columns are compared folded, its columns in the rows that are searched, and the values that they must have
abbrev pub sought_folds : SoughtKey → List Bool
sought_folds key = folds_in key.n key.folded

abbrev pub sought_columns : SoughtKey → List ℕ
sought_columns key = take key.n key.cs

abbrev pub sought_values : SoughtKey → List ℤ
sought_values key = take key.n key.vs

-- a live row that has it
unfoldable pub has_sought : SoughtKey → Row → Bool
has_sought key row = has_key (sought_folds key) (sought_columns key) (sought_values key) row

-- values as their columns compare them, folded where fs says so
unfoldable pub compared_values : List Bool → List ℤ → List ℤ
compared_values fs [] = []
compared_values fs (v ∷ vs) = folded (get_or fs 0 false) v ∷ compared_values (drop 1 fs) vs

-- its columns are in rows of w words, and its values are as these compare them
pub record SoughtIn (w : ℕ) (key : SoughtKey) : Type 0 where
  pub columns : Columns w key.n key.cs
  pub size : length key.vs ≡ 8
  pub compared : (i : ℕ) → i < key.n → folded (bit i key.folded) (get_or key.vs i 𝟘) ≡ get_or key.vs i 𝟘

-- a live row whose key in columns cs is that of an image in columns ds
unfoldable pub with_key : List Bool → List ℕ → List ℕ → Row → Row → Bool
with_key fs cs ds image row = live row && same_key fs cs ds row image

-- it is the key of an image, which has no NULL in it: n columns, at the start of ds in the image, of cs in the rows that are searched; folded where the bits of f say so
pub record SoughtOf (f n : ℕ) (cs ds : List ℕ) (image : Row) (key : SoughtKey) : Type 0 where
  pub folded_is : key.folded ≡ f
  pub width_is : key.n ≡ n
  pub columns_are : key.cs ≡ cs
  pub values_are : take n key.vs ≡ compared_values (folds_in n f) (key_values (take n ds) image)
  pub size : length key.vs ≡ 8
  pub same : (row : Row) → has_sought key row ≡ with_key (folds_in n f) (take n cs) (take n ds) image row
