-- The columns of keys, as arrays.
-- Assumes nothing.
use Rattle.std.specs.Prelude.{◌≡◌, Bool, false, List, [], ℕ, suc, ◌<◌, length, get_or, take, EachIndex}
use Rattle.schema.specs.Check.{Accepted, check_schema}
use Rattle.schema.specs.Bounds.{Columns}
use Rattle.schema.specs.Bytes.{bit}
use Rattle.schema.specs.Ranges.{list_from}
use Rattle.schema.specs.Records.{table_of, key_of}
use Rattle.schema.specs.Fields.{schema_of}
use Rattle.rules.specs.Keys.{mask_columns}
use Rattle.rows.specs.declared.KeyPairs.{KeyPairs}

-- which of n places are folded, by the bits of a number
unfoldable pub folds_in : ℕ → ℕ → List Bool
folds_in n f = list_from (λ i. bit i f) n 0

-- columns that an image has
abbrev pub OfImage : List ℕ → Type 0
OfImage cs = EachIndex cs (λ i. get_or cs i 0 < 8)

-- foreign key k of an accepted schema is not broken
pub record WholeKey (b : List ℕ) (k : ℕ) : Type 0 where
  pub accepted : check_schema b ≡ Accepted
  pub key : k < length (schema_of b).keys
  pub whole : (key_of (schema_of b) k).broken ≡ false

-- and has no window
pub record PlainKey (b : List ℕ) (k : ℕ) : Type 0 where
  pub whole_key : WholeKey b k
  pub plain : (key_of (schema_of b) k).windows ≡ []

-- and table t is its parent
pub record PlainParent (b : List ℕ) (t k : ℕ) : Type 0 where
  pub plain_key : PlainKey b k
  pub parent_is : (key_of (schema_of b) k).parent ≡ t

-- the parent columns of its pairs: n of them, at the start of ps
pub record ParentColumns (b : List ℕ) (k n : ℕ) (ps : List ℕ) : Type 0 where
  pub whole_key : WholeKey b k
  pub parent_is : take n ps ≡ (key_of (schema_of b) k).parent_columns
  pub parent_within : Columns (suc (table_of (schema_of b) (key_of (schema_of b) k).parent).columns) n ps

-- its pairs: n child columns at the start of cs, and the parent columns
pub record PairColumns (b : List ℕ) (k n : ℕ) (cs ps : List ℕ) : Type 0 where
  pub parents : ParentColumns b k n ps
  pub child_is : take n cs ≡ (key_of (schema_of b) k).child_columns
  pub child_within : Columns (suc (table_of (schema_of b) (key_of (schema_of b) k).child).columns) n cs

-- its column pairs, and which of them are folded
pub record KeyColumns (b : List ℕ) (k : ℕ) (x : KeyPairs) : Type 0 where
  pub columns : PairColumns b k x.n x.cs x.ps
  pub folds_are : folds_in x.n x.folded ≡ (key_of (schema_of b) k).folds

-- each column of a mask is in a row of w words
pub record MaskWithin (w m : ℕ) : Type 0 where
  pub within : (i : ℕ) → i < length (mask_columns m) → suc (get_or (mask_columns m) i 0) < w
