-- The foreign keys that touch a table, as masks of their numbers.
-- Assumes nothing.
use Rattle.std.specs.Prelude.{◌≡◌, Bool, not, ◌&&◌, ◌||◌, List, ℕ, ◌<◌, eqb, length}
use Rattle.schema.specs.Bytes.{bit}
use Rattle.schema.specs.Marks.{marked}
use Rattle.schema.specs.Records.{ForeignKey, key_of}
use Rattle.schema.specs.Fields.{schema_of}
use Rattle.rules.specs.Keys.{uses}
use Rattle.table_keys.specs.declared.TableKeys.{TableKeys}

-- table t is the foreign key's child or its parent
unfoldable pub touches : ℕ → ForeignKey → Bool
touches t k = eqb k.child t || eqb k.parent t

-- it touches table t and is not broken
unfoldable pub whole_at : ℕ → ForeignKey → Bool
whole_at t k = touches t k && not k.broken

-- it touches table t and is broken
unfoldable pub broken_at : ℕ → ForeignKey → Bool
broken_at t k = touches t k && k.broken

-- it touches table t, is not broken and has a window
unfoldable pub window_at : ℕ → ForeignKey → Bool
window_at t k = whole_at t k && eqb (length k.windows) 1

-- it is broken, and used by the change of a row of table t that lives after it or not, and lived before it or not
unfoldable pub broken_used : Bool → ℕ → Bool → ForeignKey → Bool
broken_used lives t lived k = k.broken && uses lives t lived k

-- the mask has the foreign keys that touch table t and are not broken
pub record WholeKeys (b : List ℕ) (t m : ℕ) : Type 0 where
  pub each : (k : ℕ) → k < length (schema_of b).keys → bit k m ≡ whole_at t (key_of (schema_of b) k)

-- those that touch it and are broken
pub record BrokenKeys (b : List ℕ) (t m : ℕ) : Type 0 where
  pub each : (k : ℕ) → k < length (schema_of b).keys → bit k m ≡ broken_at t (key_of (schema_of b) k)

-- those that touch it, are not broken and have a window
pub record WindowKeys (b : List ℕ) (t m : ℕ) : Type 0 where
  pub each : (k : ℕ) → k < length (schema_of b).keys → bit k m ≡ window_at t (key_of (schema_of b) k)

-- masks with foreign key k, which touches the table, put in
unfoldable pub with_key : TableKeys → ℕ → ForeignKey → TableKeys
with_key x k key =
    record {
      whole = marked x.whole k (not key.broken);
      windowed = marked x.windowed k (not key.broken && eqb (length key.windows) 1);
      broken = marked x.broken k key.broken;
    }

pub record KeysOf (b : List ℕ) (t : ℕ) (x : TableKeys) : Type 0 where
  pub whole : WholeKeys b t x.whole
  pub windowed : WindowKeys b t x.windowed
  pub broken : BrokenKeys b t x.broken
