-- The schema that bytes are, where the bytes break no rule of refusal 1. Assumes nothing.
use Rattle.std.specs.Prelude.{Err}
use mathlib.Core.Path.{◌≡◌, refl}
use mathlib.Core.Bool.{Bool, true, false, cond}
use mathlib.Core.List.{List}
use Prim.Native.Nat.{ℕ, ◌<◌, ◌≤◌}
use native.Mathlib.Omega.{arith}
use borrow.Author.Tests.{le-leb}
use lib.Dec.{leb}
use lib.ListN.{length}
use Rattle.schema.specs.Check.{Accepted}
use Rattle.schema.specs.declared.SchemaError.TheVariants.{Malformed}
use Rattle.schema.specs.Ranges.{all}
use Rattle.schema.specs.Records.{Schema, no_table, no_key, table_of, key_of}
use Rattle.schema.specs.Fields
use Rattle.schema.specs.Fields.{table_from, key_from, schema_of}
use Rattle.schema.specs.Check
use Rattle.schema.proofs.Formed.{formed}
use Rattle.schema.proofs.ListLaws.{length_from, get_list, all_list}

-- what the theorems on the rules need of a schema
pub record Valid (s : Schema) : Type 0 where
  pub few : length s.keys ≤ 32
  pub narrow : all (λ t. leb t.columns 8) s.tables ≡ true
  pub short : all (λ t. leb t.rows 1024) s.tables ≡ true

module _ (bs : List ℕ) where
  pub tables_are : length (schema_of bs).tables ≡ Fields.table_count bs
  unfolding schema_of
  tables_are = length_from (table_from bs) (Fields.table_count bs) 0

  pub keys_are : length (schema_of bs).keys ≡ Fields.key_count bs
  unfolding schema_of
  keys_are = length_from (key_from bs) (Fields.key_count bs) 0

  pub room_is : (schema_of bs).room ≡ Fields.room_of bs
  unfolding schema_of
  room_is = refl

  pub table_is : (t : ℕ) → t < length (schema_of bs).tables → table_of (schema_of bs) t ≡ table_from bs t
  unfolding schema_of
  table_is t h = get_list (table_from bs) (Fields.table_count bs) t no_table (omega (arith, tables_are))

  pub key_is : (k : ℕ) → k < length (schema_of bs).keys → key_of (schema_of bs) k ≡ key_from bs k
  unfolding schema_of
  key_is k h = get_list (key_from bs) (Fields.key_count bs) k no_key (omega (arith, keys_are))

  module _ (w : Check.well_formed bs ≡ true) where
    pub valid : Valid (schema_of bs)
    unfolding schema_of table_from
    valid =
        let f = formed bs w in
        record {
          few = omega (arith, keys_are, f.header);
          narrow = all_list (table_from bs) (λ t. leb t.columns 8) (Fields.table_count bs) (λ t h. le-leb (Fields.columns_of bs t) 8 (f.table t h).sizes.columns.high);
          short = all_list (table_from bs) (λ t. leb t.rows 1024) (Fields.table_count bs) (λ t h. le-leb (Fields.rows_of bs t) 1024 (f.table t h).sizes.rows.high);
        }

-- an accepted schema breaks no rule of refusal 1
module _ (bs : List ℕ) (e : Check.check_schema bs ≡ Accepted) where
  well : (a : Bool) → cond a Accepted (Err Malformed) ≡ Accepted → a ≡ true
  well true h = refl
  well false h = let z : ◌≡◌ {A = ℕ} 0 1 = cc in absurd (omega arith)

  pub accepted_formed : Check.well_formed bs ≡ true
  unfolding Check.check_schema
  accepted_formed = well (Check.well_formed bs) e

  pub accepted_valid : Valid (schema_of bs)
  accepted_valid = valid bs accepted_formed
