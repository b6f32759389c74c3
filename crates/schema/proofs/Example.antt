-- The schema S of the paper's example: its bytes are accepted, and are that schema. Assumes nothing.
use Rattle.std.specs.Prelude.{Err}
use mathlib.Core.Path.{◌≡◌, refl}
use mathlib.Core.Bool.{Bool, true, false}
use mathlib.Core.List.{List, [], ◌∷◌, map}
use Prim.Native.Nat.{ℕ}
use lib.IntN.{pos}
use lib.ListN.{replicate, set}
use Rattle.schema.specs.declared.Action.TheVariants.{Cascade}
use Rattle.schema.specs.declared.Match.TheVariants.{Simple}
use Rattle.schema.specs.Check.{SchemaAnswer, Accepted, check_schema}
use Rattle.schema.specs.declared.SchemaError.TheVariants.{Malformed}
use Rattle.schema.specs.Ranges.{all_from, any_from, and_all, every, list_from}
use Rattle.schema.specs.Records.{Schema, key_of}
use Rattle.schema.specs.Bytes
use Rattle.schema.specs.Fields
use Rattle.schema.specs.Fields.{schema_of}
use Rattle.schema.specs.Check
use Rattle.schema.specs.Sizes

pub bytes_s : List ℕ
bytes_s =
    70 ∷ 75 ∷ 66 ∷ 49 ∷ 2 ∷ 0 ∷ 1 ∷ 0 ∷ 16 ∷ 0 ∷ 176 ∷ 0 ∷ 8 ∷ 0 ∷ 192 ∷ 0
    ∷ 4 ∷ 0 ∷ 1 ∷ 1 ∷ 1 ∷ 0 ∷ 0 ∷ 0 ∷ 0 ∷ 0 ∷ 0 ∷ 0 ∷ 0 ∷ 0 ∷ 0 ∷ 0
    ∷ 0 ∷ 0 ∷ 0 ∷ 0 ∷ 0 ∷ 0 ∷ 0 ∷ 0 ∷ 0 ∷ 0 ∷ 0 ∷ 0 ∷ 0 ∷ 0 ∷ 0 ∷ 0
    ∷ 0 ∷ 0 ∷ 0 ∷ 0 ∷ 0 ∷ 0 ∷ 0 ∷ 0 ∷ 0 ∷ 0 ∷ 0 ∷ 0 ∷ 0 ∷ 0 ∷ 0 ∷ 0
    ∷ 0 ∷ 0 ∷ 0 ∷ 0 ∷ 0 ∷ 0 ∷ 0 ∷ 0 ∷ 0 ∷ 0 ∷ 0 ∷ 0 ∷ 0 ∷ 0 ∷ 0 ∷ 0
    ∷ 0 ∷ 0 ∷ 0 ∷ 0 ∷ 0 ∷ 0 ∷ 0 ∷ 0 ∷ 0 ∷ 0 ∷ 0 ∷ 0 ∷ 0 ∷ 0 ∷ 0 ∷ 0
    ∷ 4 ∷ 0 ∷ 2 ∷ 1 ∷ 1 ∷ 0 ∷ 0 ∷ 0 ∷ 0 ∷ 0 ∷ 0 ∷ 0 ∷ 0 ∷ 0 ∷ 0 ∷ 0
    ∷ 0 ∷ 0 ∷ 0 ∷ 0 ∷ 0 ∷ 0 ∷ 0 ∷ 0 ∷ 0 ∷ 0 ∷ 0 ∷ 0 ∷ 0 ∷ 0 ∷ 0 ∷ 0
    ∷ 0 ∷ 0 ∷ 0 ∷ 0 ∷ 0 ∷ 0 ∷ 0 ∷ 0 ∷ 0 ∷ 0 ∷ 0 ∷ 0 ∷ 0 ∷ 0 ∷ 0 ∷ 0
    ∷ 0 ∷ 0 ∷ 0 ∷ 0 ∷ 0 ∷ 0 ∷ 0 ∷ 0 ∷ 0 ∷ 0 ∷ 0 ∷ 0 ∷ 0 ∷ 0 ∷ 0 ∷ 0
    ∷ 0 ∷ 0 ∷ 0 ∷ 0 ∷ 0 ∷ 0 ∷ 0 ∷ 0 ∷ 0 ∷ 0 ∷ 0 ∷ 0 ∷ 0 ∷ 0 ∷ 0 ∷ 0
    ∷ 1 ∷ 0 ∷ 1 ∷ 4 ∷ 4 ∷ 1 ∷ 1 ∷ 255 ∷ 255 ∷ 255 ∷ 0 ∷ 255 ∷ 255 ∷ 255 ∷ 0 ∷ 0
    ∷ []

pub schema_s : Schema
schema_s =
    record {
      tables =
          record { rows = 4; columns = 1; not_null = 1; uniques = 1 ∷ 0 ∷ 0 ∷ 0 ∷ []; default_null = 0; folded = 0; defaults = replicate 8 (pos 0) }
          ∷ record { rows = 4; columns = 2; not_null = 1; uniques = 1 ∷ 0 ∷ 0 ∷ 0 ∷ []; default_null = 0; folded = 0; defaults = replicate 8 (pos 0) }
          ∷ [];
      keys = record { child = 1; parent = 0; deferred = true; on_delete = Cascade; on_update = Cascade; child_columns = 1 ∷ []; parent_columns = 0 ∷ []; match = Simple; broken = false; folds = false ∷ []; windows = [] } ∷ [];
      room = 8;
    }

pub s_accepted : check_schema bytes_s ≡ Accepted
unfolding check_schema Check.well_formed Check.header_rules Check.starts_with Check.header_rest Check.table_rules Check.size_rules Check.table_rest Check.mask_rule Check.key_rules Check.code_rules Check.windowed_rule Check.key_rest Fields.column_rule Check.columns_rule Check.new_column Bytes.bit all_from every and_all bytes_s
s_accepted = refl

pub s_is : schema_of bytes_s ≡ schema_s
unfolding schema_of Fields.table_from Fields.key_from Fields.action_from Fields.match_from Fields.column_rule Fields.unique_is Fields.has_parent_key Fields.has_end Fields.is_broken Fields.key_folds Fields.key_windows Bytes.column_mask Bytes.folds_of Bytes.bit all_from any_from list_from bytes_s schema_s
s_is = refl

pub s_size : Sizes.area_size schema_s ≡ 433
unfolding Sizes.area_size Sizes.rows_size Sizes.table_size schema_s
s_size = refl

-- S with bytes of its foreign key's record, or of table 0's first unique key, changed: every one is accepted
pub drawn : List (List ℕ)
drawn = bytes_s ∷ set bytes_s 177 2 ∷ set bytes_s 177 255 ∷ set bytes_s 186 1 ∷ set bytes_s 186 255 ∷ set bytes_s 20 0 ∷ []

pub half_drawn : map check_schema drawn ≡ replicate 6 Accepted
unfolding check_schema Check.well_formed Check.header_rules Check.starts_with Check.header_rest Check.table_rules Check.size_rules Check.table_rest Check.mask_rule Check.key_rules Check.code_rules Check.windowed_rule Check.key_rest Fields.column_rule Check.columns_rule Check.new_column Bytes.bit all_from every and_all drawn bytes_s
half_drawn = refl

-- and its key is broken where the parent table is past the tables, a parent column past its columns, or there is no such unique key
pub broken_keys_lem : map (λ (bs : List ℕ). (key_of (schema_of bs) 0).broken) drawn ≡ false ∷ replicate 5 true
unfolding schema_of Fields.table_from Fields.key_from Fields.action_from Fields.match_from Fields.column_rule Fields.unique_is Fields.has_parent_key Fields.has_end Fields.is_broken Bytes.column_mask all_from any_from list_from drawn bytes_s
broken_keys_lem = refl

-- a match that is none
pub match_2 : check_schema (set bytes_s 190 2) ≡ Err Malformed
unfolding check_schema Check.well_formed Check.header_rules Check.starts_with Check.header_rest Check.table_rules Check.size_rules Check.table_rest Check.mask_rule Check.key_rules Check.code_rules Check.windowed_rule Check.key_rest Fields.column_rule Check.columns_rule Check.new_column Bytes.bit all_from every and_all bytes_s
match_2 = refl

-- S with table 0's column folded, with one that it has not, with one of its zero bytes changed, and with column 1 of table 1 folded
pub folded_s : List (List ℕ)
folded_s = set bytes_s 25 1 ∷ set bytes_s 25 2 ∷ set bytes_s 26 1 ∷ set bytes_s 105 2 ∷ []

pub folded_columns_lem : map check_schema folded_s ≡ Accepted ∷ (Err Malformed) ∷ (Err Malformed) ∷ Accepted ∷ []
unfolding check_schema Check.well_formed Check.header_rules Check.starts_with Check.header_rest Check.table_rules Check.size_rules Check.table_rest Check.mask_rule Check.key_rules Check.code_rules Check.windowed_rule Check.key_rest Fields.column_rule Check.columns_rule Check.new_column Bytes.bit all_from every and_all folded_s bytes_s
folded_columns_lem = refl

-- its foreign key compares by the parent column's mark alone
pub key_folds : map (λ (bs : List ℕ). (key_of (schema_of bs) 0).folds) (set bytes_s 25 1 ∷ set bytes_s 105 2 ∷ []) ≡ (true ∷ []) ∷ (false ∷ []) ∷ []
unfolding schema_of Fields.table_from Fields.key_from Fields.action_from Fields.match_from Fields.key_folds Bytes.folds_of Bytes.bit list_from bytes_s
key_folds = refl

-- S with a windowed key of two columns, RESTRICT: table 0 has so many columns and this unique key; the parent columns are p and q
unfoldable pub windowed_s : ℕ → ℕ → ℕ → ℕ → List ℕ
unfolding bytes_s
windowed_s columns unique p q =
    set (set (set (set (set (set (set (set (set bytes_s 18 columns) 20 unique) 179 1) 180 1) 181 2) 183 0) 186 p) 187 q) 191 1

-- it is accepted; broken where the end is missing or in the key
pub windowed_keys :
    map {B = SchemaAnswer × Bool} (λ (bs : List ℕ). (check_schema bs, (key_of (schema_of bs) 0).broken))
    (windowed_s 3 3 0 1 ∷ windowed_s 2 3 0 1 ∷ windowed_s 3 3 1 0 ∷ windowed_s 4 10 1 3 ∷ windowed_s 3 6 2 1 ∷ windowed_s 4 10 3 1 ∷ [])
    ≡ (Accepted, false) ∷ (Accepted, true) ∷ (Accepted, true) ∷ (Accepted, true) ∷ (Accepted, true) ∷ (Accepted, false) ∷ []
unfolding windowed_s check_schema Check.well_formed Check.header_rules Check.starts_with Check.header_rest Check.table_rules Check.size_rules Check.table_rest Check.mask_rule Check.key_rules Check.code_rules Check.windowed_rule Check.key_rest Fields.column_rule Check.columns_rule Check.new_column Bytes.bit all_from every and_all bytes_s schema_of Fields.table_from Fields.key_from Fields.action_from Fields.match_from Fields.unique_is Fields.has_parent_key Fields.has_end Fields.is_broken Bytes.column_mask any_from list_from
windowed_keys = refl

-- a windowed key of one column, one that sets NULL, one that cascades, a byte 15 of 2
pub windowed_refused :
    map check_schema (set bytes_s 191 1 ∷ set (windowed_s 3 3 0 1) 179 2 ∷ set (windowed_s 3 3 0 1) 180 4 ∷ set (windowed_s 3 3 0 1) 191 2 ∷ []) ≡ replicate 4 (Err Malformed)
unfolding windowed_s check_schema Check.well_formed Check.header_rules Check.starts_with Check.header_rest Check.table_rules Check.size_rules Check.table_rest Check.mask_rule Check.key_rules Check.code_rules Check.windowed_rule Check.key_rest Fields.column_rule Check.columns_rule Check.new_column Bytes.bit all_from every and_all bytes_s
windowed_refused = refl
