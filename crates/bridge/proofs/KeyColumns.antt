-- The columns of an accepted schema's foreign keys: those of a child key are in the child table, those of the parent key of an unbroken one in the parent table.
-- Assumes nothing.
use mathlib.Core.Path.{◌≡◌, refl, sym, ap, ◌∙◌}
use mathlib.Core.Bool.{Bool, true, false}
use mathlib.Core.List.{List, [], ◌∷◌, map}
use Prim.Native.Nat.{ℕ, suc, ◌<◌}
use native.Mathlib.Omega.{arith}
use borrow.Author.Tests.{lt-ltb}
use lib.Dec.{ltb}
use lib.ListN.{length, get_or, take}
use lib.Seq.{get_or-take}
use Rattle.schema.specs.Check.{Accepted, check_schema}
use Rattle.schema.specs.Bounds.{Columns}
use Rattle.schema.specs.Ranges.{all}
use Rattle.schema.specs.Records.{Window, ForeignKey, key_of, table_of, child_key, unique_columns, parent_key}
use Rattle.schema.specs.Fields.{schema_of}
use Rattle.schema.proofs.FieldLaws.{read_windows, read_child_columns, read_parent_columns, window_below}
use Rattle.bridge.proofs.Tests.{all_append, all_cons, all_places}

-- columns that are read into an array are below the width that the array's are below
columns_in : (n : ℕ) (cs r : List ℕ) → take (length cs) r ≡ cs → Columns (suc n) (length cs) r → all (λ c. ltb c n) cs ≡ true
columns_in n cs r e f =
    all_places (λ c. ltb c n) 0 cs (λ i l.
    let is : get_or cs i 0 ≡ get_or r i 0 = ap (λ (ds : List ℕ). get_or ds i 0) (sym e) ∙ get_or-take (length cs) r i 0 l in
    lt-ltb (get_or cs i 0) n (omega (arith, is, f.within i l)))

module _ (bs : List ℕ) (acc : check_schema bs ≡ Accepted) (k : ℕ) (there : k < length (schema_of bs).keys) where
  abbrev key : ForeignKey
  key = key_of (schema_of bs) k

  pub child_key_in : all (λ c. ltb c (table_of (schema_of bs) (key_of (schema_of bs) k).child).columns) (child_key (key_of (schema_of bs) k)) ≡ true
  child_key_in = let r = read_child_columns bs acc k there refl in columns_in _ (child_key key) _ r.0 r.1

  module _ (unbroken : (key_of (schema_of bs) k).broken ≡ false) where
    abbrev in_parent : ℕ → Bool
    in_parent c = ltb c (table_of (schema_of bs) key.parent).columns

    unique_in : all in_parent (unique_columns key) ≡ true
    unique_in = let r = read_parent_columns bs acc k there unbroken refl in columns_in _ (unique_columns key) _ r.0 r.1

    ends_in : (ws : List Window) → key.windows ≡ ws → all in_parent (map (λ w. suc w.first) ws) ≡ true
    unfolding all
    ends_in [] e = refl
    ends_in (w ∷ []) e = all_cons in_parent (suc w.first) [] (lt-ltb (suc w.first) _ (window_below bs acc k there unbroken w e).1) refl
    ends_in (w ∷ v ∷ ws) e = absurd (omega (arith, ap length e, (read_windows bs acc k there refl).0, (read_windows bs acc k there refl).1))

    pub parent_key_in : all (λ c. ltb c (table_of (schema_of bs) (key_of (schema_of bs) k).parent).columns) (parent_key (key_of (schema_of bs) k)) ≡ true
    unfolding parent_key
    parent_key_in = all_append in_parent (unique_columns key) (map (λ w. suc w.first) key.windows) unique_in (ends_in key.windows refl)
