-- The columns of a mask, gathered column by column; unique keys.
-- Assumes nothing.
use mathlib.Core.Path.{◌≡◌, refl, sym, ap, ◌∙◌}
use mathlib.Core.Bool.{Bool, true, false, false≢true}
use mathlib.Core.List.{List, [], ◌∷◌, ◌++◌, append_assoc, append-nil}
use Prim.Native.Nat.{ℕ, zero, suc, ◌+◌, ◌-◌, ◌*◌, ◌/◌, ◌^◌, ◌≤◌, ◌<◌}
use native.Mathlib.Nat.{add-zero, zero-add, zero-mul, div-eq_of_lt, lt_of_lt_of_le, lt-div-mul-add}
use native.Mathlib.Numerals.{add-one}
use native.Mathlib.Omega.{arith}
use borrow.Author.Tests.{ne_eqb, leb-true, leb-false}
use lib.Dec.{leb}
use lib.ListN.{length, get_or, set, take, drop}
use lib.Pow.{pow_pos, pow_mono}
use lib.Seq.{take-suc-set, take-set-le, get_or-take, length-take-le}
use Rattle.schema.specs.Check.{Accepted}
use Rattle.schema.specs.Bounds.{Columns}
use Rattle.schema.specs.Bytes.{bit, folds_of}
use Rattle.schema.specs.Records.{Table, table_of}
use Rattle.schema.specs.Fields
use Rattle.schema.specs.Fields.{table_from, schema_of}
use Rattle.schema.specs.Check
use Rattle.schema.proofs.ListLaws.{length_from}
use Rattle.schema.proofs.Formed.{formed}
use Rattle.schema.proofs.SchemaLaws.{tables_are, table_is, accepted_formed}
use Rattle.schema.proofs.KeyLaws.{unique_high}
use Rattle.schema.proofs.FieldLaws.{read_unique}
use Rattle.rules.specs.Lists.{any, one}
use Rattle.rules.specs.Rows.{Row}
use Rattle.rules.specs.Keys.{full_key, mask_columns_from, mask_columns}
use Rattle.rules.specs.Change.{twice, mask_broken, unique_broken}
use Rattle.rows.specs.KeyColumns.{MaskWithin}

-- ---- column by column
abbrev cons_if : Bool → ℕ → List ℕ → List ℕ
cons_if true i l = i ∷ l
cons_if false i l = l

picked : (t : Bool) (i : ℕ) (x : List ℕ) → ◌≡◌ {A = List ℕ} (elim t [ true ↦ i ∷ x | false ↦ x ]) (cons_if t i x)
picked true i x = refl
picked false i x = refl

from_step : (m i : ℕ) → i < 8 → mask_columns_from m i (8 - i) ≡ cons_if (bit i m) i (mask_columns_from m (i + 1) (8 - (i + 1)))
unfolding mask_columns_from
from_step m i h =
    let e : 8 - i ≡ suc (8 - suc i) = omega arith in
    ap (mask_columns_from m i) e
    ∙ picked (bit i m) i (mask_columns_from m (suc i) (8 - suc i))
    ∙ ap (λ (k : ℕ). cons_if (bit i m) i (mask_columns_from m k (8 - k))) (sym (add-one i))

from_start : (m : ℕ) → mask_columns m ≡ mask_columns_from m 0 (8 - 0)
unfolding mask_columns
from_start m = refl

from_end : (m i : ℕ) → 8 ≤ i → mask_columns_from m i (8 - i) ≡ []
unfolding mask_columns_from
from_end m i h = let e : 8 - i ≡ 0 = omega arith in rw e

-- the list so far, and the columns to come
pub list_start : (m : ℕ) (l : List ℕ) → mask_columns m ≡ take 0 l ++ mask_columns_from m 0 (8 - 0)
list_start m l = from_start m

pub list_step : (m i n : ℕ) (l : List ℕ) → i < 8 → n < length l → take n l ++ mask_columns_from m i (8 - i) ≡ take (n + one (bit i m)) (set l n i) ++ mask_columns_from m (i + 1) (8 - (i + 1))
unfolding one
list_step m i n l h k = ap (λ (x : List ℕ). take n l ++ x) (from_step m i h) ∙ go (bit i m) (mask_columns_from m (i + 1) (8 - (i + 1)))
  where
    go : (t : Bool) (x : List ℕ) → take n l ++ cons_if t i x ≡ take (n + one t) (set l n i) ++ x
    go true x = let e : n + 1 ≡ suc n = omega arith in rw (e, take-suc-set l n i k) (sym (append_assoc (take n l) (i ∷ []) x))
    go false x = rw (add-zero n, take-set-le n l n i (omega arith))

pub list_end : (m i n : ℕ) (l : List ℕ) → 8 ≤ i → n ≤ length l → mask_columns m ≡ take n l ++ mask_columns_from m i (8 - i) → take (length (mask_columns m)) l ≡ mask_columns m
list_end m i n l h k e =
    let f : mask_columns m ≡ take n l = e ∙ ap (λ (x : List ℕ). take n l ++ x) (from_end m i h) ∙ append-nil (take n l) in
    let g : length (mask_columns m) ≡ n = ap length f ∙ length-take-le n l k in
    rw g (sym f)

-- ---- the columns of a mask are in the row
in_mask : (m i n j : ℕ) → j < length (mask_columns_from m i n) → bit (get_or (mask_columns_from m i n) j 0) m ≡ true
unfolding mask_columns_from
in_mask m i zero j h = absurd (omega arith)
in_mask m i (suc n) j h =
    rw (picked (bit i m) i (mask_columns_from m (suc i) n))
    (go (bit i m) refl j (λ j l. in_mask m (suc i) n j l) (rw (picked (bit i m) i (mask_columns_from m (suc i) n)) at h))
  where
    go : (t : Bool) → bit i m ≡ t → (j : ℕ) → ((j : ℕ) → j < length (mask_columns_from m (suc i) n) → bit (get_or (mask_columns_from m (suc i) n) j 0) m ≡ true)
        → j < length (cons_if t i (mask_columns_from m (suc i) n)) → bit (get_or (cons_if t i (mask_columns_from m (suc i) n)) j 0) m ≡ true
    go true e zero rest l = e
    go true e (suc j) rest l = rest j (omega arith)
    go false e j rest l = rest j l

-- a bit below the columns of a mask that has none above them
bit_below : (m n c : ℕ) → m / 2 ^ n ≡ 0 → bit c m ≡ true → c < n
unfolding bit
bit_below m n c e b = go (leb n c) refl
  where
    go : (t : Bool) → leb n c ≡ t → c < n
    go true f =
        let s : m < m / 2 ^ n * 2 ^ n + 2 ^ n = lt-div-mul-add (pow_pos n) in
        let small : m < 2 ^ n = rw (e, zero-mul (2 ^ n), zero-add (2 ^ n)) at s in
        let q : m / 2 ^ c ≡ 0 = div-eq_of_lt (lt_of_lt_of_le small (pow_mono (leb-true n c f))) in
        absurd (false≢true (rw q at b))
    go false f = leb-false n c f

mask_inside : (m n : ℕ) → m / 2 ^ n ≡ 0 → MaskWithin (suc n) m
unfolding mask_columns
mask_inside m n e =
    record { within = λ i h. let l : get_or (mask_columns m) i 0 < n = bit_below m n (get_or (mask_columns m) i 0) e (in_mask m 0 8 i h) in omega arith }

module _ (bs : List ℕ) (acc : Check.check_schema bs ≡ Accepted) (t : ℕ) (h : t < length (schema_of bs).tables) where
  -- the unique keys of a table are among its columns
  pub unique_inside : (i : ℕ) → i < 4 → MaskWithin (suc (table_of (schema_of bs) t).columns) (get_or (table_of (schema_of bs) t).uniques i 0)
  unfolding table_from
  unique_inside i l =
      let z : Fields.unique_of bs t i / 2 ^ Fields.columns_of bs t ≡ 0 = unique_high bs (formed bs (accepted_formed bs acc)) t (omega (arith, tables_are bs)) i l in
      rw (← read_unique bs acc t h i l refl, table_is bs t h) (mask_inside (Fields.unique_of bs t i) (Fields.columns_of bs t) z)

  pub masks_four : length (table_of (schema_of bs) t).uniques ≡ 4
  unfolding table_from
  masks_four = ap (λ (x : Table). length x.uniques) (table_is bs t h) ∙ length_from (Fields.unique_of bs t) 4 0

-- ---- unique keys
module _ (m : ℕ) {n : ℕ} (cs : List ℕ) (k : n ≡ length (mask_columns m)) (g : take (length (mask_columns m)) cs ≡ mask_columns m) where
  list_is : take n cs ≡ mask_columns m
  list_is = ap (λ (x : ℕ). take x cs) k ∙ g

  pub mask_array : {w : ℕ} → length cs ≡ 8 → n ≤ 8 → MaskWithin w m → Columns w n cs
  mask_array {w} l f h =
      record {
        few = f;
        size = l;
        within = λ i d.
            let q : get_or (mask_columns m) i 0 ≡ get_or cs i 0 = ap (λ (x : List ℕ). get_or x i 0) (sym g) ∙ get_or-take (length (mask_columns m)) cs i 0 (omega arith) in
            let u : suc (get_or (mask_columns m) i 0) < w = h.within i (omega arith) in
            omega arith;
      }

  module _ (folded r : ℕ) (new : Row) (rows : List Row) (e : m ≡ 0 → ⊥) where
    pub mask_null : full_key (take n cs) new ≡ false → false ≡ mask_broken folded r new rows m
    unfolding mask_broken
    mask_null h = let q : full_key (mask_columns m) new ≡ false = rw list_is at h in rw (ne_eqb m 0 e, q)

    pub mask_full : full_key (take n cs) new ≡ true → {fs : List Bool} → fs ≡ folds_of folded (take n cs) → twice fs (take n cs) r new rows ≡ mask_broken folded r new rows m
    unfolding mask_broken
    mask_full h f = let q : full_key (mask_columns m) new ≡ true = rw list_is at h in rw (f, ne_eqb m 0 e, q, list_is)

pub mask_none : (folded r : ℕ) (new : Row) (rows : List Row) (m : ℕ) → m ≡ 0 → false ≡ mask_broken folded r new rows m
unfolding mask_broken
mask_none folded r new rows m e = rw e

pub unique_masks : (t : Table) (r : ℕ) (new : Row) (rows : List Row) → unique_broken t r new rows ≡ any (mask_broken t.folded r new rows) (drop 0 t.uniques)
unfolding unique_broken
unique_masks t r new rows = refl
