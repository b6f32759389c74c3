-- Where a row stands.
-- Assumes nothing.
use mathlib.Core.Path.{◌≡◌, refl, sym, ap, ap₂, ◌∙◌}
use mathlib.Core.List.{List}
use Prim.Native.Nat.{ℕ, suc, ◌+◌, ◌*◌, ◌≤◌, ◌<◌}
use native.Mathlib.Numerals.{add-one}
use native.Mathlib.Omega.{arith}
use lib.IntN.{ℤ}
use lib.ListN.{length, take, drop}
use lib.Seq.{sets}
use Rattle.schema.specs.Fields.{schema_of}
use Rattle.schema.specs.Records.{Schema, table_of}
use Rattle.schema.specs.Sizes.{table_size, rows_size, table_offset, area_size}
use Rattle.schema.proofs.SchemaLaws.{accepted_valid}
use Rattle.schema.proofs.SizeLaws.{product}
use Rattle.rules.specs.Lists.{padded}
use Rattle.rules.specs.Rows.{Row, row_at, image}
use Rattle.bridge.specs.Fit.{work_of, Fit, Keeps}
use Rattle.bridge.specs.Ready.{Ready, Placed, row_in}
use Rattle.bridge.proofs.Offsets.{row_offset}
use Rattle.bridge.proofs.RowWords.{row_fits, table_fits, offset_fits, row_words}
use Rattle.bridge.proofs.Shapes.{rows_short}
use Rattle.area.specs.Places.{RowPlace}

-- the length of the area, part by part
pub area_parts : (s : Schema) → area_size s ≡ 333 + rows_size s.tables + s.room * 10
unfolding area_size
area_parts s = refl

pub area_long : {s : Schema} {a : List ℤ} → Fit s a → length a ≡ 333 + rows_size s.tables + s.room * 10
area_long {s} f = f.size ∙ area_parts s

pub ready_after : {b : List ℕ} {a a' : List ℤ} → Ready b a → Keeps (schema_of b) a a' → Ready b a'
ready_after h k = record { accepted = h.accepted; fit = k.fit }

pub row_place : {b : List ℕ} {a : List ℤ} {t r : ℕ} → Placed b a t r → RowPlace b t r
row_place h = record { accepted = h.ready.accepted; table = h.table; row = h.row }

module _ (s : Schema) (t r : ℕ) {p c : ℕ} (e : p ≡ table_offset s t) (f : c ≡ (table_of s t).columns) where
  -- a row by the start of its table
  pub place_is : p + r * (c + 1) ≡ 333 + row_offset s t r
  unfolding table_offset row_offset
  place_is = rw (e, f, add-one) (omega arith)

  -- and as it is written there
  pub put_is : (a : List ℤ) {a' : List ℤ} (new : Row) → a' ≡ sets a (p + r * (c + 1)) (take (c + 1) new) → a' ≡ sets a (333 + row_offset s t r) (take (suc (table_of s t).columns) new)
  put_is a new q = q ∙ ap₂ (λ (i n : ℕ). sets a i (take n new)) place_is (ap (λ (n : ℕ). n + 1) f ∙ add-one (table_of s t).columns)

  -- the row ends in its table, and the table in the area
  pub row_in_table : r < (table_of s t).rows → {n : ℕ} → n ≡ table_size (table_of s t) → p + (r * (c + 1) + (c + 1)) ≤ p + n
  unfolding table_size
  row_in_table h {n} g =
      let m : r * (c + 1) + (c + 1) ≤ n = rw (g, f, add-one) (row_fits r (table_of s t).rows (suc (table_of s t).columns) h) in
      omega arith

  pub table_in_area : t < length s.tables → {n : ℕ} → n ≡ table_size (table_of s t) → {m : ℕ} → m ≡ area_size s → p + n ≤ m
  unfolding table_offset
  table_in_area h g q = omega (arith, area_parts s, table_fits s.tables t h)

module _ {b : List ℕ} {t r : ℕ} (h : RowPlace b t r) where
  pub row_short : r < 1024
  row_short = omega (arith, rows_short (accepted_valid b h.accepted) t, h.row)

  pub row_small : (c : ℕ) → c ≤ 8 → r * (c + 1) ≤ 9216
  row_small c k = product r (c + 1) (omega (arith, row_short)) (omega arith)

module _ {b : List ℕ} {a : List ℤ} {t r : ℕ} (h : Placed b a t r) where
  pub row_in_lem : 333 + row_offset (schema_of b) t r + suc (table_of (schema_of b) t).columns ≤ length a
  row_in_lem = omega (arith, area_long h.ready.fit, offset_fits (schema_of b) t r h.table h.row)

  module _ {p w : ℕ} (e : p ≡ 333 + row_offset (schema_of b) t r) (f : w ≡ suc (table_of (schema_of b) t).columns) where
    -- the row, by its words
    pub row_is : row_in a p w ≡ row_at t r (work_of (schema_of b) a).tabs
    unfolding row_in
    row_is = rw (e, f) (sym (row_words (schema_of b) a t r h.table h.row))

    pub image_is : padded 9 (take w (drop p a)) ≡ image t r (work_of (schema_of b) a).tabs
    unfolding row_in image
    image_is = ap (padded 9) row_is
