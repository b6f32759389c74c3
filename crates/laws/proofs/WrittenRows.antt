-- A row that is written: where it stands, and its words, which are those of the image up to the table's last column.
-- Assumes nothing.
use mathlib.Core.Path.{◌≡◌, refl, ◌∙◌, ap, ap₂}
use mathlib.Core.Bool.{Bool, true, false, not, ◌&&◌}
use mathlib.Core.List.{List, [], ◌∷◌}
use mathlib.Core.Logic.{◌≢◌}
use Prim.Native.Nat.{ℕ, zero, suc, ◌<◌, ◌≤◌}
use native.Mathlib.Omega.{arith}
use borrow.Author.Tests.{eqb-true, eqb-false, ltb-true}
use lib.Dec.{ltb, eqb}
use lib.IntN.{ℤ}
use lib.ListN.{length, get_or, set, drop}
use lib.Seq.{get_or-set_other}
use Rattle.schema.specs.Bytes.{bit}
use Rattle.schema.specs.Ranges.{all}
use Rattle.schema.specs.Records.{Schema, table_of}
use Rattle.rules.specs.Lists.{𝟘, any}
use Rattle.rules.specs.Values.{nat_of, same_value}
use Rattle.rules.specs.Rows.{Row, Tables, row_at, put_row, overwrite, live, live_state, null_at, value_at}
use Rattle.rules.specs.Keys.{same_cell, same_key, full_key}
use Rattle.bridge.proofs.Tests.{all_head, all_tail}
use Rattle.bridge.proofs.Shapes.{Shaped, length_overwrite}
use Rattle.bridge.proofs.RowImages.{over_get, live_long}
use Rattle.bridge.proofs.CountBounds.{rows_at}
use Rattle.bridge.proofs.RowWords.{row_width}

-- ---- where it stands

rows_same : (rows : List Row) (r : ℕ) (new : Row) → get_or (set rows r (overwrite (get_or rows r []) new)) r [] ≡ overwrite (get_or rows r []) new
unfolding overwrite
rows_same [] r new = refl
rows_same (x ∷ rows) zero new = refl
rows_same (x ∷ rows) (suc r) new = rows_same rows r new

put_same : (tabs : Tables) (t r : ℕ) (new : Row) → row_at t r (put_row t r (overwrite (row_at t r tabs) new) tabs) ≡ overwrite (row_at t r tabs) new
unfolding row_at put_row overwrite
put_same [] t r new = refl
put_same (rows ∷ tabs) zero r new = rows_same rows r new
put_same (rows ∷ tabs) (suc t) r new = put_same tabs t r new

put_row_lem : (tabs : Tables) (t r i : ℕ) (y : Row) → i ≢ r → row_at t i (put_row t r y tabs) ≡ row_at t i tabs
unfolding row_at put_row
put_row_lem [] t r i y n = refl
put_row_lem (rows ∷ tabs) zero r i y n = get_or-set_other rows r i y [] n
put_row_lem (rows ∷ tabs) (suc t) r i y n = put_row_lem tabs t r i y n

put_table : (tabs : Tables) (t r u i : ℕ) (y : Row) → u ≢ t → row_at u i (put_row t r y tabs) ≡ row_at u i tabs
unfolding row_at put_row
put_table tabs t r u i y n = ap (λ (rows : List Row). get_or rows i []) (get_or-set_other tabs t u (set (get_or tabs t []) r y) [] n)

-- row i of table u, after row r of table t is written
module _ (tabs : Tables) (t r : ℕ) (new : Row) where
  pub data Stands (u i : ℕ) : Type 0 where
    written : u ≡ t → i ≡ r → row_at u i (put_row t r (overwrite (row_at t r tabs) new) tabs) ≡ overwrite (row_at t r tabs) new → Stands u i
    stays : row_at u i (put_row t r (overwrite (row_at t r tabs) new) tabs) ≡ row_at u i tabs → Stands u i

  pub stands : (u i : ℕ) → Stands u i
  stands u i = by (eqb u t) (eqb i r) refl refl
    where
      by : (a b : Bool) → eqb u t ≡ a → eqb i r ≡ b → Stands u i
      by true true e f =
          let table : u ≡ t = eqb-true u t e in
          let row : i ≡ r = eqb-true i r f in
          written table row (ap₂ (λ (v j : ℕ). row_at v j (put_row t r (overwrite (row_at t r tabs) new) tabs)) table row ∙ put_same tabs t r new)
      by true false e f = stays (rw (eqb-true u t e) (put_row_lem tabs t r i _ (eqb-false i r f)))
      by false b e f = stays (put_table tabs t r u i _ (eqb-false u t e))

-- ---- its words

row_there : (rows : List Row) (r : ℕ) → 0 < length (get_or rows r []) → r < length rows
row_there [] r h = absurd (omega arith)
row_there (x ∷ rows) zero h = omega arith
row_there (x ∷ rows) (suc r) h = omega (arith, row_there rows r h)

module _ (s : Schema) (tabs : Tables) (shaped : Shaped s tabs) (t r : ℕ) (new : Row) (lives : live (overwrite (row_at t r tabs) new) ≡ true) where
  pub written_words : (i : ℕ) → i ≤ (table_of s t).columns → get_or (overwrite (row_at t r tabs) new) i 𝟘 ≡ get_or new i 𝟘
  unfolding Shaped row_at
  written_words i l =
      let some = live_long _ lives in
      let long = length_overwrite (row_at t r tabs) new in
      let there = row_there (get_or tabs t []) r (omega (arith, some, long)) in
      over_get (row_at t r tabs) new i (omega (arith, l, row_width s tabs shaped t r (omega (arith, there, rows_at s.tables tabs shaped t))))

-- ---- rows of the same words, up to column n
module _ (n : ℕ) (x y : Row) (same : (i : ℕ) → i ≤ n → get_or x i 𝟘 ≡ get_or y i 𝟘) where
  state : get_or x 0 𝟘 ≡ get_or y 0 𝟘
  state = same 0 (omega arith)

  pub same_live : live x ≡ live y
  unfolding live
  same_live = ap (λ (z : ℤ). live_state (nat_of z)) state

  pub same_full : (cs : List ℕ) → full_key cs x ≡ full_key cs y
  unfolding full_key null_at
  same_full cs = ap₂ (λ (l : Bool) (z : ℤ). l && not (any (λ c. bit c (nat_of z)) cs)) same_live state

  pub same_value_lem : (c : ℕ) → ltb c n ≡ true → value_at x c ≡ value_at y c
  unfolding value_at
  same_value_lem c h = same (suc c) (omega (arith, ltb-true c n h))

  pub same_key_lem : (z : Row) (fs : List Bool) (cs ds : List ℕ) → all (λ c. ltb c n) ds ≡ true → same_key fs cs ds z x ≡ same_key fs cs ds z y
  unfolding same_key same_cell null_at
  same_key_lem z fs [] ds h = refl
  same_key_lem z fs (c ∷ cs) [] h = refl
  same_key_lem z fs (c ∷ cs) (d ∷ ds) h =
      ap₂ (λ (a b : Bool). elim a [ true ↦ b | false ↦ false ])
      (ap₂ (λ (v w : ℤ). same_value (get_or fs 0 false) (value_at z c) v && (not (null_at z c) && not (bit d (nat_of w)))) (same_value_lem d (all_head _ d ds h)) state)
      (same_key_lem z (drop 1 fs) cs ds (all_tail _ d ds h))
