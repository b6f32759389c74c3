-- The sum when one row is written.
-- Assumes nothing.
use mathlib.Core.Path.{◌≡◌, refl, sym, ap, ◌∙◌}
use mathlib.Core.Bool.{Bool, true, false, false≢true}
use mathlib.Core.List.{List, [], ◌∷◌}
use Prim.Native.Nat.{ℕ, zero, suc, ◌+◌, ◌<◌, ◌≤◌}
use native.Mathlib.Omega.{arith}
use borrow.Author.Tests.{eqb-true, eqb-false}
use lib.Dec.{eqb}
use lib.ListN.{get_or, set}
use Rattle.schema.specs.Records.{Schema, table_of}
use Rattle.rules.specs.Lists.{count, one, up_from}
use Rattle.rules.specs.Values.{nat_of}
use Rattle.rules.specs.Rows.{Row, Tables, row_at, put_row, overwrite, deleted_image, live, live_state}
use Rattle.rules.specs.DeleteBound.{clearable, row_bound, rows_bound, tables_bound, delete_bound}
use Rattle.bridge.proofs.CountLaws.{count_cons}
use Rattle.bridge.proofs.RowImages.{deleted_vacant}

-- ---- counts of the numbers i, .., i + n - 1

one_le : (a b : Bool) → (a ≡ true → b ≡ true) → one a ≤ one b
unfolding one
one_le true b h = rw (h refl) (omega arith)
one_le false b h = omega arith

module _ (f g : ℕ → Bool) where
  -- what passes the first test passes the second
  Implies : ℕ → ℕ → Type 0
  Implies i n = (c : ℕ) → i ≤ c → c < i + n → f c ≡ true → g c ≡ true

  count_le : (n i : ℕ) → Implies i n → count f (up_from i n) ≤ count g (up_from i n)
  unfolding up_from count Implies
  count_le zero i h = omega arith
  count_le (suc n) i h =
      let a : one (f i) ≤ one (g i) = one_le (f i) (g i) (h i (omega arith) (omega arith)) in
      omega (arith, count_cons f i (up_from (suc i) n), count_cons g i (up_from (suc i) n), count_le n (suc i) (λ c l u. h c (omega arith) (omega arith)))

  -- and one of them passes the second alone
  pub count_less : (n i : ℕ) → ((c : ℕ) → i ≤ c → c < i + n → f c ≡ true → g c ≡ true) → (d : ℕ) → i ≤ d → d < i + n → g d ≡ true → f d ≡ false → count f (up_from i n) < count g (up_from i n)
  unfolding up_from count Implies one
  count_less zero i h d l u e e' = absurd (omega arith)
  count_less (suc n) i h d l u e e' = by (eqb d i) refl (λ l'. count_less n (suc i) (λ c l u. h c (omega arith) (omega arith)) d l' (omega arith) e e')
    where
      by : (t : Bool) → eqb d i ≡ t → (suc i ≤ d → count f (up_from (suc i) n) < count g (up_from (suc i) n)) → count f (up_from i (suc n)) < count g (up_from i (suc n))
      by true q next =
          let s : d ≡ i = eqb-true d i q in
          let a : one (f i) ≡ 0 = ap (λ (k : ℕ). one (f k)) (sym s) ∙ ap one e' in
          let b : one (g i) ≡ 1 = ap (λ (k : ℕ). one (g k)) (sym s) ∙ ap one e in
          omega (arith, count_cons f i (up_from (suc i) n), count_cons g i (up_from (suc i) n), count_le n (suc i) (λ c l u. h c (omega arith) (omega arith)))
      by false q next =
          let ne : d ≡ i → ⊥ = eqb-false d i q in
          let a : one (f i) ≤ one (g i) = one_le (f i) (g i) (h i (omega arith) (omega arith)) in
          let b : count f (up_from (suc i) n) < count g (up_from (suc i) n) = next (omega arith) in
          omega (arith, count_cons f i (up_from (suc i) n), count_cons g i (up_from (suc i) n))

-- ---- one row's part

module _ (s : Schema) (t : ℕ) (x : Row) where
  pub live_part : live x ≡ true → row_bound s t x ≡ suc (count (clearable s t x) (up_from 0 (table_of s t).columns))
  unfolding row_bound
  live_part e = rw (e, row_bound) refl

  pub vacant_part : live x ≡ false → row_bound s t x ≡ 0
  unfolding row_bound
  vacant_part e = rw (e, row_bound) refl

  pub live_some : live x ≡ true → 0 < row_bound s t x
  live_some e = omega (arith, live_part e)

-- ---- all rows, where one that is live is written anew

module _ (s : Schema) (y : Row) where
  rows_put : (t r : ℕ) (rows : List Row) → live (get_or rows r []) ≡ true → rows_bound s t (set rows r y) + row_bound s t (get_or rows r []) ≡ rows_bound s t rows + row_bound s t y
  unfolding rows_bound live live_state nat_of
  rows_put t r [] h = absurd (false≢true h)
  rows_put t zero (x ∷ rows) h = omega arith
  rows_put t (suc r) (x ∷ rows) h = omega (arith, rows_put t r rows h)

  tables_put : (i t r : ℕ) (tabs : Tables) → live (get_or (get_or tabs t []) r []) ≡ true
      → tables_bound s i (set tabs t (set (get_or tabs t []) r y)) + row_bound s (i + t) (get_or (get_or tabs t []) r []) ≡ tables_bound s i tabs + row_bound s (i + t) y
  unfolding tables_bound live live_state nat_of
  tables_put i t r [] h = absurd (false≢true h)
  tables_put i zero r (rows ∷ tabs) h =
      let e : i + 0 ≡ i = omega arith in
      rw e (omega (arith, rows_put i r rows h))
  tables_put i (suc t) r (rows ∷ tabs) h =
      let e : i + suc t ≡ suc i + t = omega arith in
      rw e (omega (arith, tables_put (suc i) t r tabs h))

  pub bound_put : (t r : ℕ) (tabs : Tables) → live (row_at t r tabs) ≡ true → delete_bound s (put_row t r y tabs) + row_bound s t (row_at t r tabs) ≡ delete_bound s tabs + row_bound s t y
  unfolding delete_bound put_row row_at
  bound_put t r tabs h = let e : 0 + t ≡ t = omega arith in rw e at (tables_put 0 t r tabs h)

-- a live row is part of the sum
pub bound_some : (s : Schema) (t r : ℕ) (tabs : Tables) → live (row_at t r tabs) ≡ true → 0 < delete_bound s tabs
unfolding deleted_image
bound_some s t r tabs h =
    let y : Row = overwrite (row_at t r tabs) deleted_image in
    omega (arith, bound_put s y t r tabs h, vacant_part s t y (deleted_vacant (row_at t r tabs)), live_some s t (row_at t r tabs) h)
