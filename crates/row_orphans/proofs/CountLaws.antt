-- The foreign keys that have orphans by a row, and the counts of all of them.
-- Assumes nothing.
use mathlib.Core.Path.{◌≡◌, refl, sym, ap, ap₂, ◌∙◌}
use mathlib.Core.Bool.{Bool, true, false, not, ◌&&◌, ◌||◌, true≢false}
use mathlib.Core.List.{List, [], map}
use Prim.Native.Nat.{ℕ, ◌+◌, ◌≤◌, ◌<◌}
use native.Mathlib.Omega.{arith}
use lib.Dec.{eqb}
use lib.IntN.{ℤ, pos}
use lib.ListN.{length, get_or, replicate, take, length-map}
use lib.Seq.{sets, take_all}
use Rattle.schema.specs.Records.{ForeignKey, Schema, no_key, key_of}
use Rattle.schema.proofs.ListLaws.{get_map}
use Rattle.rules.specs.Lists.{𝟘, one}
use Rattle.rules.specs.Rows.{Row, Tables}
use Rattle.bridge.proofs.BrokenKeys.{broken_orphan}
use Rattle.words.proofs.Splice.{sets_padded}
use Rattle.table_keys.specs.Touched.{touches, whole_at}
use Rattle.moves.specs.Movement.{pick, own_orphan, stranded_rows}
use Rattle.moves.proofs.Taken.{pick_zero, stranded_broken}
use Rattle.row_orphans.specs.RowOrphans.{row_orphans, row_counts}

-- ---- one foreign key
neither : (a b : Bool) → a || b ≡ false → (a ≡ false) × (b ≡ false)
neither true b h = absurd (true≢false h)
neither false b h = (refl, h)

module _ (t r : ℕ) (x y : Row) (tabs : Tables) (k : ForeignKey) where
  untouched_none : touches t k ≡ false → 0 ≡ row_orphans k t r x y tabs
  unfolding touches row_orphans stranded_rows own_orphan pick
  untouched_none h = let n = neither (eqb k.child t) (eqb k.parent t) h in rw (n.0, n.1)

  own_broken : k.broken ≡ true → own_orphan k t x tabs ≡ 0
  unfolding own_orphan one
  own_broken u = ap (λ b. pick (eqb k.child t) (one b)) (broken_orphan k u (get_or tabs k.parent []) x) ∙ pick_zero (eqb k.child t)

  broken_rows : k.broken ≡ true → 0 ≡ row_orphans k t r x y tabs
  unfolding row_orphans
  broken_rows u = sym (ap₂ (λ m n. m + n) (stranded_broken k t r y x tabs u) (own_broken u))

  -- a key that does not touch the table has no orphans by the row, nor has a broken one
  pub others_none : whole_at t k ≡ false → 0 ≡ row_orphans k t r x y tabs
  unfolding whole_at
  others_none h = go (touches t k) k.broken refl refl h
    where
      go : (a b : Bool) → touches t k ≡ a → k.broken ≡ b → a && not b ≡ false → 0 ≡ row_orphans k t r x y tabs
      go false b e u f = untouched_none e
      go true true e u f = broken_rows u
      go true false e u f = absurd (true≢false f)

-- ---- the counts of all of them
module _ (s : Schema) (t r : ℕ) (x y : Row) (tabs : Tables) where
  abbrev pub row_list : List ℤ
  row_list = map (λ k. pos (row_orphans k t r x y tabs)) s.keys

  pub row_length : length row_list ≡ length s.keys
  row_length = length-map s.keys (λ k. pos (row_orphans k t r x y tabs))

  pub row_at_lem : (i : ℕ) → i < length s.keys → pos (row_orphans (key_of s i) t r x y tabs) ≡ get_or row_list i 𝟘
  row_at_lem i h = sym (get_map (λ k. pos (row_orphans k t r x y tabs)) s.keys i no_key 𝟘 h)

  -- an array that a loop fills
  pub row_filled : length s.keys ≤ 32 → (n : ℕ) → length s.keys ≤ n → sets (replicate 32 𝟘) 0 (take n row_list) ≡ row_counts s t r x y tabs
  unfolding row_counts
  row_filled few n h =
      rw (take_all n row_list (omega (arith, row_length)))
      (sets_padded 32 𝟘 row_list (omega (arith, row_length)))
