-- A row's part of the sum, by its state and the mask of the columns that can be cleared.
-- Assumes nothing.
use mathlib.Core.Path.{◌≡◌, refl, sym, ap, ◌∙◌}
use mathlib.Core.Bool.{true, false, not, ◌&&◌}
use Prim.Native.Nat.{ℕ, suc, ◌+◌, ◌-◌, ◌≤◌, ◌<◌}
use native.Mathlib.Omega.{arith}
use lib.Bits.{bit_and}
use lib.Count.{ones, ones-le}
use lib.ListN.{get_or}
use Rattle.schema.specs.Marks.{Marks}
use Rattle.schema.specs.Records.{Schema, table_of}
use Rattle.rules.specs.Lists.{𝟘, any, count, up_from}
use Rattle.rules.specs.Values.{nat_of}
use Rattle.rules.specs.Rows.{Row, live, live_state, null_at}
use Rattle.rules.specs.DeleteBound.{clears, clearable, row_bound}
use Rattle.delete_bound.specs.StateBound.{not_null_of, state_bound}
use Rattle.delete_bound.proofs.MaskCounts.{count_same, ones_left}

module _ (cleared state : ℕ) where
  pub vacant_bound : live_state state ≡ false → 0 ≡ state_bound cleared state
  unfolding state_bound
  vacant_bound e = sym (rw (e, state_bound) refl)

  module _ (few : cleared < 256) {n : ℕ} (e : n ≡ ones (cleared - bit_and cleared state)) where
    pub live_bound : live_state state ≡ true → 1 + n ≡ state_bound cleared state
    unfolding state_bound
    live_bound l = sym (rw (l, state_bound) (omega (arith, e, ones_left 8 cleared state few)))

    pub ones_few : n ≤ 8
    ones_few = omega (arith, e, ones-le 8 (cleared - bit_and cleared state) (omega arith))

-- it is the row's part by the rules
pub row_bound_lem : (s : Schema) (t : ℕ) {m : ℕ} → Marks (λ c. any (clears t c) s.keys) (table_of s t).columns m → m < 256 → (x : Row) → state_bound m (nat_of (get_or x 0 𝟘)) ≡ row_bound s t x
unfolding state_bound row_bound live not_null_of clearable null_at
row_bound_lem s t {m} marks few x = ap (λ (n : ℕ). elim (live x) [ true ↦ suc n | false ↦ 0 ]) columns
  where
    columns : not_null_of 8 m (nat_of (get_or x 0 𝟘)) ≡ count (clearable s t x) (up_from 0 (table_of s t).columns)
    columns =
        sym (ones_left 8 m (nat_of (get_or x 0 𝟘)) few)
        ∙ ones_left (table_of s t).columns m (nat_of (get_or x 0 𝟘)) marks.below
        ∙ count_same _ _ 0 (table_of s t).columns (λ c l. ap (λ b. not (null_at x c) && b) (marks.each c (omega arith)))
