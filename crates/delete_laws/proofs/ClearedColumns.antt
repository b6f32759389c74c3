-- The image that SET NULL gives a row: the key's columns NULL, every other column as it was.
-- Assumes nothing.
use mathlib.Core.Path.{◌≡◌, refl, ap, ◌∙◌}
use mathlib.Core.Bool.{Bool, true, false}
use mathlib.Core.List.{List, [], ◌∷◌}
use mathlib.Core.Logic.{inl, inr, ◌≢◌}
use Prim.Native.Nat.{ℕ, suc, ◌+◌, ◌%◌, ◌^◌, ◌<◌, ◌≤◌}
use native.Mathlib.Nat.{mod-lt}
use native.Mathlib.Omega.{arith}
use borrow.Author.Tests.{le-leb, lt-ltb, eqb-true, eqb-false}
use lib.Dec.{eqb}
use lib.IntN.{ℤ, pos}
use lib.ListN.{length, get_or, set, drop, length-set}
use lib.Pow.{pow_pos, pow_mono}
use lib.Seq.{get_or-set_same, get_or-set_other}
use Rattle.schema.specs.declared.Action.TheVariants.{SetNull}
use Rattle.schema.specs.Bytes.{bit}
use Rattle.schema.specs.Records.{Table}
use Rattle.schema.specs.ParentKey.{Mem}
use Rattle.rules.specs.Lists.{𝟘}
use Rattle.rules.specs.Values.{nat_of}
use Rattle.rules.specs.Rows.{Row, live, live_state, null_at, value_at, mask_of, live_image, normal}
use Rattle.rules.specs.Change.{flag, set_cell, fills_null, filler, refilled}
use Rattle.bridge.proofs.Tests.{and_both}
use Rattle.bridge.proofs.StateBits.{bit_low, bit_state, flag_same, flag_other}
use Rattle.bridge.proofs.RowImages.{held_at}

-- ---- column d made NULL

module _ (d : ℕ) (v : ℤ) (x : Row) (some : 0 < length x) where
  abbrev cleared : Row
  cleared = set_cell d true v x

  state_set : get_or (set_cell d true v x) 0 𝟘 ≡ pos (256 + flag d true (mask_of x))
  unfolding set_cell
  state_set =
      get_or-set_other (set x 0 (pos (256 + flag d true (mask_of x)))) (suc d) 0 v 𝟘 (omega arith)
      ∙ get_or-set_same x 0 (pos (256 + flag d true (mask_of x))) 𝟘 some

  set_some : 0 < length (set_cell d true v x)
  unfolding set_cell
  set_some = simp length-set some

  set_null : (c : ℕ) → c < 8 → null_at (set_cell d true v x) c ≡ bit c (flag d true (mask_of x))
  unfolding null_at nat_of
  set_null c h = ap (λ (z : ℤ). bit c (nat_of z)) state_set ∙ bit_state c (flag d true (mask_of x)) h

  null_same : d < 8 → null_at (set_cell d true v x) d ≡ true
  null_same h = set_null d h ∙ flag_same d (mask_of x)

  null_other : (c : ℕ) → c < 8 → c ≢ d → null_at (set_cell d true v x) c ≡ null_at x c
  unfolding null_at mask_of
  null_other c h n = set_null c h ∙ flag_other d c (mask_of x) n ∙ bit_low c 8 (nat_of (get_or x 0 𝟘)) h

  null_stays : (c : ℕ) → c < 8 → null_at x c ≡ true → null_at (set_cell d true v x) c ≡ true
  null_stays c h e = by (eqb c d) refl
    where
      by : (t : Bool) → eqb c d ≡ t → null_at cleared c ≡ true
      by true q = rw (eqb-true c d q) (null_same (rw (← (eqb-true c d q)) h))
      by false q = null_other c h (eqb-false c d q) ∙ e

  value_other : (c : ℕ) → c ≢ d → value_at (set_cell d true v x) c ≡ value_at x c
  unfolding set_cell value_at
  value_other c n =
      get_or-set_other (set x 0 (pos (256 + flag d true (mask_of x)))) (suc d) (suc c) v 𝟘 (λ e. n (let q : c ≡ d = omega arith in q))
      ∙ get_or-set_other x 0 (suc c) (pos (256 + flag d true (mask_of x))) 𝟘 (omega arith)

-- ---- the columns of a key made NULL

module _ (t : Table) (parent : Row) where
  -- a column that is NULL stays so
  pub null_kept : (cs ps : List ℕ) (x : Row) → 0 < length x → (c : ℕ) → c < 8 → null_at x c ≡ true → null_at (refilled SetNull t parent cs ps x) c ≡ true
  unfolding refilled fills_null filler
  null_kept [] ps x h c l e = e
  null_kept (d ∷ cs) [] x h c l e = e
  null_kept (d ∷ cs) (p ∷ ps) x h c l e = null_kept cs ps (set_cell d true 𝟘 x) (set_some d 𝟘 x h) c l (null_stays d 𝟘 x h c l e)

  -- the first is NULL
  pub null_first : (d p : ℕ) (cs ps : List ℕ) (x : Row) → 0 < length x → d < 8 → null_at (refilled SetNull t parent (d ∷ cs) (p ∷ ps) x) d ≡ true
  unfolding refilled fills_null filler
  null_first d p cs ps x h l = null_kept cs ps (set_cell d true 𝟘 x) (set_some d 𝟘 x h) d l (null_same d 𝟘 x h l)

  -- a column that is none of them is as it was
  pub null_beside : (cs ps : List ℕ) (x : Row) → 0 < length x → (c : ℕ) → c < 8 → (Mem c cs → ⊥) → null_at (refilled SetNull t parent cs ps x) c ≡ null_at x c
  unfolding refilled fills_null filler Mem
  null_beside [] ps x h c l n = refl
  null_beside (d ∷ cs) [] x h c l n = refl
  null_beside (d ∷ cs) (p ∷ ps) x h c l n =
      null_beside cs ps (set_cell d true 𝟘 x) (set_some d 𝟘 x h) c l (λ m. n (inr m)) ∙ null_other d 𝟘 x h c l (λ e. n (inl e))

  pub value_beside : (cs ps : List ℕ) (x : Row) → 0 < length x → (c : ℕ) → (Mem c cs → ⊥) → value_at (refilled SetNull t parent cs ps x) c ≡ value_at x c
  unfolding refilled fills_null filler Mem
  value_beside [] ps x h c n = refl
  value_beside (d ∷ cs) [] x h c n = refl
  value_beside (d ∷ cs) (p ∷ ps) x h c n =
      value_beside cs ps (set_cell d true 𝟘 x) (set_some d 𝟘 x h) c (λ m. n (inr m)) ∙ value_other d 𝟘 x h c (λ e. n (inl e))

-- ---- a row as it is written

module _ (columns : ℕ) (few : columns ≤ 8) (y : Row) where
  pub normal_live : live (normal columns y) ≡ true
  unfolding normal live_image live live_state nat_of
  normal_live =
      let m : ℕ = mask_of y % 2 ^ columns in
      let l : m < 2 ^ columns = mod-lt (mask_of y) (pow_pos columns) in
      let b : 2 ^ columns ≤ 256 = pow_mono {j = 8} few in
      and_both (le-leb 256 (256 + m) (omega arith)) (lt-ltb (256 + m) 512 (omega arith))

  pub normal_null : (c : ℕ) → c < columns → null_at (normal columns y) c ≡ null_at y c
  unfolding normal live_image null_at nat_of mask_of
  normal_null c h =
      bit_state c (mask_of y % 2 ^ columns) (omega arith) ∙ bit_low c columns (mask_of y) h ∙ bit_low c 8 (nat_of (get_or y 0 𝟘)) (omega arith)

  pub normal_value : (c : ℕ) → c < columns → null_at y c ≡ false → value_at (normal columns y) c ≡ value_at y c
  unfolding normal live_image null_at value_at mask_of
  normal_value c h e =
      let z : 0 + c ≡ c = omega arith in
      held_at (mask_of y) 0 (drop 1 y) c (ap (λ (k : ℕ). bit k (mask_of y)) z ∙ bit_low c 8 (nat_of (get_or y 0 𝟘)) (omega arith) ∙ e) ∙ shift y c
    where
      shift : (y : Row) (c : ℕ) → get_or (drop 1 y) c 𝟘 ≡ get_or y (suc c) 𝟘
      shift [] c = refl
      shift (w ∷ y) c = refl
