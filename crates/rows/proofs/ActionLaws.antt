-- Whether actions of a foreign key follow the change of a row of its parent table, and keys compared column by column.
-- Assumes nothing.
use mathlib.Core.Path.{◌≡◌, refl, sym, ap, ap₂, ◌∙◌}
use mathlib.Core.Bool.{Bool, true, false, not, ◌&&◌}
use mathlib.Core.List.{List, [], ◌∷◌}
use Prim.Native.Nat.{ℕ, zero, suc, ◌+◌, ◌≤◌, ◌<◌}
use native.Mathlib.Numerals.{add-one}
use native.Mathlib.Omega.{arith}
use borrow.Author.Tests.{eq-eqb}
use lib.IntN.{ℤ}
use lib.ListN.{get_or, take, drop}
use Rattle.schema.specs.Bytes.{bit}
use Rattle.schema.specs.Ranges.{all_from}
use Rattle.schema.specs.Bounds.{Columns}
use Rattle.schema.specs.Records.{ForeignKey}
use Rattle.rules.specs.Values.{nat_of, folded, same_value}
use Rattle.rules.specs.Found.{cell_is}
use Rattle.bridge.proofs.KeyLaws.{same_sym}
use Rattle.folding.proofs.FoldLaws.{folded_value}
use Rattle.rules.specs.Lists.{𝟘}
use Rattle.rules.specs.Rows.{Row, live, null_at, value_at}
use Rattle.rules.specs.Keys.{same_cell, same_key, full_key, fires}
use Rattle.bridge.proofs.MapLaws.{parent_plain, same_plain}
use Rattle.rows.specs.KeyColumns.{folds_in}
use Rattle.rows.proofs.CellLaws.{columns_step, columns_end}
use Rattle.rows.proofs.FoldLaws.{folds_step}

value_sym : (f : Bool) (u v : ℤ) → same_value f u v ≡ same_value f v u
unfolding same_value
value_sym f u v = same_sym (folded f u) (folded f v)

-- ---- the keys of two images, from place i on
module _ (x y : Row) (f n : ℕ) (cs ds : List ℕ) where
  abbrev same_from : ℕ → Bool
  same_from i = same_key (drop i (folds_in n f)) (drop i (take n cs)) (drop i (take n ds)) x y

  abbrev pub same_at : ℕ → Bool
  same_at i = same_cell (bit i f) x y (get_or cs i 0) (get_or ds i 0)

  none : (i : ℕ) → n ≤ i → true ≡ same_from i
  unfolding same_key
  none i h = ap (λ (l : List ℕ). same_key (drop i (folds_in n f)) l (drop i (take n ds)) x y) (sym (columns_end n cs i h))

  module _ {w : ℕ} (k : Columns w n cs) (l : Columns w n ds) where
    step : (i : ℕ) → i < n → same_from i ≡ elim (same_at i) [ true ↦ same_from (i + 1) | false ↦ false ]
    unfolding same_key
    step i h =
        ap (λ (fs : List Bool). same_key fs (drop i (take n cs)) (drop i (take n ds)) x y) (folds_step f n i h)
        ∙ ap₂ (λ (ls rs : List ℕ). same_key (bit i f ∷ drop (i + 1) (folds_in n f)) ls rs x y) (columns_step n cs i h (omega (arith, k.few, k.size))) (columns_step n ds i h (omega (arith, l.few, l.size)))

    all_same : (j i : ℕ) → i + j ≡ n → all_from same_at j i ≡ same_from i
    unfolding all_from
    all_same zero i e = none i (omega arith)
    all_same (suc j) i e =
        first (same_at i) (all_same j (suc i) (omega arith) ∙ ap same_from (sym (add-one i))) ∙ sym (step i (omega arith))
      where
        first : (b : Bool) {c d : Bool} → c ≡ d → b && c ≡ elim b [ true ↦ d | false ↦ false ]
        first true e = e
        first false e = refl

    pub key_same : all_from same_at n 0 ≡ same_key (folds_in n f) (take n cs) (take n ds) x y
    key_same = all_same n 0 (omega arith)

-- ---- one column of two images

turned : (a b c : Bool) → (a && b) && c ≡ b && (a && c)
turned true true c = refl
turned true false c = refl
turned false true c = refl
turned false false c = refl

module _ (x y : Row) (f : Bool) (c d : ℕ) where
  -- the value of one, as it is compared, is in the other, and neither is NULL
  pub cell_held : {v : ℤ} {b : Bool} → v ≡ folded f (get_or y (d + 1) 𝟘) → cell_is f false v c x ≡ b → b && not (bit d (nat_of (get_or y 0 𝟘))) ≡ same_cell f x y c d
  unfolding same_cell cell_is value_at null_at
  cell_held {v} {b} e h =
      let value : same_value f v (value_at x c) ≡ same_value f (value_at x c) (value_at y d) =
      ap (λ (z : ℤ). same_value f z (value_at x c)) (e ∙ ap (λ (i : ℕ). folded f (get_or y i 𝟘)) (add-one d))
      ∙ folded_value f (value_at y d) (value_at x c)
      ∙ value_sym f (value_at y d) (value_at x c) in
      ap (λ (t : Bool). t && not (null_at y d)) (sym h)
      ∙ turned (not (null_at x c)) (same_value f v (value_at x c)) (not (null_at y d))
      ∙ ap (λ (t : Bool). t && (not (null_at x c) && not (null_at y d))) value

-- ---- whether actions follow

-- of a key without a window, where the old key has no NULL and is not the new one
pub fires_rest : (new : Row) (t : ℕ) (old : Row) (k : ForeignKey) → k.windows ≡ [] → k.parent ≡ t → k.broken ≡ false → {fs : List Bool} {ps : List ℕ} → fs ≡ k.folds → ps ≡ k.parent_columns → full_key ps old && not (live new && same_key fs ps ps new old) ≡ fires new t old k
unfolding fires
fires_rest new t old k none h u f e =
    rw (f, e, parent_plain k none, same_plain k none old new, eq-eqb k.parent t h, u) refl
