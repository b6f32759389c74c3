-- Keys as plain values: what a row must hold to have one, and the key of an image.
-- Assumes nothing.
use mathlib.Core.Path.{◌≡◌, refl, sym, ap, ap₂, ◌∙◌}
use mathlib.Core.Bool.{Bool, true, false, not, ◌&&◌, and-true, and-false}
use mathlib.Core.List.{List, ◌∷◌}
use Prim.Native.Nat.{ℕ, zero, suc, ◌+◌, ◌≤◌, ◌<◌}
use native.Mathlib.Numerals.{add-one}
use native.Mathlib.Omega.{arith}
use lib.IntN.{ℤ}
use lib.ListN.{length, get_or, take, drop}
use Rattle.schema.specs.Bounds.{Columns}
use Rattle.schema.specs.Bytes.{bit}
use Rattle.schema.specs.Ranges.{all_from}
use Rattle.schema.proofs.RangeLaws.{and_right}
use Rattle.rules.specs.Lists.{𝟘, any, count}
use Rattle.rules.specs.Values.{nat_of, same_word, folded, same_value}
use Rattle.rules.specs.Rows.{Row, live, null_at, value_at}
use Rattle.rules.specs.Keys.{full_key}
use Rattle.rules.specs.Found.{cell_is}
use Rattle.rules.specs.KeyValues.{key_values, holds_key, has_key}
use Rattle.bridge.proofs.Tests.{fails}
use Rattle.bridge.proofs.KeyLaws.{same_sym}
use Rattle.bridge.proofs.ValueLaws.{key_values_lem}
use Rattle.folding.proofs.FoldLaws.{kept_value}
use Rattle.rows.specs.declared.SoughtKey.{SoughtKey}
use Rattle.rows.specs.KeyColumns.{folds_in}
use Rattle.rows.specs.Sought.{sought_folds, sought_columns, sought_values, compared_values, has_value, has_sought, SoughtIn, with_key, SoughtOf}
use Rattle.rows.proofs.FoldLaws.{folds_step, holds_compared, compared_kept}
use Rattle.rows.proofs.CellLaws.{part_step, columns_step, columns_end, widen}

-- ---- one value
module _ (row : Row) (f : Bool) (c : ℕ) (v : ℤ) (k : folded f v ≡ v) where
  value_is : {b : Bool} → same_word (folded f (get_or row (c + 1) 𝟘)) v ≡ b → same_value f v (value_at row c) ≡ b
  unfolding value_at
  value_is e =
      kept_value f v (get_or row (suc c) 𝟘) k
      ∙ same_sym v (folded f (get_or row (suc c) 𝟘))
      ∙ ap (λ (i : ℕ). same_word (folded f (get_or row i 𝟘)) v) (sym (add-one c))
      ∙ e

  pub value_differs : same_word (folded f (get_or row (c + 1) 𝟘)) v ≡ false → false ≡ cell_is f false v c row
  unfolding cell_is
  value_differs e = sym (ap (λ (t : Bool). not (null_at row c) && t) (value_is e) ∙ and-false (not (null_at row c)))

  pub value_same : same_word (folded f (get_or row (c + 1) 𝟘)) v ≡ true → not (bit c (nat_of (get_or row 0 𝟘))) ≡ cell_is f false v c row
  unfolding cell_is null_at
  value_same e = sym (ap (λ (t : Bool). not (bit c (nat_of (get_or row 0 𝟘))) && t) (value_is e) ∙ and-true (not (bit c (nat_of (get_or row 0 𝟘)))))

-- ---- all of them
module _ (f n : ℕ) (cs : List ℕ) (vs : List ℤ) (x : Row) where
  abbrev held_from : ℕ → Bool
  held_from i = holds_key (drop i (folds_in n f)) (drop i (take n cs)) (drop i (take n vs)) x

  abbrev pub held_at : ℕ → Bool
  held_at i = cell_is (bit i f) false (get_or vs i 𝟘) (get_or cs i 0) x

  none : (i : ℕ) → n ≤ i → true ≡ held_from i
  unfolding holds_key
  none i h = ap (λ (l : List ℕ). holds_key (drop i (folds_in n f)) l (drop i (take n vs)) x) (sym (columns_end n cs i h))

  module _ {w : ℕ} (k : Columns w n cs) (size : length vs ≡ 8) where
    step : (i : ℕ) → i < n → held_from i ≡ held_at i && held_from (i + 1)
    unfolding holds_key
    step i h =
        ap (λ (l : List Bool). holds_key l (drop i (take n cs)) (drop i (take n vs)) x) (folds_step f n i h)
        ∙ ap₂ (λ (l : List ℕ) (m : List ℤ). holds_key (bit i f ∷ drop (i + 1) (folds_in n f)) l m x) (columns_step n cs i h (omega (arith, k.few, k.size)))
        (part_step 𝟘 n vs i h (omega (arith, k.few, size)))

    all_held : (j i : ℕ) → i + j ≡ n → all_from held_at j i ≡ held_from i
    unfolding all_from
    all_held zero i e = none i (omega arith)
    all_held (suc j) i e =
        ap (λ (b : Bool). held_at i && b) (all_held j (suc i) (omega arith) ∙ ap held_from (sym (add-one i))) ∙ sym (step i (omega arith))

    pub key_held : all_from held_at n 0 ≡ holds_key (folds_in n f) (take n cs) (take n vs) x
    key_held = all_held n 0 (omega arith)

-- ---- of a live row
module _ (x : Row) {b : Bool} where
  not_held : b ≡ false → false ≡ live x && b
  not_held e = sym (ap (λ (t : Bool). live x && t) e ∙ and-false (live x))

  held_live : b ≡ true → live x ≡ live x && b
  held_live e = sym (ap (λ (t : Bool). live x && t) e ∙ and-true (live x))

module _ (x : Row) where
  pub value_not : (c : ℕ) (v : ℤ) → cell_is false false v c x ≡ false → false ≡ has_value c v x
  unfolding has_value
  value_not c v e = not_held x e

  pub value_live : (c : ℕ) (v : ℤ) → cell_is false false v c x ≡ true → live x ≡ has_value c v x
  unfolding has_value
  value_live c v e = held_live x e

  module _ (key : SoughtKey) where
    pub sought_not : holds_key (sought_folds key) (sought_columns key) (sought_values key) x ≡ false → false ≡ has_sought key x
    unfolding has_sought has_key
    sought_not e = not_held x e

    pub sought_live : holds_key (sought_folds key) (sought_columns key) (sought_values key) x ≡ true → live x ≡ has_sought key x
    unfolding has_sought has_key
    sought_live e = held_live x e

-- ---- the key of an image
pub sought_is : (f n : ℕ) (cs ds : List ℕ) (image : Row) (vs : List ℤ) → length vs ≡ 8 → full_key (take n ds) image ≡ true → take n vs ≡ compared_values (folds_in n f) (key_values (take n ds) image)
    → SoughtOf f n cs ds image (record { n = n; folded = f; cs = cs; vs = vs })
unfolding has_sought has_key with_key full_key
sought_is f n cs ds image vs l full e =
    record {
      folded_is = refl;
      width_is = refl;
      columns_are = refl;
      values_are = e;
      size = l;
      same = λ row.
          ap (λ (b : Bool). live row && b)
          (ap (λ (v : List ℤ). holds_key (folds_in n f) (take n cs) v row) e
          ∙ holds_compared row (folds_in n f) (take n cs) (key_values (take n ds) image)
          ∙ key_values_lem image row (folds_in n f) (take n cs) (take n ds) (fails (any (null_at image) (take n ds)) (and_right (live image) _ full)));
    }

pub sought_in : {w f n : ℕ} {cs ds : List ℕ} {image : Row} {key : SoughtKey} → Columns w n cs → SoughtOf f n cs ds image key → SoughtIn w key
sought_in {f = f} {n} {ds = ds} {image} {key} k s =
    record {
      columns = rw (s.width_is, s.columns_are) k;
      size = s.size;
      compared = rw (s.width_is, s.folded_is) (compared_kept f n (key_values (take n ds) image) key.vs (omega (arith, k.few, s.size)) s.values_are);
    }

pub widen_sought : {w : ℕ} {key : SoughtKey} → w ≤ 9 → SoughtIn w key → SoughtIn 9 key
widen_sought h k = record { columns = widen h k.columns; size = k.size; compared = k.compared }

-- ---- rows with the key of an image, sought by its values
module _ {f n : ℕ} {cs ds : List ℕ} {image : Row} {key : SoughtKey} (s : SoughtOf f n cs ds image key) where
  pub sought_ready : {w : ℕ} → 1 ≤ n → Columns w n cs → (1 ≤ key.n) × SoughtIn w key
  sought_ready h k = (omega (arith, h, s.width_is), sought_in k s)

  pub any_sought : (ys : List Row) → any (has_sought key) ys ≡ any (with_key (folds_in n f) (take n cs) (take n ds) image) ys
  any_sought ys = λ i. any (λ y. s.same y i) ys

  pub count_sought : (ys : List Row) → count (has_sought key) ys ≡ count (with_key (folds_in n f) (take n cs) (take n ds) image) ys
  count_sought ys = λ i. count (λ y. s.same y i) ys
