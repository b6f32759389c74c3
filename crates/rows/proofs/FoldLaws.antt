-- Which pairs of a key are folded, as the bits of a number; values as their columns compare them.
-- Assumes nothing.
use mathlib.Core.Path.{◌≡◌, refl, sym, ap, ap₂, ◌∙◌}
use mathlib.Core.Bool.{Bool, true, false, not, ◌&&◌}
use mathlib.Core.List.{List, [], ◌∷◌, map}
use Prim.Native.Nat.{ℕ, zero, suc, ◌+◌, ◌≤◌, ◌<◌}
use native.Mathlib.Numerals.{add-one}
use native.Mathlib.Omega.{arith}
use borrow.Author.Tests.{eqb-true, eqb-false}
use lib.IntN.{ℤ}
use lib.Dec.{eqb}
use lib.ListN.{length, get_or, set, take, drop, length-map}
use lib.Seq.{ext_get_or, get_or-take, get_or-set_same, get_or-set_other, length-take-le, drop-cons}
use Rattle.schema.specs.Bytes.{bit, folds_of}
use Rattle.schema.specs.Marks.{Marks}
use Rattle.schema.proofs.ListLaws.{length_from, get_list, get_map}
use Rattle.schema.proofs.MaskLaws.{bit_none}
use Rattle.rules.specs.Lists.{𝟘}
use Rattle.rules.specs.Values.{folded}
use Rattle.rules.specs.Rows.{Row, null_at, value_at}
use Rattle.rules.specs.Found.{cell_is}
use Rattle.rules.specs.KeyValues.{key_values, holds_key}
use Rattle.folding.proofs.FoldLaws.{fold_again, folded_value}
use Rattle.rows.specs.KeyColumns.{folds_in}
use Rattle.rows.specs.Sought.{compared_values}

-- ---- which places are folded
module _ (f n : ℕ) where
  pub folds_get : (i : ℕ) → i < n → get_or (folds_in n f) i false ≡ bit i f
  unfolding folds_in
  folds_get i h = get_list (λ j. bit j f) n i false h

  folds_length : length (folds_in n f) ≡ n
  unfolding folds_in
  folds_length = length_from (λ j. bit j f) n 0

  pub folds_step : (i : ℕ) → i < n → drop i (folds_in n f) ≡ bit i f ∷ drop (i + 1) (folds_in n f)
  folds_step i h =
      drop-cons (folds_in n f) i false (omega (arith, folds_length))
      ∙ ap₂ (λ (b : Bool) (j : ℕ). b ∷ drop j (folds_in n f)) (folds_get i h) (sym (add-one i))

-- bit i of f for the column of place i
pub folds_of_lem : (f mask n : ℕ) (cs : List ℕ) → n ≤ length cs → ((i : ℕ) → i < n → bit i f ≡ bit (get_or cs i 0) mask) → folds_in n f ≡ folds_of mask (take n cs)
unfolding folds_of
folds_of_lem f mask n cs l e =
    let size : length (take n cs) ≡ n = length-take-le n cs l in
    ext_get_or false (folds_in n f) (map (λ c. bit c mask) (take n cs)) (folds_length f n ∙ sym size ∙ sym (length-map (take n cs) (λ c. bit c mask)))
    (λ i h.
    let b : i < n = omega (arith, folds_length f n) in
    folds_get f n i b
    ∙ e i b
    ∙ ap (λ c. bit c mask) (sym (get_or-take n cs i 0 b))
    ∙ sym (get_map (λ c. bit c mask) (take n cs) i 0 false (omega arith)))

-- none, where the mask has no column
pub folds_none : (n : ℕ) (cs : List ℕ) {mask : ℕ} → n ≤ length cs → mask ≡ 0 → folds_in n 0 ≡ folds_of mask (take n cs)
folds_none n cs {mask} l e = folds_of_lem 0 mask n cs l (λ i h. bit_none i ∙ sym (ap (bit (get_or cs i 0)) e ∙ bit_none (get_or cs i 0)))

-- by the bits gathered place by place
pub folds_marked : (f mask n : ℕ) (cs : List ℕ) → n ≤ length cs → Marks (λ i. bit (get_or cs i 0) mask) n f → folds_in n f ≡ folds_of mask (take n cs)
folds_marked f mask n cs l m = folds_of_lem f mask n cs l m.each

-- ---- values as their columns compare them
next_mark : (fs : List Bool) (i : ℕ) → get_or (drop 1 fs) i false ≡ get_or fs (suc i) false
next_mark [] i = refl
next_mark (f ∷ fs) i = refl

compared_length : (fs : List Bool) (vs : List ℤ) → length (compared_values fs vs) ≡ length vs
unfolding compared_values
compared_length fs [] = refl
compared_length fs (v ∷ vs) = ap suc (compared_length (drop 1 fs) vs)

compared_get : (fs : List Bool) (vs : List ℤ) (i : ℕ) → i < length vs → get_or (compared_values fs vs) i 𝟘 ≡ folded (get_or fs i false) (get_or vs i 𝟘)
unfolding compared_values
compared_get fs [] i h = absurd (omega arith)
compared_get fs (v ∷ vs) zero h = refl
compared_get fs (v ∷ vs) (suc i) h = compared_get (drop 1 fs) vs i (omega arith) ∙ ap (λ (b : Bool). folded b (get_or vs i 𝟘)) (next_mark fs i)

-- the same rows hold them
pub holds_compared : (row : Row) (fs : List Bool) (cs : List ℕ) (vs : List ℤ) → holds_key fs cs (compared_values fs vs) row ≡ holds_key fs cs vs row
unfolding holds_key compared_values cell_is
holds_compared row fs [] vs = refl
holds_compared row fs (c ∷ cs) [] = refl
holds_compared row fs (c ∷ cs) (v ∷ vs) =
    ap₂ (λ (a b : Bool). (not (null_at row c) && a) && b) (folded_value (get_or fs 0 false) v (value_at row c)) (holds_compared row (drop 1 fs) cs vs)

-- compared once more they stay
pub compared_kept : (f n : ℕ) (vs xs : List ℤ) → n ≤ length xs → take n xs ≡ compared_values (folds_in n f) vs → (i : ℕ) → i < n → folded (bit i f) (get_or xs i 𝟘) ≡ get_or xs i 𝟘
compared_kept f n vs xs l e i h =
    let size : length vs ≡ n = sym (compared_length (folds_in n f) vs) ∙ ap length (sym e) ∙ length-take-le n xs l in
    let at : get_or xs i 𝟘 ≡ folded (bit i f) (get_or vs i 𝟘) =
    sym (get_or-take n xs i 𝟘 h)
    ∙ ap (λ (l : List ℤ). get_or l i 𝟘) e
    ∙ compared_get (folds_in n f) vs i (omega (arith, size, h))
    ∙ ap (λ (b : Bool). folded b (get_or vs i 𝟘)) (folds_get f n i h) in
    ap (folded (bit i f)) at ∙ fold_again (bit i f) (get_or vs i 𝟘) ∙ sym at

-- ---- the values of an image in columns ds, gathered place by place
module _ (image : Row) (f : ℕ) (ds : List ℕ) where
  -- the first i of vs are as they are compared
  abbrev pub Gathered : ℕ → List ℤ → Type 0
  Gathered i vs = (j : ℕ) → j < i → get_or vs j 𝟘 ≡ folded (bit j f) (value_at image (get_or ds j 0))

  pub gathered_more : (i : ℕ) (vs : List ℤ) {v : ℤ} → i < length vs → Gathered i vs → v ≡ folded (bit i f) (get_or image (get_or ds i 0 + 1) 𝟘) → Gathered (i + 1) (set vs i v)
  unfolding value_at
  gathered_more i vs {v} l g e j h = at (eqb j i) refl
    where
      at : (t : Bool) → eqb j i ≡ t → get_or (set vs i v) j 𝟘 ≡ folded (bit j f) (get_or image (suc (get_or ds j 0)) 𝟘)
      at true q = let r : j ≡ i = eqb-true j i q in rw r (get_or-set_same vs i v 𝟘 l ∙ e ∙ ap (λ (m : ℕ). folded (bit i f) (get_or image m 𝟘)) (add-one (get_or ds i 0)))
      at false q = let r : j ≡ i → ⊥ = eqb-false j i q in get_or-set_other vs i j v 𝟘 r ∙ g j (omega arith)

  pub gathered_all : (vs : List ℤ) → length ds ≤ length vs → Gathered (length ds) vs → take (length ds) vs ≡ compared_values (folds_in (length ds) f) (key_values ds image)
  unfolding key_values
  gathered_all vs k g =
      let n : ℕ = length ds in
      let many : length (map (value_at image) ds) ≡ n = length-map ds (value_at image) in
      let width : length (take n vs) ≡ n = length-take-le n vs k in
      ext_get_or 𝟘 (take n vs) (compared_values (folds_in n f) (map (value_at image) ds)) (width ∙ sym many ∙ sym (compared_length (folds_in n f) (map (value_at image) ds)))
      (λ i h.
      let b : i < n = omega (arith, width) in
      get_or-take n vs i 𝟘 b
      ∙ g i b
      ∙ ap₂ folded (sym (folds_get f n i b)) (sym (get_map (value_at image) ds i 0 𝟘 b))
      ∙ sym (compared_get (folds_in n f) (map (value_at image) ds) i (omega (arith, many))))
