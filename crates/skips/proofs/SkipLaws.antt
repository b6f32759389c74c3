-- Rows that are passed over do not pass the test; rows without the words of a sought key have not the key.
-- Assumes nothing.
use mathlib.Core.Path.{◌≡◌, refl, sym, ◌∙◌, ap}
use mathlib.Core.Bool.{Bool, true, false, not, ◌&&◌, ◌||◌, true≢false, false≢true, and-false}
use mathlib.Core.List.{List, [], ◌∷◌}
use Prim.Native.Nat.{ℕ, zero, suc, ◌+◌, ◌*◌, ◌-◌, ◌≤◌, ◌<◌}
use native.Mathlib.Nat.{mul-le-mul_right}
use native.Mathlib.Numerals.{add-one}
use native.Mathlib.Omega.{arith}
use borrow.Author.Tests.{leb-true, leb-false}
use lib.Dec.{leb}
use lib.IntN.{ℤ}
use lib.ListN.{length, get_or, take, drop}
use lib.Seq.{get_or-take, get_or-drop}
use Rattle.schema.specs.Bytes.{bit}
use Rattle.schema.proofs.RangeLaws.{and_left, and_right}
use Rattle.schema.proofs.MaskLaws.{bit_none}
use Rattle.rules.specs.Lists.{𝟘}
use Rattle.rules.specs.Values.{same_word, folded, same_value}
use Rattle.rules.specs.Rows.{Row, live, null_at, value_at}
use Rattle.rules.specs.Found.{cell_is}
use Rattle.rules.specs.KeyValues.{holds_key, has_key}
use Rattle.bridge.specs.Ready.{row_in}
use Rattle.bridge.proofs.Bits.{same_refl}
use Rattle.bridge.proofs.Tests.{and_both}
use Rattle.bridge.proofs.KeyLaws.{same_sym}
use Rattle.rows.specs.declared.SoughtKey.{SoughtKey}
use Rattle.rows.specs.declared.TableRows.{TableRows}
use Rattle.rows.specs.Standing.{Standing, rows_in}
use Rattle.rows.specs.Sought.{sought_folds, sought_columns, sought_values, has_value, has_sought, SoughtIn}
use Rattle.rows.proofs.TableLaws.{row_get}
use Rattle.rows.proofs.FoldLaws.{folds_get}
use Rattle.folding.specs.Masks.{masked, first_mask}
use Rattle.folding.proofs.FoldLaws.{masked_same}
use Rattle.skips.specs.declared.Word.{Word}
use Rattle.skips.specs.declared.MaskedWord.{MaskedWord}
use Rattle.skips.specs.declared.Both.{Both}
use Rattle.skips.specs.Skipped.{has_word, has_masked, both, word_of, first_words, masked_word, masked_pair, one_of_four, Skipped}

-- ---- a row that has a sought key has its words

-- the value of a cell, compared folded or not
value_held : (row : Row) (f : Bool) (c : ℕ) (v : ℤ) → cell_is f false v c row ≡ true → same_value f v (get_or row (suc c) 𝟘) ≡ true
unfolding cell_is value_at
value_held row f c v h = and_right (not (null_at row c)) (same_value f v (get_or row (suc c) 𝟘)) h

value_word : (row : Row) (c : ℕ) (v : ℤ) → cell_is false false v c row ≡ true → has_word (record { place = suc c; value = v }) row ≡ true
unfolding has_word same_value folded
value_word row c v h = same_sym (get_or row (suc c) 𝟘) v ∙ value_held row false c v h

value_masked : (row : Row) (f : Bool) (c : ℕ) (v : ℤ) → cell_is f false v c row ≡ true → same_word (masked (first_mask f) (get_or row (suc c) 𝟘)) (masked (first_mask f) v) ≡ true
value_masked row f c v h =
    ap (same_word (masked (first_mask f) (get_or row (suc c) 𝟘))) (masked_same f v (get_or row (suc c) 𝟘) (value_held row f c v h))
    ∙ same_refl (masked (first_mask f) (get_or row (suc c) 𝟘))

held_at : (row : Row) (fs : List Bool) (n i : ℕ) (cs : List ℕ) (vs : List ℤ) → i < n → n ≤ length cs → n ≤ length vs → holds_key fs (take n cs) (take n vs) row ≡ true → cell_is (get_or fs i false) false (get_or vs i 𝟘) (get_or cs i 0) row ≡ true
unfolding holds_key
held_at row fs zero i cs vs h l m e = absurd (omega arith)
held_at row fs (suc n) i [] vs h l m e = absurd (omega arith)
held_at row fs (suc n) i (c ∷ cs) [] h l m e = absurd (omega arith)
held_at row fs (suc n) zero (c ∷ cs) (v ∷ vs) h l m e = and_left (cell_is (get_or fs 0 false) false v c row) (holds_key (drop 1 fs) (take n cs) (take n vs) row) e
held_at row fs (suc n) (suc i) (c ∷ cs) (v ∷ vs) h l m e =
    ap (λ f. cell_is f false (get_or vs i 𝟘) (get_or cs i 0) row) (next fs)
    ∙ held_at row (drop 1 fs) n i cs vs (omega arith) (omega arith) (omega arith) (and_right (cell_is (get_or fs 0 false) false v c row) (holds_key (drop 1 fs) (take n cs) (take n vs) row) e)
  where
    next : (fs : List Bool) → get_or fs (suc i) false ≡ get_or (drop 1 fs) i false
    next [] = refl
    next (f ∷ fs) = refl

module _ (key : SoughtKey) {w : ℕ} (k : SoughtIn w key) where
  cell_at : (row : Row) (i : ℕ) → i < key.n → has_sought key row ≡ true → cell_is (bit i key.folded) false (get_or key.vs i 𝟘) (get_or key.cs i 0) row ≡ true
  unfolding has_sought has_key
  cell_at row i h e =
      ap (λ f. cell_is f false (get_or key.vs i 𝟘) (get_or key.cs i 0) row) (sym (folds_get key.folded key.n i h))
      ∙ held_at row (sought_folds key) key.n i key.cs key.vs h (omega (arith, k.columns.few, k.columns.size)) (omega (arith, k.columns.few, k.size)) (and_right (live row) (holds_key (sought_folds key) (sought_columns key) (sought_values key) row) e)

  -- a column of a key with none folded
  module _ (plain : key.folded ≡ 0) where
    word_with : (i : ℕ) → i < key.n → (row : Row) → has_sought key row ≡ true → has_word (word_of key i) row ≡ true
    unfolding word_of
    word_with i h row e =
        value_word row (get_or key.cs i 0) (get_or key.vs i 𝟘)
        (ap (λ f. cell_is f false (get_or key.vs i 𝟘) (get_or key.cs i 0) row) (sym (ap (bit i) plain ∙ bit_none i)) ∙ cell_at row i h e)

    pub words_with : 2 ≤ key.n → (row : Row) → has_sought key row ≡ true → both (has_word (word_of key 0)) (has_word (word_of key 1)) row ≡ true
    unfolding both
    words_with two row e = and_both (word_with 0 (omega (arith, two)) row e) (word_with 1 (omega (arith, two)) row e)

  -- a column of any key
  pub masked_with : (i : ℕ) → i < key.n → (row : Row) → has_sought key row ≡ true → has_masked (masked_word key i) row ≡ true
  unfolding has_masked masked_word
  masked_with i h row e = value_masked row (bit i key.folded) (get_or key.cs i 0) (get_or key.vs i 𝟘) (cell_at row i h e)

  pub masks_with : 2 ≤ key.n → (row : Row) → has_sought key row ≡ true → both (has_masked (masked_word key 0)) (has_masked (masked_word key 1)) row ≡ true
  unfolding both
  masks_with two row e = and_both (masked_with 0 (omega (arith, two)) row e) (masked_with 1 (omega (arith, two)) row e)

  -- they are words of a row of w words
  pub word_within : (i : ℕ) → i < key.n → (word_of key i).place < w
  unfolding word_of
  word_within i h = k.columns.within i h

  pub masked_within : (i : ℕ) → i < key.n → (masked_word key i).place < w
  unfolding masked_word
  masked_within i h = k.columns.within i h

pub word_of_value : (c : ℕ) (v : ℤ) (row : Row) → has_value c v row ≡ true → has_word (record { place = suc c; value = v }) row ≡ true
unfolding has_value
word_of_value c v row e = value_word row c v (and_right (live row) (cell_is false false v c row) e)

-- ---- two tests

-- where all that pass the second pass the first, both are the second
pub told : {p q : Row → Bool} → ((row : Row) → q row ≡ true → p row ≡ true) → (row : Row) → both p q row ≡ q row
unfolding both
told {p} {q} f row = by (q row) refl
  where
    by : (b : Bool) → q row ≡ b → p row && q row ≡ q row
    by true e = ap (λ (b : Bool). b && q row) (f row e)
    by false e = ap (λ (b : Bool). p row && b) e ∙ and-false (p row) ∙ sym e

pub both_pass : (p q : Row → Bool) (row : Row) → p row ≡ true → q row ≡ true → true ≡ both p q row
unfolding both
both_pass p q row e f = sym (and_both e f)

pub second_fails : (p q : Row → Bool) (row : Row) → q row ≡ false → both p q row ≡ false
unfolding both
second_fails p q row e = ap (λ (b : Bool). p row && b) e ∙ and-false (p row)

pub first_fails : (p q : Row → Bool) (row : Row) → p row ≡ false → both p q row ≡ false
unfolding both
first_fails p q row e = rw e refl

-- rows that are passed over
pub passed_by : {p q : Row → Bool} {a : List ℤ} {t : TableRows} {from x : ℕ} → ((row : Row) → q row ≡ false → p row ≡ false) → Skipped q a t from x → Skipped p a t from x
passed_by f h = record { low = h.low; high = h.high; none = λ j l m. f _ (h.none j l m) }

never : {a b : Bool} → (a ≡ true → b ≡ true) → b ≡ false → a ≡ false
never {a = true} f e = absurd (false≢true (sym e ∙ f refl))
never {a = false} f e = refl

-- those passed over for the words of the first two columns of a key have not the key
pub key_passed : {a : List ℤ} {t : TableRows} {from x : ℕ} (key : SoughtKey) → 2 ≤ key.n → key.folded ≡ 0 → {w : ℕ} → SoughtIn w key → {s : Both Word Word} → s ≡ first_words key → Skipped (both (has_word s.first) (has_word s.second)) a t from x → Skipped (has_sought key) a t from x
unfolding first_words
key_passed key two plain k e =
    passed_by (λ row h. never (words_with key k plain two row) (ap (λ (s : Both Word Word). both (has_word s.first) (has_word s.second) row) (sym e) ∙ h))

-- those passed over for the masked word of a column of a key have not the key
pub masked_passed : {a : List ℤ} {t : TableRows} {from x : ℕ} (key : SoughtKey) (i : ℕ) → i < key.n → {w : ℕ} → SoughtIn w key → {s : MaskedWord} → s ≡ masked_word key i → Skipped (has_masked s) a t from x → Skipped (has_sought key) a t from x
masked_passed key i l k e = passed_by (λ row h. never (masked_with key k i l row) (ap (λ (s : MaskedWord). has_masked s row) (sym e) ∙ h))

-- those passed over for the masked words of its first two columns have not the key
pub far_passed : {a : List ℤ} {t : TableRows} {from x : ℕ} (key : SoughtKey) → 2 ≤ key.n → {w : ℕ} → SoughtIn w key → {s : Both MaskedWord MaskedWord} → s ≡ masked_pair key → Skipped (both (has_masked s.first) (has_masked s.second)) a t from x → Skipped (has_sought key) a t from x
unfolding masked_pair
far_passed key two k e =
    passed_by (λ row h. never (masks_with key k two row) (ap (λ (s : Both MaskedWord MaskedWord). both (has_masked s.first) (has_masked s.second) row) (sym e) ∙ h))

-- those passed over for a word have not its value
pub value_passed : {a : List ℤ} {t : TableRows} {from x : ℕ} (c : ℕ) (v : ℤ) → Skipped (has_word (record { place = c + 1; value = v })) a t from x → Skipped (has_value c v) a t from x
value_passed c v = passed_by (λ row h. never (word_of_value c v row) (ap (λ (m : ℕ). has_word (record { place = m; value = v }) row) (sym (add-one c)) ∙ h))

-- ---- one row, four rows

pub word_is : (a : List ℤ) (p w : ℕ) (s : Word) → s.place < w → same_word (get_or a (p + s.place) 𝟘) s.value ≡ has_word s (row_in a p w)
unfolding has_word row_in
word_is a p w s h = ap (λ z. same_word z s.value) (sym (get_or-take w (drop p a) s.place 𝟘 h ∙ get_or-drop p a s.place 𝟘))

pub masked_is : (a : List ℤ) (p w : ℕ) (s : MaskedWord) → s.place < w → same_word (masked s.mask (get_or a (p + s.place) 𝟘)) s.value ≡ has_masked s (row_in a p w)
unfolding has_masked row_in
masked_is a p w s h = ap (λ z. same_word (masked s.mask z) s.value) (sym (get_or-take w (drop p a) s.place 𝟘 h ∙ get_or-drop p a s.place 𝟘))

module _ (p : Row → Bool) (a : List ℤ) (start w j : ℕ) where
  pub four_is : one_of_four p a start w j ≡ p (row_in a (start + j * w) w) || (p (row_in a (start + j * w + w) w) || (p (row_in a (start + j * w + w + w) w) || p (row_in a (start + j * w + w + w + w) w)))
  unfolding one_of_four
  four_is =
      let p1 : start + (j + 1) * w ≡ start + j * w + w = omega arith in
      let p2 : start + (j + 2) * w ≡ start + j * w + w + w = omega arith in
      let p3 : start + (j + 3) * w ≡ start + j * w + w + w + w = omega arith in
      rw (p1, p2, p3) refl

-- the four are in the area
pub four_within : (a : List ℤ) (t : TableRows) (j : ℕ) → Standing a t → j + 4 ≤ t.count → t.start + j * t.width + t.width + t.width + t.width + t.width ≤ length a
four_within a t j s h = omega (arith, mul-le-mul_right t.width h, s.within)

none_of : (a b c d : Bool) → a || (b || (c || d)) ≡ false → (a ≡ false) × ((b ≡ false) × ((c ≡ false) × (d ≡ false)))
none_of true b c d h = absurd (true≢false h)
none_of false true c d h = absurd (true≢false h)
none_of false false true d h = absurd (true≢false h)
none_of false false false d h = (refl, (refl, (refl, h)))

-- ---- the loop
module _ (p : Row → Bool) (a : List ℤ) (t : TableRows) (from : ℕ) where
  -- before the first row none is passed over
  pub skip_start : from ≤ t.count → Skipped p a t from from
  skip_start h = record { low = omega arith; high = h; none = λ j l m. absurd (omega (arith, l, m)) }

  -- the row in the words
  abbrev passes : ℕ → Bool
  passes k = p (row_in a (t.start + k * t.width) t.width)

  -- none of four rows from row j on
  abbrev FourFail : ℕ → Type 0
  FourFail j = (passes j ≡ false) × ((passes (j + 1) ≡ false) × ((passes (j + 2) ≡ false) × (passes (j + 3) ≡ false)))

  four_fail : (j : ℕ) → j + 4 ≤ t.count → FourFail j → (i : ℕ) → j ≤ i → i < j + 4 → p (get_or (rows_in a t) i []) ≡ false
  four_fail j l f i low high = by (i - j) (omega (arith, low))
    where
      row : (k : ℕ) → i ≡ k → k < t.count → passes k ≡ false → p (get_or (rows_in a t) i []) ≡ false
      row k e m g = ap (λ n. p (get_or (rows_in a t) n [])) e ∙ ap p (sym (row_get a t k m)) ∙ g

      by : (d : ℕ) → i ≡ j + d → p (get_or (rows_in a t) i []) ≡ false
      by zero e = row j (omega (arith, e)) (omega (arith, l)) f.0
      by (suc zero) e = row (j + 1) (omega (arith, e)) (omega (arith, l)) f.1.0
      by (suc (suc zero)) e = row (j + 2) (omega (arith, e)) (omega (arith, l)) f.1.1.0
      by (suc (suc (suc zero))) e = row (j + 3) (omega (arith, e)) (omega (arith, l)) f.1.1.1
      by (suc (suc (suc (suc d)))) e = absurd (omega (arith, e, high))

  -- four rows more
  pub skip_four : (j : ℕ) → Skipped p a t from j → 4 ≤ t.count - j → one_of_four p a t.start t.width j ≡ false → Skipped p a t from (j + 4)
  unfolding one_of_four
  skip_four j h l e = record { low = omega (arith, h.low); high = omega (arith, l); none = λ i m n. by i m n (leb j i) refl }
    where
      by : (i : ℕ) → from ≤ i → i < j + 4 → (b : Bool) → leb j i ≡ b → p (get_or (rows_in a t) i []) ≡ false
      by i m n true g = four_fail j (omega (arith, l)) (none_of (passes j) (passes (j + 1)) (passes (j + 2)) (passes (j + 3)) e) i (leb-true j i g) n
      by i m n false g = h.none i m (leb-false j i g)
