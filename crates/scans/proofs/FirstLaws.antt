-- The first row that passes a test; whether there is one, and how many.
-- Assumes nothing.
use mathlib.Core.Path.{◌≡◌, refl, sym, ◌∙◌, ap}
use mathlib.Core.Bool.{Bool, true, false, ◌&&◌, ◌||◌, false≢true, and-true}
use mathlib.Core.List.{List, [], ◌∷◌}
use Rattle.std.specs.Prelude.{Option, None, Some}
use Rattle.std.specs.Option.{is_some}
use Rattle.std.proofs.lemmas.Bool.{lt-ltb, le-ltb}
use Prim.Native.Nat.{ℕ, zero, suc, ◌+◌, ◌*◌, ◌-◌, ◌≤◌, ◌<◌}
use native.Mathlib.Nat.{zero-add}
use native.Mathlib.Omega.{arith}
use borrow.Author.Tests.{ltb-true, ltb-false}
use lib.Dec.{ltb}
use lib.IntN.{ℤ}
use lib.ListN.{length, get_or, take, drop}
use Rattle.schema.specs.Bytes.{bit}
use Rattle.schema.proofs.MaskLaws.{bit_none}
use Rattle.rules.specs.Lists.{𝟘, any, count, one}
use Rattle.rules.specs.Rows.{Row, live}
use Rattle.rules.specs.Found.{cell_is}
use Rattle.rules.specs.KeyValues.{holds_key, has_key}
use Rattle.bridge.proofs.CountLaws.{any_cons}
use Rattle.bridge.specs.Ready.{row_in}
use Rattle.rows.specs.declared.SoughtKey.{SoughtKey}
use Rattle.rows.specs.declared.TableRows.{TableRows}
use Rattle.rows.specs.Sought.{has_value, has_sought, SoughtIn}
use Rattle.rows.specs.Standing.{Standing, rows_in}
use Rattle.bridge.proofs.LoopLaws.{any_none, any_hit, count_more, count_none}
use Rattle.rows.proofs.TableLaws.{rows_many, row_get}
use Rattle.rows.proofs.FoldLaws.{folds_get}
use Rattle.skips.specs.declared.Word.{Word}
use Rattle.skips.specs.declared.MaskedWord.{MaskedWord}
use Rattle.skips.specs.declared.Both.{Both}
use Rattle.skips.specs.Skipped.{has_word, has_masked, both, word_of, first_words, masked_word, masked_pair}
use Rattle.skips.proofs.SkipLaws.{word_of_value, words_with, masked_with, masks_with, word_within, masked_within, told}
use Rattle.scans.specs.FirstFrom.{FirstFrom, FirstRow, FirstIs}

-- what a test of row j in the words comes to
pub tested : (p : Row → Bool) (a : List ℤ) (t : TableRows) (j : ℕ) → j < t.count → {b b' : Bool} → b ≡ p (row_in a (t.start + j * t.width) t.width) → b ≡ b' → p (get_or (rows_in a t) j []) ≡ b'
tested p a t j h e f = sym (e ∙ ap p (row_get a t j h)) ∙ f

-- one number more that does not pass, and then those up to k
pub none_more : {p : ℕ → Bool} {from : ℕ} (j k : ℕ) → ((i : ℕ) → from ≤ i → i < j → p i ≡ false) → p j ≡ false → ((i : ℕ) → j + 1 ≤ i → i < k → p i ≡ false) → (i : ℕ) → from ≤ i → i < k → p i ≡ false
none_more {p} j k s e f i l h = below (ltb i j) refl
  where
    above : (b : Bool) → ltb j i ≡ b → j ≤ i → p i ≡ false
    above true q m = let next : j + 1 ≤ i = omega (arith, ltb-true j i q) in f i next h
    above false q m = let same : i ≡ j = omega (arith, ltb-false j i q, m) in rw same e

    below : (b : Bool) → ltb i j ≡ b → p i ≡ false
    below true q = s i l (ltb-true i j q)
    below false q = above (ltb j i) refl (ltb-false i j q)

-- none below number j, and none from there on up to k
pub none_join : {p : ℕ → Bool} {from : ℕ} (j k : ℕ) → ((i : ℕ) → from ≤ i → i < j → p i ≡ false) → ((i : ℕ) → j ≤ i → i < k → p i ≡ false) → (i : ℕ) → from ≤ i → i < k → p i ≡ false
none_join {p} j k s f i l h = by (ltb i j) refl
  where
    by : (b : Bool) → ltb i j ≡ b → p i ≡ false
    by true q = s i l (ltb-true i j q)
    by false q = f i (ltb-false i j q) h

module _ {p : ℕ → Bool} {n from : ℕ} (j : ℕ) where
  pub first_stop : from ≤ j → j < n → ((i : ℕ) → from ≤ i → i < j → p i ≡ false) → p j ≡ true → FirstFrom p n from j
  first_stop l h s e = record { low = l; high = omega (arith, h); skipped = s; found = λ k. e }

  pub first_none : from ≤ n → n ≤ j → ((i : ℕ) → from ≤ i → i < j → p i ≡ false) → FirstFrom p n from n
  first_none l h s = record { low = l; high = omega arith; skipped = λ i k m. s i k (omega (arith, m, h)); found = λ m. absurd (omega (arith, m)) }

-- tests that agree
pub first_same : {p q : Row → Bool} (a : List ℤ) (t : TableRows) {from x : ℕ} → ((row : Row) → q row ≡ p row) → FirstRow q a t from x → FirstRow p a t from x
first_same a t f h =
    record {
      low = h.low;
      high = h.high;
      skipped = λ i l m. sym (f _) ∙ h.skipped i l m;
      found = λ l. sym (f _) ∙ h.found l;
    }

-- what a search tells
pub is_same : {p q : Row → Bool} (a : List ℤ) (t : TableRows) (from : ℕ) → ((row : Row) → q row ≡ p row) → (o : Option ℕ) → FirstIs q a t from o → FirstIs p a t from o
is_same a t from f None h = first_same a t f h
is_same a t from f (Some x) h = (h.0, first_same a t f h.1)

-- a search that begins at number j finds it exactly if it passes
module _ {p : ℕ → Bool} {n j i : ℕ} (l : j < n) (f : FirstFrom p n j i) where
  pub at_turn : i ≡ j → p j ≡ true
  at_turn e = ap p (sym e) ∙ f.found (omega (arith, e, l))

  pub passes_at_turn : p j ≡ true → i ≡ j
  passes_at_turn h = by (ltb j i) refl
    where
      by : (b : Bool) → ltb j i ≡ b → i ≡ j
      by true q = absurd (false≢true (sym (f.skipped j (omega arith) (ltb-true j i q)) ∙ h))
      by false q = omega (arith, f.low, ltb-false j i q)

-- there is one first number
pub first_unique : {p : ℕ → Bool} {n from x y : ℕ} → FirstFrom p n from x → FirstFrom p n from y → x ≡ y
first_unique {x = x} {y} f g = by (ltb x y) refl (ltb y x) refl
  where
    by : (b : Bool) → ltb x y ≡ b → (c : Bool) → ltb y x ≡ c → x ≡ y
    by true q c r =
        let h : x < y = ltb-true x y q in
        absurd (false≢true (sym (g.skipped x f.low h) ∙ f.found (omega (arith, h, g.high))))
    by false q true r =
        let h : y < x = ltb-true y x r in
        absurd (false≢true (sym (f.skipped y g.low h) ∙ g.found (omega (arith, h, f.high))))
    by false q false r = omega (arith, ltb-false x y q, ltb-false y x r)

-- of an area the rows that are searched matter and nothing else: where they are the same, the same row is found
pub rows_alone : (p : Row → Bool) (a a' : List ℤ) (t : TableRows) {from x y : ℕ} → rows_in a t ≡ rows_in a' t → FirstRow p a t from x → FirstRow p a' t from y → x ≡ y
rows_alone p a a' t e f g = first_unique (rw e at f) g

-- ---- whether there is one
module _ (p : Row → Bool) where
  any_past : (k : ℕ) (xs : List Row) → k ≤ length xs → ((i : ℕ) → i < k → p (get_or xs i []) ≡ false) → any p xs ≡ any p (drop k xs)
  any_past zero xs l h = refl
  any_past (suc k) [] l h = absurd (omega (arith, l))
  any_past (suc k) (x ∷ xs) l h = any_cons p x xs ∙ ap (λ b. b || any p xs) (h 0 (omega arith)) ∙ any_past k xs (omega (arith, l)) (λ i m. h (suc i) (omega (arith, m)))

module _ (p : Row → Bool) (a : List ℤ) (t : TableRows) where
  many : length (rows_in a t) ≡ t.count
  many = rows_many a t

  pub any_first : {x : ℕ} → FirstRow p a t 0 x → ltb x t.count ≡ any p (rows_in a t)
  any_first {x} f = sym (past ∙ rest (ltb x t.count) refl)
    where
      past : any p (rows_in a t) ≡ any p (drop x (rows_in a t))
      past = any_past p x (rows_in a t) (omega (arith, many, f.high)) (λ i l. f.skipped i (omega arith) l)

      rest : (b : Bool) → ltb x t.count ≡ b → any p (drop x (rows_in a t)) ≡ b
      rest true q = let h : x < t.count = ltb-true x t.count q in any_hit p (rows_in a t) x (omega (arith, many, h)) [] (get_or (rows_in a t) x []) refl (f.found h)
      rest false q = any_none p (rows_in a t) x (omega (arith, many, ltb-false x t.count q))

  pub any_is : (o : Option ℕ) → FirstIs p a t 0 o → is_some o ≡ any p (rows_in a t)
  any_is None f = sym (le-ltb t.count t.count (omega arith)) ∙ any_first f
  any_is (Some x) f = sym (lt-ltb x t.count f.0) ∙ any_first f.1

  -- ---- how many there are

  -- those from a row on, by whether it is one
  count_from : (j : ℕ) → j < t.count → count p (drop j (rows_in a t)) ≡ one (p (get_or (rows_in a t) j [])) + count p (drop (j + 1) (rows_in a t))
  count_from j l = count_more p (rows_in a t) j (omega (arith, many, l)) [] (get_or (rows_in a t) j []) refl

  count_past : (k j : ℕ) → j + k ≤ t.count → ((i : ℕ) → j ≤ i → i < j + k → p (get_or (rows_in a t) i []) ≡ false) → count p (drop j (rows_in a t)) ≡ count p (drop (j + k) (rows_in a t))
  unfolding one
  count_past zero j l h = let all : j ≡ j + 0 = omega arith in ap (λ n. count p (drop n (rows_in a t))) all
  count_past (suc k) j l h =
      let next : j + 1 + k ≡ j + suc k = omega arith in
      count_from j (omega (arith, l))
      ∙ ap (λ b. one b + count p (drop (j + 1) (rows_in a t))) (h j (omega arith) (omega arith))
      ∙ zero-add (count p (drop (j + 1) (rows_in a t)))
      ∙ count_past k (j + 1) (omega (arith, l)) (λ i m n. h i (omega (arith, m)) (omega (arith, n)))
      ∙ ap (λ n. count p (drop n (rows_in a t))) next

  pub count_end : {j : ℕ} → t.count ≤ j → count p (drop j (rows_in a t)) ≡ 0
  count_end {j} l = count_none p (rows_in a t) j (omega (arith, many, l))

  -- a search that passes over none that is counted
  module _ {q : Row → Bool} (less : (row : Row) → q row ≡ false → p row ≡ false) where
    count_searched : {from x : ℕ} → FirstRow q a t from x → count p (drop from (rows_in a t)) ≡ count p (drop x (rows_in a t))
    count_searched {from} {x} f =
        let whole : from + (x - from) ≡ x = omega (arith, f.low) in
        count_past (x - from) from (omega (arith, whole, f.high)) (λ j l m. less _ (f.skipped j l (omega (arith, m, whole))))
        ∙ ap (λ n. count p (drop n (rows_in a t))) whole

    -- row j, by whether it is one, and those from the next found on
    pub count_turn : {j x : ℕ} → j < t.count → {b : Bool} → p (get_or (rows_in a t) j []) ≡ b → FirstRow q a t (j + 1) x → count p (drop j (rows_in a t)) ≡ one b + count p (drop x (rows_in a t))
    count_turn {j} l {b} h f =
        count_from j l ∙ ap (λ b. one b + count p (drop (j + 1) (rows_in a t))) h ∙ ap (λ n. one b + n) (count_searched f)

    pub count_none_left : {from : ℕ} → FirstIs q a t from None → count p (drop from (rows_in a t)) ≡ 0
    count_none_left f = count_searched f ∙ count_end (omega arith)

    -- the row that it finds, by whether it is one, and those after it
    pub count_next : {from x : ℕ} → FirstIs q a t from (Some x) → {b : Bool} → p (get_or (rows_in a t) x []) ≡ b → count p (drop from (rows_in a t)) ≡ one b + count p (drop (x + 1) (rows_in a t))
    count_next {x = x} f h = count_searched f.1 ∙ count_from x f.0 ∙ ap (λ b. one b + count p (drop (x + 1) (rows_in a t))) h

  -- a search for those that are counted passes over none
  pub count_first : {from x : ℕ} → FirstRow p a t from x → count p (drop from (rows_in a t)) ≡ count p (drop x (rows_in a t))
  count_first f = count_searched (λ row h. h) f

-- ---- a key of one column is a value
module _ (key : SoughtKey) {w : ℕ} (k : SoughtIn w key) (e : key.n ≡ 1) where
  one_part : {A : Type 0} (d : A) (xs : List A) → length xs ≡ 8 → take key.n xs ≡ get_or xs 0 d ∷ []
  one_part {A} d xs l = ap (λ m. take m xs) e ∙ head xs l
    where
      head : (ys : List A) → length ys ≡ 8 → take 1 ys ≡ get_or ys 0 d ∷ []
      head [] h = absurd (omega arith)
      head (y ∷ ys) h = refl

  pub one_value : key.folded ≡ 0 → (row : Row) → has_value (get_or key.cs 0 0) (get_or key.vs 0 𝟘) row ≡ has_sought key row
  unfolding has_value has_sought has_key holds_key
  one_value plain row =
      rw (one_part 0 key.cs k.columns.size, one_part 𝟘 key.vs k.size)
      (ap (λ (b : Bool). live row && b)
      (sym (and-true (cell_is false false (get_or key.vs 0 𝟘) (get_or key.cs 0 0) row))
      ∙ ap (λ (f : Bool). cell_is f false (get_or key.vs 0 𝟘) (get_or key.cs 0 0) row && true) (sym (folds_get key.folded key.n 0 (omega (arith, e)) ∙ ap (bit 0) plain ∙ bit_none 0))))

-- ---- a key, told by what is looked at first
module _ (key : SoughtKey) {w : ℕ} (k : SoughtIn w key) where
  pub told_by_value : key.n ≡ 1 → key.folded ≡ 0 → {s : Word} {v : ℤ} → s ≡ word_of key 0 → v ≡ get_or key.vs 0 𝟘 → (row : Row) → both (has_word s) (has_value (get_or key.cs 0 0) v) row ≡ has_sought key row
  unfolding word_of
  told_by_value one plain es ev row =
      rw (es, ev) (told (word_of_value (get_or key.cs 0 0) (get_or key.vs 0 𝟘)) row ∙ one_value key k one plain row)

  pub told_by_words : key.folded ≡ 0 → 2 ≤ key.n → {s : Both Word Word} → s ≡ first_words key → (row : Row) → both (both (has_word s.first) (has_word s.second)) (has_sought key) row ≡ has_sought key row
  unfolding first_words
  told_by_words plain two e = rw e (told (words_with key k plain two))

  pub told_by_mask : (i : ℕ) → i < key.n → {s : MaskedWord} → s ≡ masked_word key i → (row : Row) → both (has_masked s) (has_sought key) row ≡ has_sought key row
  told_by_mask i h e = rw e (told (masked_with key k i h))

  pub told_by_masks : 2 ≤ key.n → {s : Both MaskedWord MaskedWord} → s ≡ masked_pair key → (row : Row) → both (both (has_masked s.first) (has_masked s.second)) (has_sought key) row ≡ has_sought key row
  unfolding masked_pair
  told_by_masks two e = rw e (told (masks_with key k two))

  -- what is looked at is in a row of w words
  pub word_in : (i : ℕ) → i < key.n → {s : Word} → s ≡ word_of key i → s.place < w
  word_in i h e = rw e (word_within key k i h)

  pub words_in : 2 ≤ key.n → {s : Both Word Word} → s ≡ first_words key → (s.first.place < w) × (s.second.place < w)
  unfolding first_words
  words_in two e = rw e (word_within key k 0 (omega (arith, two)), word_within key k 1 (omega (arith, two)))

  pub mask_in : (i : ℕ) → i < key.n → {s : MaskedWord} → s ≡ masked_word key i → s.place < w
  mask_in i h e = rw e (masked_within key k i h)

  pub masks_in : 2 ≤ key.n → {s : Both MaskedWord MaskedWord} → s ≡ masked_pair key → (s.first.place < w) × (s.second.place < w)
  unfolding masked_pair
  masks_in two e = rw e (masked_within key k 0 (omega (arith, two)), masked_within key k 1 (omega (arith, two)))

-- what a test for a key asks of the rows of a table
pub key_fits : {a : List ℤ} {t : TableRows} {key : SoughtKey} → Standing a t → SoughtIn t.width key → (0 < t.width) × ((t.width ≤ 9) × SoughtIn t.width key)
key_fits s k = (s.some, (s.narrow, k))
