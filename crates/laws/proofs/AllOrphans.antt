-- The orphan list has all orphans, each once, by foreign key number and then by rising child row.
-- Assumes nothing.
use mathlib.Core.Path.{◌≡◌, refl, sym, ap, ap₂, ◌∙◌}
use mathlib.Core.Bool.{Bool, true, false, ◌&&◌, ◌||◌}
use mathlib.Core.List.{List, [], ◌∷◌, ◌++◌}
use Prim.Native.Nat.{ℕ, zero, suc, ◌+◌, ◌≤◌, ◌<◌}
use native.Mathlib.Nat.{zero-add}
use native.Mathlib.Omega.{arith}
use borrow.Author.Tests.{eq-eqb, ne_eqb, lt-ltb, ltb-true, ltb-false}
use lib.Dec.{eqb, ltb}
use lib.ListN.{length, get_or, length-append}
use Rattle.schema.specs.Ranges.{all}
use Rattle.schema.specs.Records.{ForeignKey, Schema, no_key}
use Rattle.rules.specs.declared.Orphan.{Orphan}
use Rattle.rules.specs.Lists.{count, one}
use Rattle.rules.specs.Values.{nat_of}
use Rattle.rules.specs.Rows.{Row, Tables, row_at, live, live_state}
use Rattle.rules.specs.Keys.{orphan, orphans}
use Rattle.rules.specs.OrphanList.{orphan_total, record_if, orphan_rows, orphans_from, orphan_list, is_orphan, is_record, stands_before, rising}
use Rattle.bridge.proofs.Tests.{and_both, all_cons, all_append}
use Rattle.bridge.proofs.CountLaws.{count_cons, count_append}
use Rattle.bridge.proofs.NullKeys.{vacant_orphan}

abbrev at : ℕ → ℕ → Orphan
at k r = record { key = k; row = r }

and_false : (b : Bool) {c : Bool} → c ≡ false → b && c ≡ false
and_false true e = e
and_false false e = refl

and_true : (b : Bool) {c : Bool} → c ≡ true → b && c ≡ b
and_true true e = e
and_true false e = refl

one_none : {b : Bool} → b ≡ false → one b ≡ 0
unfolding one
one_none e = ap one e

-- ---- the record of row r under foreign key k
record_is : (k r : ℕ) → is_record k r (at k r) ≡ true
unfolding is_record
record_is k r = rw (eq-eqb k k refl, eq-eqb r r refl) refl

other_key : (k r i j : ℕ) → (i ≡ k → ⊥) → is_record k r (at i j) ≡ false
unfolding is_record
other_key k r i j h = rw (ne_eqb i k h) refl

other_row : (k r i j : ℕ) → (j ≡ r → ⊥) → is_record k r (at i j) ≡ false
unfolding is_record
other_row k r i j h = and_false (eqb i k) (ne_eqb j r h)

-- ---- a record that stands before another
lower_key : (k r i j : ℕ) → k < i → stands_before (at k r) (at i j) ≡ true
unfolding stands_before
lower_key k r i j l = rw (lt-ltb k i l) refl

lower_row : (k r j : ℕ) → r < j → stands_before (at k r) (at k j) ≡ true
unfolding stands_before
lower_row k r j l = rw (eq-eqb k k refl, lt-ltb r j l) (or_true (ltb k k))
  where
    or_true : (b : Bool) → b || true ≡ true
    or_true true = refl
    or_true false = refl

-- ---- a record that is there if a test holds
module _ (o : Orphan) (os : List Orphan) where
  if_length : (b : Bool) → length (record_if b o os) ≡ one b + length os
  unfolding record_if one
  if_length true = omega arith
  if_length false = sym (zero-add _)

  if_count : (q : Orphan → Bool) (b : Bool) → count q (record_if b o os) ≡ one (b && q o) + count q os
  unfolding record_if one
  if_count q true = count_cons q o os
  if_count q false = sym (zero-add _)

  if_all : (q : Orphan → Bool) (b : Bool) → q o ≡ true → all q os ≡ true → all q (record_if b o os) ≡ true
  unfolding record_if
  if_all q true h l = all_cons q o os h l
  if_all q false h l = l

-- ---- the records of one foreign key
module _ (p : Row → Bool) (k : ℕ) where
  rows_length : (r : ℕ) (xs : List Row) → length (orphan_rows p k r xs) ≡ count p xs
  unfolding orphan_rows count
  rows_length r [] = refl
  rows_length r (x ∷ xs) = omega (arith, if_length (at k r) (orphan_rows p k (suc r) xs) (p x), rows_length (suc r) xs, count_cons p x xs)

  module _ (q : Orphan → Bool) where
    rows_cons : (r : ℕ) (x : Row) (xs : List Row) → count q (orphan_rows p k r (x ∷ xs)) ≡ one (p x && q (at k r)) + count q (orphan_rows p k (suc r) xs)
    unfolding orphan_rows
    rows_cons r x xs = if_count (at k r) (orphan_rows p k (suc r) xs) q (p x)

    rows_none : (r : ℕ) (xs : List Row) → ((j : ℕ) → r ≤ j → q (at k j) ≡ false) → count q (orphan_rows p k r xs) ≡ 0
    unfolding orphan_rows count
    rows_none r [] h = refl
    rows_none r (x ∷ xs) h = omega (arith, rows_cons r x xs, one_none (and_false (p x) (h r (omega arith))), rows_none (suc r) xs (λ j l. h j (omega (arith, l))))

    rows_all : (r : ℕ) (xs : List Row) → ((j : ℕ) → r ≤ j → q (at k j) ≡ true) → all q (orphan_rows p k r xs) ≡ true
    unfolding orphan_rows all
    rows_all r [] h = refl
    rows_all r (x ∷ xs) h = if_all (at k r) (orphan_rows p k (suc r) xs) q (p x) (h r (omega arith)) (rows_all (suc r) xs (λ j l. h j (omega (arith, l))))

  -- row r' stands once if it passes, d rows past row r
  row_once : p [] ≡ false → (r' r d : ℕ) (xs : List Row) → r' ≡ r + d → count (is_record k r') (orphan_rows p k r xs) ≡ one (p (get_or xs d []))
  unfolding orphan_rows count
  row_once none r' r d [] e = sym (one_none none)
  row_once none r' r zero (x ∷ xs) e =
      let here : is_record k r' (at k r) ≡ true = ap (λ (j : ℕ). is_record k r' (at k j)) (omega (arith, e)) ∙ record_is k r' in
      omega (arith, rows_cons (is_record k r') r x xs, ap one (and_true (p x) here), rows_none (is_record k r') (suc r) xs (λ j l. other_row k r' k j (λ z. omega (arith, z, l, e))))
  row_once none r' r (suc d) (x ∷ xs) e =
      let other : is_record k r' (at k r) ≡ false = other_row k r' k r (λ z. omega (arith, z, e)) in
      omega (arith, rows_cons (is_record k r') r x xs, one_none (and_false (p x) other), row_once none r' (suc r) d xs (omega (arith, e)))

  -- they rise, and stand before what follows
  rows_rising : (r : ℕ) (xs : List Row) (os : List Orphan) → ((j : ℕ) → all (stands_before (at k j)) os ≡ true) → rising os ≡ true → rising (orphan_rows p k r xs ++ os) ≡ true
  unfolding orphan_rows record_if rising
  rows_rising r [] os h l = l
  rows_rising r (x ∷ xs) os h l = go (p x) (rows_rising (suc r) xs os h l)
    where
      follow : all (stands_before (at k r)) (orphan_rows p k (suc r) xs ++ os) ≡ true
      follow = all_append (stands_before (at k r)) (orphan_rows p k (suc r) xs) os (rows_all (stands_before (at k r)) (suc r) xs (λ j m. lower_row k r j (omega (arith, m)))) (h r)

      go : (b : Bool) → rising (orphan_rows p k (suc r) xs ++ os) ≡ true → rising (record_if b (at k r) (orphan_rows p k (suc r) xs) ++ os) ≡ true
      go true m = and_both follow m
      go false m = m

-- ---- the records of all foreign keys
module _ (tabs : Tables) where
  -- which rows are orphans of a foreign key, and its child rows
  abbrev alone : ForeignKey → Row → Bool
  alone f = orphan f (get_or tabs f.parent [])

  abbrev children : ForeignKey → List Row
  children f = get_or tabs f.child []

  keys_length : (k : ℕ) (fs : List ForeignKey) → length (orphans_from tabs k fs) ≡ orphan_total fs tabs
  unfolding orphans_from orphan_total orphans
  keys_length k [] = refl
  keys_length k (f ∷ fs) = length-append (orphan_rows (alone f) k 0 (children f)) (orphans_from tabs (suc k) fs) ∙ ap₂ (λ (m n : ℕ). m + n) (rows_length (alone f) k 0 (children f)) (keys_length (suc k) fs)

  module _ (q : Orphan → Bool) where
    keys_cons : (k : ℕ) (f : ForeignKey) (fs : List ForeignKey) → count q (orphans_from tabs k (f ∷ fs)) ≡ count q (orphan_rows (alone f) k 0 (children f)) + count q (orphans_from tabs (suc k) fs)
    unfolding orphans_from
    keys_cons k f fs = count_append q (orphan_rows (alone f) k 0 (children f)) (orphans_from tabs (suc k) fs)

    keys_none : (k : ℕ) (fs : List ForeignKey) → ((i j : ℕ) → k ≤ i → i < k + length fs → q (at i j) ≡ false) → count q (orphans_from tabs k fs) ≡ 0
    unfolding orphans_from count
    keys_none k [] h = refl
    keys_none k (f ∷ fs) h =
        omega (arith, keys_cons k f fs, rows_none (alone f) k q 0 (children f) (λ j l. h k j (omega arith) (omega arith)), keys_none (suc k) fs (λ i j l m. h i j (omega (arith, l)) (omega (arith, m))))

    keys_all : (k : ℕ) (fs : List ForeignKey) → ((i j : ℕ) → k ≤ i → q (at i j) ≡ true) → all q (orphans_from tabs k fs) ≡ true
    unfolding orphans_from all
    keys_all k [] h = refl
    keys_all k (f ∷ fs) h =
        all_append q (orphan_rows (alone f) k 0 (children f)) (orphans_from tabs (suc k) fs) (rows_all (alone f) k q 0 (children f) (λ j l. h k j (omega arith))) (keys_all (suc k) fs (λ i j l. h i j (omega (arith, l))))

  keys_rising : (k : ℕ) (fs : List ForeignKey) → rising (orphans_from tabs k fs) ≡ true
  unfolding orphans_from rising
  keys_rising k [] = refl
  keys_rising k (f ∷ fs) =
      rows_rising (alone f) k 0 (children f) (orphans_from tabs (suc k) fs) (λ r. keys_all (stands_before (at k r)) (suc k) fs (λ i j l. lower_key k r i j (omega (arith, l)))) (keys_rising (suc k) fs)

  module _ (r : ℕ) where
    no_row : (f : ForeignKey) → alone f [] ≡ false
    unfolding live live_state nat_of
    no_row f = vacant_orphan f (get_or tabs f.parent []) [] refl

    key_once : (k' k e : ℕ) (fs : List ForeignKey) → k' ≡ k + e → e < length fs → count (is_record k' r) (orphans_from tabs k fs) ≡ one (alone (get_or fs e no_key) (row_at (get_or fs e no_key).child r tabs))
    unfolding row_at
    key_once k' k e [] h l = absurd (omega (arith, l))
    key_once k' k zero (f ∷ fs) h l =
        let same : k ≡ k' = omega (arith, h) in
        let here : count (is_record k' r) (orphan_rows (alone f) k 0 (children f)) ≡ one (alone f (get_or (children f) r []))
        = ap (λ (i : ℕ). count (is_record k' r) (orphan_rows (alone f) i 0 (children f))) same ∙ row_once (alone f) k' (no_row f) r 0 r (children f) (omega arith) in
        omega (arith, keys_cons (is_record k' r) k f fs, here, keys_none (is_record k' r) (suc k) fs (λ i j m n. other_key k' r i j (λ z. omega (arith, z, m, same))))
    key_once k' k (suc e) (f ∷ fs) h l =
        let other = rows_none (alone f) k (is_record k' r) 0 (children f) (λ j m. other_key k' r k j (λ z. omega (arith, z, h))) in
        omega (arith, keys_cons (is_record k' r) k f fs, other, key_once k' (suc k) e fs (omega (arith, h)) (omega (arith, l)))

module _ (s : Schema) (tabs : Tables) where
  -- as many as are counted
  pub listed_length : length (orphan_list s tabs) ≡ orphan_total s.keys tabs
  unfolding orphan_list
  listed_length = keys_length tabs 0 s.keys

  -- each pair of a foreign key and a row: once if the row is an orphan, else never
  pub listed_once : (k r : ℕ) → count (is_record k r) (orphan_list s tabs) ≡ one (is_orphan s tabs k r)
  unfolding orphan_list is_orphan one
  listed_once k r = go (ltb k (length s.keys)) refl
    where
      go : (b : Bool) → ltb k (length s.keys) ≡ b → count (is_record k r) (orphan_list s tabs) ≡ one (is_orphan s tabs k r)
      go true e = key_once tabs r k 0 k s.keys (omega arith) (ltb-true _ _ e) ∙ sym (rw e refl)
      go false e = keys_none tabs (is_record k r) 0 s.keys (λ i j l m. other_key k r i j (λ z. omega (arith, z, m, ltb-false k (length s.keys) e))) ∙ sym (rw e refl)

  -- by foreign key number, then by rising child row
  pub listed_rising : rising (orphan_list s tabs) ≡ true
  unfolding orphan_list
  listed_rising = keys_rising tabs 0 s.keys
