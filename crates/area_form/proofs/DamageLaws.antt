-- Refusal 10 by an area's words: the header, kept numbers, levels and records, as loops go through them.
-- Assumes nothing.
use mathlib.Core.Path.{◌≡◌, refl, sym, ◌∙◌, ap, ap₂}
use mathlib.Core.Bool.{Bool, true, false, ◌&&◌, false≢true}
use mathlib.Core.List.{List, [], ◌∷◌}
use Prim.Native.Nat.{ℕ, zero, suc, ◌+◌, ◌-◌, ◌*◌, ◌/◌, ◌%◌, ◌≤◌, ◌<◌}
use native.Mathlib.Nat.{add-zero}
use native.Mathlib.Numerals.{add-one}
use native.Mathlib.Omega.{arith}
use borrow.Author.Tests.{leb-true, lt-leb, le-leb, lt-ltb}
use lib.Dec.{leb, ltb, eqb, eqb-zero-suc, leb-suc-zero}
use lib.IntN.{ℤ, pos, negsuc}
use lib.ListN.{length, get_or, take, drop, drop_of_length-le}
use lib.Seq.{drop-cons, drop-drop}
use Rattle.schema.specs.Ranges.{all, all_from, every, and_all}
use Rattle.schema.specs.Records.{ForeignKey, Schema, no_key, table_of, key_of}
use Rattle.schema.specs.Fields.{schema_of}
use Rattle.schema.specs.Sizes.{rows_size, area_size}
use Rattle.schema.proofs.RangeLaws.{and_left, and_right}
use Rattle.rules.specs.Lists.{𝟘}
use Rattle.rules.specs.Values.{nat_of, natural, in_range, same_word}
use Rattle.rules.specs.Book.{Level}
use Rattle.rules.specs.Calls.{in_table}
use Rattle.rules.specs.State.{in_transaction, opener_fits, kept_in_range, saved_in_range, uses_rise, placed}
use Rattle.rules.specs.Area.{level_part, record_part, view, natural_head, legible}
use Rattle.bridge.specs.Fit.{Fit, work_of}
use Rattle.bridge.proofs.RowWords.{use_is}
use Rattle.bridge.proofs.LevelWords.{all_take, all_same, area_is, opener_at, levels_few, used_few, levels_nine, level_natural, base_at, saved_at, levels_top, levels_all, levels_count, records_room, record_natural, table_at, row_at_lem, records_all}
use Rattle.words.proofs.Signed.{in_range_is}
use Rattle.area_form.specs.Damage.{Sized, header_in_range, natural_part, kept_limit, lowest_levels}

-- ---- the whole area

long : (s : Schema) (a : List ℤ) → length a ≡ area_size s → 333 ≤ length a
long s a e = omega (arith, area_is s a e)

pub sized_long : {b : List ℕ} {a : List ℤ} → Sized b a → 333 ≤ length a
sized_long {b} {a} z = long (schema_of b) a z.size

pub fit_long : {s : Schema} {a : List ℤ} → Fit s a → 333 ≤ length a
fit_long {s} {a} f = long s a f.size

-- ---- the header

in_range_lem : (n : ℕ) (w : ℤ) → in_range n w ≡ true → nat_of w ≤ n
unfolding in_range nat_of
in_range_lem n (pos m) h = leb-true m n h
in_range_lem n (negsuc m) h = absurd (false≢true h)

-- how many levels and records there are
pub record Counts (s : Schema) (a : List ℤ) : Type 0 where
  pub levels : nat_of (get_or a 0 𝟘) ≤ 9
  pub used : nat_of (get_or a 2 𝟘) ≤ s.room

pub header_counts : (s : Schema) (a : List ℤ) → header_in_range s a ≡ true → Counts s a
unfolding header_in_range
header_counts s a e =
    let p : in_range 9 (get_or a 0 𝟘) && natural (get_or a 1 𝟘) && in_range s.room (get_or a 2 𝟘) ≡ true = and_left _ (same_word 𝟘 (get_or a 3 𝟘)) e in
    let q : in_range 9 (get_or a 0 𝟘) && natural (get_or a 1 𝟘) ≡ true = and_left _ (in_range s.room (get_or a 2 𝟘)) p in
    record {
      levels = in_range_lem 9 (get_or a 0 𝟘) (and_left _ (natural (get_or a 1 𝟘)) q);
      used = in_range_lem s.room (get_or a 2 𝟘) (and_right (in_range 9 (get_or a 0 𝟘) && natural (get_or a 1 𝟘)) _ p);
    }

regroup : (x n l z a b : Bool) → x && n && l && z && a && b ≡ x && (n && l) && z && (a && b)
regroup false n l z a b = refl
regroup true false l z a b = refl
regroup true true false z a b = refl
regroup true true true false a b = refl
regroup true true true true a b = refl

-- the words are a book: the header, then the first words of open levels and of used records
legible_parts : (s : Schema) (a : List ℤ) → legible s a ≡ header_in_range s a && (all natural_head (take (nat_of (get_or a 0 𝟘)) (level_part a)) && all natural_head (take (nat_of (get_or a 2 𝟘)) (record_part s a)))
unfolding legible header_in_range every and_all
legible_parts s a =
    let ls : Bool = all natural_head (take (nat_of (get_or a 0 𝟘)) (level_part a)) in
    let rs : Bool = all natural_head (take (nat_of (get_or a 2 𝟘)) (record_part s a)) in
    regroup (natural (get_or a 0 𝟘) && leb (nat_of (get_or a 0 𝟘)) 9 && natural (get_or a 1 𝟘)) (natural (get_or a 2 𝟘)) (leb (nat_of (get_or a 2 𝟘)) s.room) (same_word 𝟘 (get_or a 3 𝟘)) ls rs
    ∙ ap₂ (λ x y. x && natural (get_or a 1 𝟘) && y && same_word 𝟘 (get_or a 3 𝟘) && (ls && rs)) (in_range_is 9 (get_or a 0 𝟘)) (in_range_is s.room (get_or a 2 𝟘))

pub legible_not : (s : Schema) (a : List ℤ) → header_in_range s a ≡ false → false ≡ legible s a
legible_not s a e = sym (legible_parts s a ∙ ap (λ t. t && (all natural_head (take (nat_of (get_or a 0 𝟘)) (level_part a)) && all natural_head (take (nat_of (get_or a 2 𝟘)) (record_part s a)))) e)

module _ (s : Schema) (a : List ℤ) (size : length a ≡ area_size s) where
  levels_natural : (n : ℕ) → n ≤ 9 → all natural_head (take n (level_part a)) ≡ all_from (natural_part a 36 33) n 0
  unfolding natural_part
  levels_natural n h =
      all_take natural_head [] (level_part a) n (omega (arith, levels_nine a))
      ∙ all_same _ (natural_part a 36 33) n (λ i l. level_natural a i (omega arith) (long s a size))

  records_natural : (n : ℕ) → n ≤ s.room → all natural_head (take n (record_part s a)) ≡ all_from (natural_part a (333 + rows_size s.tables) 10) n 0
  unfolding natural_part
  records_natural n h =
      all_take natural_head [] (record_part s a) n (omega (arith, records_room s a))
      ∙ all_same _ (natural_part a (333 + rows_size s.tables) 10) n (λ j l. record_natural s a size j (omega arith))

  pub legible_is : header_in_range s a ≡ true → all_from (natural_part a 36 33) (nat_of (get_or a 0 𝟘)) 0 && all_from (natural_part a (333 + rows_size s.tables) 10) (nat_of (get_or a 2 𝟘)) 0 ≡ legible s a
  legible_is e =
      let c : Counts s a = header_counts s a e in
      sym (legible_parts s a
      ∙ ap₂ (λ t u. t && u) e (ap₂ (λ t u. t && u) (levels_natural (nat_of (get_or a 0 𝟘)) c.levels) (records_natural (nat_of (get_or a 2 𝟘)) c.used)))

-- ---- kept numbers

zero_range : (w : ℤ) → same_word 𝟘 w ≡ in_range 0 w
unfolding same_word in_range
zero_range (pos zero) = refl
zero_range (pos (suc n)) = eqb-zero-suc n ∙ sym (leb-suc-zero n)
zero_range (negsuc n) = refl

kept_cons : (s : Schema) (ks : List ForeignKey) (x : ℤ) (xs : List ℤ) → kept_in_range s ks (x ∷ xs) ≡ in_range (kept_limit s ks) x && kept_in_range s (drop 1 ks) xs
unfolding kept_in_range kept_limit
kept_cons s [] x xs = ap (λ t. t && kept_in_range s [] xs) (zero_range x)
kept_cons s (k ∷ ks) x xs = refl

pub limit_past : (s : Schema) (k : ℕ) → length s.keys ≤ k → 0 ≡ kept_limit s (drop k s.keys)
unfolding kept_limit
limit_past s k h = rw (drop_of_length-le s.keys h) refl

pub limit_is : (s : Schema) (k : ℕ) → k < length s.keys → (table_of s (key_of s k).child).rows ≡ kept_limit s (drop k s.keys)
unfolding kept_limit
limit_is s k h = rw (drop-cons s.keys k no_key h) refl

-- the kept numbers from foreign key k on, of those at word `at`
unfoldable pub kept_from : Schema → List ℤ → ℕ → ℕ → Bool
kept_from s a at k = kept_in_range s (drop k s.keys) (take (32 - k) (drop (at + k) a))

module _ (s : Schema) (a : List ℤ) (at : ℕ) where
  kept_start : kept_in_range s s.keys (take 32 (drop at a)) ≡ kept_from s a at 0
  unfolding kept_from
  kept_start = rw add-zero refl

  module _ (k : ℕ) where
    kept_none : 32 ≤ k → kept_from s a at k ≡ true
    unfolding kept_from kept_in_range
    kept_none h = let e : 32 - k ≡ 0 = omega arith in rw e refl

    module _ (l : k < 32) (fits : at + 32 ≤ length a) where
      kept_more : kept_from s a at k ≡ in_range (kept_limit s (drop k s.keys)) (get_or a (at + k) 𝟘) && kept_from s a at (k + 1)
      unfolding kept_from
      kept_more =
          let n : 32 - k ≡ suc (32 - (k + 1)) = omega arith in
          let q : suc (at + k) ≡ at + (k + 1) = omega arith in
          ap₂ (λ m l. kept_in_range s (drop k s.keys) (take m l)) n (drop-cons a (at + k) 𝟘 (omega arith))
          ∙ kept_cons s (drop k s.keys) (get_or a (at + k) 𝟘) (take (32 - (k + 1)) (drop (suc (at + k)) a))
          ∙ ap₂ (λ ks m. in_range (kept_limit s (drop k s.keys)) (get_or a (at + k) 𝟘) && kept_in_range s ks (take (32 - (k + 1)) (drop m a))) (drop-drop 1 k s.keys) q

  -- the kept number of foreign key k
  abbrev pub kept_part : ℕ → Bool
  kept_part k = in_range (kept_limit s (drop k s.keys)) (get_or a (at + k) 𝟘)

  module _ (fits : at + 32 ≤ length a) where
    kept_rest : (n k : ℕ) → k + n ≡ 32 → kept_from s a at k ≡ all_from kept_part n k
    unfolding all_from
    kept_rest zero k e = kept_none k (omega (arith, e))
    kept_rest (suc n) k e =
        kept_more k (omega (arith, e)) fits
        ∙ ap (λ t. kept_part k && t) (ap (kept_from s a at) (add-one k) ∙ kept_rest n (suc k) (omega (arith, e)))

    -- all of them, one by one
    pub kept_is : kept_in_range s s.keys (take 32 (drop at a)) ≡ all_from kept_part 32 0
    kept_is = kept_start ∙ kept_rest 32 0 refl

-- ---- open levels

in_transaction_lem : (ls : List Level) → in_transaction ls ≡ ltb 0 (length ls)
unfolding in_transaction
in_transaction_lem [] = refl
in_transaction_lem (l ∷ ls) = sym (lt-ltb 0 (suc (length ls)) (omega arith))

pub opener_none : (n o : ℕ) → n ≡ 0 → eqb o 0 ≡ opener_fits (ltb 0 n) o
unfolding opener_fits
opener_none n o e = rw e refl

pub opener_some : (n o : ℕ) → (n ≡ 0 → ⊥) → leb 1 o && leb o 2 ≡ opener_fits (ltb 0 n) o
unfolding opener_fits
opener_some n o ne = rw (lt-ltb 0 n (omega arith)) refl

-- the saved numbers of level i + 1
unfoldable pub saved_part : Schema → List ℤ → ℕ → Bool
saved_part s a i = kept_in_range s s.keys (take 32 (drop (37 + i * 33) a))

module _ {s : Schema} {a : List ℤ} (f : Fit s a) where
  levels_are : (view s a).levels ≡ lowest_levels (nat_of (get_or a 0 𝟘)) a
  unfolding view lowest_levels
  levels_are = refl

  pub opener_is : opener_fits (ltb 0 (nat_of (get_or a 0 𝟘))) (nat_of (get_or a 1 𝟘)) ≡ opener_fits (in_transaction (view s a).levels) (view s a).opener
  unfolding lowest_levels
  opener_is =
      let e : in_transaction (view s a).levels ≡ ltb 0 (nat_of (get_or a 0 𝟘)) = in_transaction_lem (view s a).levels ∙ ap (ltb 0) (ap length levels_are ∙ levels_count a (nat_of (get_or a 0 𝟘)) (levels_few f)) in
      ap₂ opener_fits (sym e) (sym (opener_at s a))

  pub saved_is : all (saved_in_range s) (view s a).levels ≡ all_from (saved_part s a) (nat_of (get_or a 0 𝟘)) 0
  unfolding saved_in_range saved_part lowest_levels
  saved_is =
      let n : ℕ = nat_of (get_or a 0 𝟘) in
      let h : n ≤ 9 = levels_few f in
      ap (all (saved_in_range s)) levels_are
      ∙ levels_all (saved_in_range s) a n h
      ∙ all_same _ (saved_part s a) n (λ i l. ap (kept_in_range s s.keys) (saved_at a i (omega arith) (fit_long f)))

  pub rise_is : uses_rise (nat_of (get_or a 2 𝟘)) (lowest_levels (nat_of (get_or a 0 𝟘)) a) ≡ uses_rise (length (view s a).work.used) (view s a).levels
  unfolding work_of
  rise_is = sym (ap₂ uses_rise (use_is f) levels_are)

-- the uses of the lowest i levels
module _ (a : List ℤ) (u : ℕ) where
  pub rise_none : (i : ℕ) → i ≡ 0 → eqb u 0 ≡ uses_rise u (lowest_levels i a)
  unfolding lowest_levels uses_rise
  rise_none i e = rw e refl

  module _ (i : ℕ) (h : 0 < i) (few : i ≤ 9) (enough : 333 ≤ length a) where
    rise_more : uses_rise u (lowest_levels i a) ≡ leb (nat_of (get_or a (36 + (i - 1) * 33) 𝟘)) u && uses_rise (nat_of (get_or a (36 + (i - 1) * 33) 𝟘)) (lowest_levels (i - 1) a)
    unfolding lowest_levels uses_rise
    rise_more =
        let e : i ≡ suc (i - 1) = omega arith in
        ap (λ n. uses_rise u (lowest_levels n a)) e
        ∙ ap (uses_rise u) (levels_top a (i - 1) (omega arith) enough)
        ∙ ap (λ b. leb b u && uses_rise b (lowest_levels (i - 1) a)) (base_at a (i - 1) (omega arith) enough)

    pub rise_stop : u < nat_of (get_or a (36 + (i - 1) * 33) 𝟘) → uses_rise u (lowest_levels i a) ≡ false
    rise_stop l = rise_more ∙ ap (λ t. t && uses_rise (nat_of (get_or a (36 + (i - 1) * 33) 𝟘)) (lowest_levels (i - 1) a)) (lt-leb _ u l)

    pub rise_go : nat_of (get_or a (36 + (i - 1) * 33) 𝟘) ≤ u → uses_rise u (lowest_levels i a) ≡ uses_rise (nat_of (get_or a (36 + (i - 1) * 33) 𝟘)) (lowest_levels (i - 1) a)
    rise_go l = rise_more ∙ ap (λ t. t && uses_rise (nat_of (get_or a (36 + (i - 1) * 33) 𝟘)) (lowest_levels (i - 1) a)) (le-leb _ u l)

-- ---- used records

-- the place of record j is in a table
unfoldable pub placed_part : Schema → List ℤ → ℕ → Bool
placed_part s a j = in_table s (nat_of (get_or a (333 + rows_size s.tables + j * 10) 𝟘) / 1024) (nat_of (get_or a (333 + rows_size s.tables + j * 10) 𝟘) % 1024)

pub placed_part_lem : (s : Schema) (a : List ℤ) (j : ℕ) {at place : ℕ} → at ≡ 333 + rows_size s.tables → place ≡ nat_of (get_or a (at + j * 10) 𝟘) → in_table s (place / 1024) (place % 1024) ≡ placed_part s a j
unfolding placed_part
placed_part_lem s a j {at} {place} e q = ap (λ p. in_table s (p / 1024) (p % 1024)) (q ∙ ap (λ n. nat_of (get_or a (n + j * 10) 𝟘)) e)

pub placed_is : {s : Schema} {a : List ℤ} → Fit s a → all (placed s) (view s a).work.used ≡ all_from (placed_part s a) (nat_of (get_or a 2 𝟘)) 0
unfolding view placed placed_part
placed_is {s} {a} f =
    let n : ℕ = nat_of (get_or a 2 𝟘) in
    let h : n ≤ s.room = used_few f in
    records_all (placed s) s a n h
    ∙ all_same _ (placed_part s a) n (λ j l. ap₂ (in_table s) (table_at s a f.size j (omega arith)) (row_at_lem s a f.size j (omega arith)))
