-- The orphan list from a row on: row by row, and from one foreign key to the next.
-- Assumes nothing.
use mathlib.Core.Path.{◌≡◌, refl, sym, ap, ◌∙◌}
use mathlib.Core.Bool.{Bool, true, false}
use mathlib.Core.List.{List, [], ◌∷◌, ◌++◌}
use Prim.Native.Nat.{ℕ, zero, suc, ◌+◌, ◌-◌, ◌≤◌, ◌<◌}
use native.Mathlib.Numerals.{add-one}
use native.Mathlib.Omega.{arith}
use borrow.Author.Tests.{ltb-true, ltb-false}
use lib.Dec.{ltb}
use lib.IntN.{ℤ}
use lib.ListN.{length, get_or, drop, drop_of_length-le}
use lib.Seq.{drop-cons}
use Rattle.std.specs.declared.option.Option.{Option}
use Rattle.std.specs.Prelude.{Some, None}
use Rattle.std.specs.Option.{MatchOption}
use Rattle.schema.specs.Records.{no_key, key_of}
use Rattle.schema.specs.Fields.{schema_of}
use Rattle.rules.specs.declared.Orphan.{Orphan}
use Rattle.rules.specs.Rows.{Row}
use Rattle.rules.specs.OrphanList.{record_if, orphan_rows, orphans_from, orphan_list}
use Rattle.bridge.specs.Fit.{work_of}
use Rattle.bridge.specs.Ready.{Ready}
use Rattle.bridge.proofs.BrokenKeys.{broken_orphan}
use Rattle.orphans.specs.declared.KeyRows.{KeyRows}
use Rattle.orphans.specs.KeyRows.{KeyRowsOf}
use Rattle.orphans.proofs.OrphanLaws.{child_rows, child_at, is_alone, child_is, children_few, children_many}
use Rattle.orphan_scan.specs.Scan.{orphans_from_key, orphans_left, orphans_at, FirstRow, Starts}
use Rattle.orphan_scan.specs.declared.Cursor.{Cursor}

-- ---- the orphans of one foreign key, from row j on
rows_never : (p : Row → Bool) (k : ℕ) → ((c : Row) → p c ≡ false) → (j : ℕ) (xs : List Row) → orphan_rows p k j xs ≡ []
unfolding orphan_rows record_if
rows_never p k e j [] = refl
rows_never p k e j (x ∷ xs) = rw (e x) (rows_never p k e (suc j) xs)

module _ (p : Row → Bool) (k : ℕ) (xs : List Row) (j : ℕ) where
  rows_none : length xs ≤ j → orphan_rows p k j (drop j xs) ≡ []
  unfolding orphan_rows
  rows_none h = ap (orphan_rows p k j) (drop_of_length-le xs h)

  module _ (l : j < length xs) where
    -- row j, then those after it
    rows_turn : orphan_rows p k j (drop j xs) ≡ record_if (p (get_or xs j [])) (record { key = k; row = j }) (orphan_rows p k (j + 1) (drop (j + 1) xs))
    unfolding orphan_rows
    rows_turn = ap (orphan_rows p k j) (drop-cons xs j [] l) ∙ ap (λ (i : ℕ). record_if (p (get_or xs j [])) (record { key = k; row = j }) (orphan_rows p k i (drop i xs))) (sym (add-one j))

    rows_hit : p (get_or xs j []) ≡ true → orphan_rows p k j (drop j xs) ≡ record { key = k; row = j } ∷ orphan_rows p k (j + 1) (drop (j + 1) xs)
    unfolding record_if
    rows_hit e = rows_turn ∙ rw e refl

    rows_miss : p (get_or xs j []) ≡ false → orphan_rows p k j (drop j xs) ≡ orphan_rows p k (j + 1) (drop (j + 1) xs)
    unfolding record_if
    rows_miss e = rows_turn ∙ rw e refl

module _ (b : List ℕ) (a : List ℤ) where
  from_key : (k : ℕ) → k < length (schema_of b).keys → orphans_from_key b a k ≡ orphans_left b a k 0
  unfolding orphans_from_key orphans_left orphans_from
  from_key k l = ap (orphans_from (work_of (schema_of b) a).tabs k) (drop-cons (schema_of b).keys k no_key l)

  from_none : (k : ℕ) → length (schema_of b).keys ≤ k → orphans_from_key b a k ≡ []
  unfolding orphans_from_key orphans_from
  from_none k l = ap (orphans_from (work_of (schema_of b) a).tabs k) (drop_of_length-le (schema_of b).keys l)

  -- all of them
  pub all_left : {x : Cursor} → Starts b x → 0 < length (schema_of b).keys → orphan_list (schema_of b) (work_of (schema_of b) a).tabs ≡ orphans_at b a x
  unfolding orphan_list orphans_from_key
  all_left {x} h l = from_key 0 l ∙ rw (h.first_key, h.first_row) refl

  -- ---- the rows of a key that is not broken
  module _ (h : Ready b a) (k : ℕ) {key : KeyRows} (e : KeyRowsOf b k key) where
    -- row j is an orphan, or it is none
    module _ (j : ℕ) (l : j < key.children.count) where
      in_rows : j < length (child_rows b a k)
      in_rows = omega (arith, l, children_many b a k h key e)

      left_hit : is_alone b a k (child_at b a k j) ≡ true → orphans_left b a k j ≡ record { key = k; row = j } ∷ orphans_left b a k (j + 1)
      unfolding orphans_left
      left_hit t = ap (λ (os : List Orphan). os ++ orphans_from_key b a (suc k)) (rows_hit (is_alone b a k) k (child_rows b a k) j in_rows (child_is b a k j refl ∙ t))

      left_miss : is_alone b a k (child_at b a k j) ≡ false → orphans_left b a k j ≡ orphans_left b a k (j + 1)
      unfolding orphans_left
      left_miss t = ap (λ (os : List Orphan). os ++ orphans_from_key b a (suc k)) (rows_miss (is_alone b a k) k (child_rows b a k) j in_rows (child_is b a k j refl ∙ t))

    -- none of n rows is one
    left_skip : (from n : ℕ) → from + n ≤ key.children.count → ((i : ℕ) → from ≤ i → i < from + n → is_alone b a k (child_at b a k i) ≡ false) → orphans_left b a k from ≡ orphans_left b a k (from + n)
    left_skip from zero l miss = let same : from ≡ from + 0 = omega arith in ap (orphans_left b a k) same
    left_skip from (suc n) l miss =
        let next : from + n + 1 ≡ from + suc n = omega arith in
        left_skip from n (omega (arith, l)) (λ i m o. miss i m (omega (arith, o)))
        ∙ left_miss (from + n) (omega (arith, l)) (miss (from + n) (omega arith) (omega arith))
        ∙ ap (orphans_left b a k) next

    -- no child row is left
    left_none : (j : ℕ) → key.children.count ≤ j → orphans_left b a k j ≡ orphans_from_key b a (suc k)
    unfolding orphans_left
    left_none j l = ap (λ (os : List Orphan). os ++ orphans_from_key b a (suc k)) (rows_none (is_alone b a k) k (child_rows b a k) j (omega (arith, l, children_many b a k h key e)))

    -- the first that is one
    pub first_row : (from : ℕ) (o : Option ℕ) → MatchOption o ((i : ℕ) → from ≤ i → i < key.children.count → is_alone b a k (child_at b a k i) ≡ false) (λ x. (from ≤ x) × (x < key.children.count) × (is_alone b a k (child_at b a k x) ≡ true) × ((i : ℕ) → from ≤ i → i < x → is_alone b a k (child_at b a k i) ≡ false)) → FirstRow b a k from o
    first_row from (Some x) m =
        let whole : from + (x - from) ≡ x = omega (arith, m.0) in (
          omega (arith, m.1, children_few b a k h key e),
          left_skip from (x - from) (omega (arith, whole, m.1)) (λ i l o. m.3 i l (omega (arith, o, whole))) ∙ ap (orphans_left b a k) whole ∙ left_hit x m.1 m.2,
        )
    first_row from None m = by (ltb from key.children.count) refl
      where
        by : (t : Bool) → ltb from key.children.count ≡ t → orphans_left b a k from ≡ orphans_from_key b a (suc k)
        by true t =
            let whole : from + (key.children.count - from) ≡ key.children.count = omega (arith, ltb-true from key.children.count t) in
            left_skip from (key.children.count - from) (omega (arith, whole)) (λ i l o. m i l (omega (arith, o, whole)))
            ∙ left_none (from + (key.children.count - from)) (omega (arith, whole))
        by false t = left_none from (ltb-false from key.children.count t)

  -- a broken key has none
  pub broken_none : (k : ℕ) → (key_of (schema_of b) k).broken ≡ true → (from : ℕ) → orphans_left b a k from ≡ orphans_from_key b a (suc k)
  unfolding orphans_left
  broken_none k u from =
      ap (λ (os : List Orphan). os ++ orphans_from_key b a (suc k))
      (rows_never (is_alone b a k) k (broken_orphan (key_of (schema_of b) k) u (get_or (work_of (schema_of b) a).tabs (key_of (schema_of b) k).parent [])) from (drop from (child_rows b a k)))

  -- where an orphan is left behind a key, there is another foreign key
  pub key_more : (k : ℕ) {os : List Orphan} → os ≡ orphans_from_key b a (suc k) → 0 < length os → k + 1 < length (schema_of b).keys
  key_more k {os} f some = go (ltb (suc k) (length (schema_of b).keys)) refl
    where
      go : (t : Bool) → ltb (suc k) (length (schema_of b).keys) ≡ t → k + 1 < length (schema_of b).keys
      go true t = omega (arith, ltb-true (suc k) (length (schema_of b).keys) t)
      go false t = absurd (omega (arith, some, ap length (f ∙ from_none (suc k) (ltb-false (suc k) (length (schema_of b).keys) t))))

  pub left_next : (k : ℕ) → k + 1 < length (schema_of b).keys → orphans_from_key b a (suc k) ≡ orphans_left b a (k + 1) 0
  left_next k m = ap (orphans_from_key b a) (sym (add-one k)) ∙ from_key (k + 1) m
