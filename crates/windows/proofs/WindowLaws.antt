-- Images by the columns of a key with a window: what the days of rows must be, NULL in the keys, keys that are equal.
-- Assumes nothing.
use mathlib.Core.Path.{◌≡◌, refl, sym, ap, ap₂, ◌∙◌}
use mathlib.Core.Bool.{Bool, true, false, cond, not, ◌&&◌, ◌||◌, or-false}
use mathlib.Core.List.{List, [], ◌∷◌, ◌++◌}
use Prim.Native.Nat.{ℕ, suc, ◌+◌, ◌<◌}
use native.Mathlib.Numerals.{add-one}
use native.Mathlib.Omega.{arith}
use borrow.Author.Tests.{eqb-true, eqb-false}
use lib.Dec.{eqb}
use lib.ListN.{get_or, take, set, length-set}
use lib.Signed.{le_z}
use lib.Seq.{get_or-set_same, get_or-set_other, take-suc-set}
use Rattle.schema.specs.Bounds.{Columns}
use Rattle.rules.specs.Lists.{any}
use Rattle.rules.specs.Rows.{Row, live, null_at}
use Rattle.rules.specs.Keys.{same_key, full_key, first_day, end_day, in_window, same_window}
use Rattle.bridge.proofs.Tests.{and_assoc}
use Rattle.bridge.proofs.CountLaws.{any_cons, any_append}
use Rattle.windows.specs.declared.Days.{Days}
use Rattle.windows.specs.declared.Days.TheVariants.{Within}
use Rattle.windows.specs.declared.WindowKey.{WindowKey}
use Rattle.windows.specs.WindowKey.{WindowIn, window_of, days_of, child_days, pair_folds, child_pairs, parent_pairs, child_all, parent_all, key_changes, serves_by, keeps_pairs, keeps_days, cut, left_days}

-- ---- a key with one column more

neither : (a b : Bool) → not (a || b) ≡ not a && not b
neither true b = refl
neither false b = refl

-- it has no NULL where the key has none and the column is not NULL
pub full_last : (row : Row) (cs : List ℕ) (c : ℕ) → full_key (cs ++ (c ∷ [])) row ≡ full_key cs row && not (null_at row c)
unfolding full_key any
full_last row cs c =
    let nulls : any (null_at row) (cs ++ (c ∷ [])) ≡ any (null_at row) cs || null_at row c = any_append (null_at row) cs (c ∷ []) ∙ ap (λ (b : Bool). any (null_at row) cs || b) (any_cons (null_at row) c [] ∙ or-false (null_at row c)) in
    ap (λ (b : Bool). live row && b) (ap not nulls ∙ neither (any (null_at row) cs) (null_at row c))
    ∙ and_assoc (live row) (not (any (null_at row) cs)) (not (null_at row c))

module _ (x : WindowKey) where
  -- ---- NULL in the keys

  module _ (row : Row) where
    pub child_full : full_key (child_all x) row ≡ full_key (child_pairs x) row && not (null_at row x.day)
    unfolding child_all
    child_full = full_last row (child_pairs x) x.day

    pub parent_full : full_key (parent_all x) row ≡ (full_key (parent_pairs x) row && not (null_at row x.first)) && not (null_at row (suc x.first))
    unfolding parent_all
    parent_full =
        full_last row (parent_pairs x ++ (x.first ∷ [])) (suc x.first)
        ∙ ap (λ (b : Bool). b && not (null_at row (suc x.first))) (full_last row (parent_pairs x) x.first)

  -- the child key as an array: the day behind the pairs
  pub child_array : WindowIn x → take (x.pairs.n + 1) (set x.pairs.cs x.pairs.n x.day) ≡ child_all x
  unfolding child_all child_pairs
  child_array h =
      let n = x.pairs.n in
      let cs = x.pairs.cs in
      ap (λ (m : ℕ). take m (set cs n x.day)) (add-one n) ∙ take-suc-set cs n x.day (omega (arith, h.child.size, h.some))

  pub child_array_in : WindowIn x → Columns 9 (x.pairs.n + 1) (set x.pairs.cs x.pairs.n x.day)
  child_array_in h =
      let n = x.pairs.n in
      record { few = omega (arith, h.some); size = length-set x.pairs.cs n x.day ∙ h.child.size; within = λ i l. column_below h i l (eqb i n) refl }
    where
      column_below : WindowIn x → (i : ℕ) → i < x.pairs.n + 1 → (t : Bool) → eqb i x.pairs.n ≡ t → suc (get_or (set x.pairs.cs x.pairs.n x.day) i 0) < 9
      column_below h i l true e =
          let here : i ≡ x.pairs.n = eqb-true i x.pairs.n e in
          rw (here, get_or-set_same x.pairs.cs x.pairs.n x.day 0 (omega (arith, h.child.size, h.some))) (omega (arith, h.day))
      column_below h i l false e =
          let other : i ≡ x.pairs.n → ⊥ = eqb-false i x.pairs.n e in
          rw (get_or-set_other x.pairs.cs x.pairs.n i x.day 0 other) (h.child.within i (omega arith))

  -- ---- a parent key that changes

  module _ (old new : Row) where
    abbrev same_pairs : Bool
    same_pairs = same_key (pair_folds x) (parent_pairs x) (parent_pairs x) new old

    pub stays_null : full_key (parent_all x) old ≡ false → false ≡ key_changes x old new
    unfolding key_changes
    stays_null e = sym (ap (λ (b : Bool). b && not ((live new && same_pairs) && same_window new old (window_of x))) e)

    module _ (full : full_key (parent_all x) old ≡ true) where
      by_full : not ((live new && same_pairs) && same_window new old (window_of x)) ≡ key_changes x old new
      unfolding key_changes
      by_full = sym (ap (λ (b : Bool). b && not ((live new && same_pairs) && same_window new old (window_of x))) full)

      pub changes_gone : live new ≡ false → true ≡ key_changes x old new
      changes_gone e = sym (ap (λ (b : Bool). not ((b && same_pairs) && same_window new old (window_of x))) e) ∙ by_full

      module _ (lives : live new ≡ true) where
        pub changes_pairs : same_pairs ≡ false → true ≡ key_changes x old new
        changes_pairs e = sym (ap₂ (λ (a b : Bool). not ((a && b) && same_window new old (window_of x))) lives e) ∙ by_full

        pub changes_window : same_pairs ≡ true → not (same_window new old (window_of x)) ≡ key_changes x old new
        changes_window e = sym (ap₂ (λ (a b : Bool). not ((a && b) && same_window new old (window_of x))) lives e) ∙ by_full

  -- ---- a parent row that serves a child row

  module _ (child parent : Row) where
    abbrev equal_pairs : Bool
    equal_pairs = same_key (pair_folds x) (child_pairs x) (parent_pairs x) child parent

    pub serves_gone : live parent ≡ false → false ≡ serves_by x child parent
    unfolding serves_by
    serves_gone e = sym (ap (λ (b : Bool). b && (equal_pairs && in_window child parent (window_of x))) e)

    pub serves_none : live parent ≡ true → equal_pairs ≡ false → false ≡ serves_by x child parent
    unfolding serves_by
    serves_none e f = sym (ap₂ (λ (a b : Bool). a && (b && in_window child parent (window_of x))) e f)

    pub serves_window : live parent ≡ true → equal_pairs ≡ true → in_window child parent (window_of x) ≡ serves_by x child parent
    unfolding serves_by
    serves_window e f = sym (ap₂ (λ (a b : Bool). a && (b && in_window child parent (window_of x))) e f)

  -- ---- a parent row that changes

  module _ (old new : Row) where
    pub pairs_gone : full_key (parent_all x) new ≡ false → false ≡ keeps_pairs x old new
    unfolding keeps_pairs
    pairs_gone e = sym (ap (λ (b : Bool). b && same_pairs old new) e)

    pub pairs_stay : full_key (parent_all x) new ≡ true → same_pairs old new ≡ keeps_pairs x old new
    unfolding keeps_pairs
    pairs_stay e = sym (ap (λ (b : Bool). b && same_pairs old new) e)

    abbrev window_in_new : Bool
    window_in_new = le_z (first_day (window_of x) new) (first_day (window_of x) old) && le_z (end_day (window_of x) old) (end_day (window_of x) new)

    pub days_gone : keeps_pairs x old new ≡ false → false ≡ keeps_days x old new
    unfolding keeps_days
    days_gone e = sym (ap (λ (b : Bool). b && window_in_new) e)

    pub days_stay : keeps_pairs x old new ≡ true → window_in_new ≡ keeps_days x old new
    unfolding keeps_days
    days_stay e = sym (ap (λ (b : Bool). b && window_in_new) e)

    -- the old window's days but for those at either end that the new one has
    abbrev pub narrowed : Days
    narrowed = Within x.day (cut (days_of x old) (days_of x new))

    pub left_all : keeps_pairs x old new ≡ false → child_days old x ≡ left_days old new x
    unfolding left_days
    left_all e = sym (ap (λ (b : Bool). cond b narrowed (child_days old x)) e)

    pub left_some : keeps_pairs x old new ≡ true → narrowed ≡ left_days old new x
    unfolding left_days
    left_some e = sym (ap (λ (b : Bool). cond b narrowed (child_days old x)) e)
