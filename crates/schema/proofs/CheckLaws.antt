-- Laws of the check, as the functions that make it use them. Assumes nothing.
use Rattle.std.specs.Prelude.{Err}
use mathlib.Core.Path.{◌≡◌, refl, sym, ap, ap₂, ◌∙◌}
use mathlib.Core.Bool.{Bool, true, false, ◌&&◌}
use mathlib.Core.List.{List, [], ◌∷◌}
use Prim.Native.Nat.{ℕ, zero, suc, ◌<◌, ◌≤◌}
use native.Mathlib.Omega.{arith}
use borrow.Author.Tests.{leb-true, leb-false, eqb-true, eqb-false, le-leb, lt-leb, le-ltb, eq-eqb, ne_eqb}
use lib.Dec.{leb, ltb, eqb}
use lib.ListN.{length, take}
use Rattle.std.specs.Cmp.Lexicographic.{pointwise}
use Rattle.schema.specs.Check.{Accepted}
use Rattle.schema.specs.declared.SchemaError.TheVariants.{Malformed}
use Rattle.schema.specs.Ranges.{all_from}
use Rattle.schema.specs.Fields
use Rattle.schema.specs.Check

-- what `a && b` answers: b where a holds, else a
pub both_asked : {v a b x y : Bool} → v ≡ b → a ≡ true → a ≡ x → b ≡ y → v ≡ x && y
both_asked {y} p q r s = p ∙ s ∙ ap (λ (t : Bool). t && y) (sym q ∙ r)

pub first_asked : {v a x : Bool} (y : Bool) → v ≡ a → a ≡ false → a ≡ x → v ≡ x && y
first_asked y p q r = p ∙ q ∙ ap (λ (t : Bool). t && y) (sym q ∙ r)

same_turned : (a b : ℕ) → eqb a b ≡ eqb b a
same_turned a b = go (eqb b a) refl
  where
    go : (t : Bool) → eqb b a ≡ t → eqb a b ≡ t
    go true e = eq-eqb a b (sym (eqb-true b a e))
    go false e = ne_eqb a b (λ q. eqb-false b a e (sym q))

both_more : (a b : ℕ) → leb a b ≡ leb (suc a) (suc b)
both_more a b = go (leb (suc a) (suc b)) refl
  where
    go : (t : Bool) → leb (suc a) (suc b) ≡ t → leb a b ≡ t
    go true e = le-leb a b (omega (arith, leb-true (suc a) (suc b) e))
    go false e = lt-leb a b (omega (arith, leb-false (suc a) (suc b) e))

and_swap : (a b c : Bool) → a && (b && c) ≡ b && (a && c)
and_swap true b c = refl
and_swap false true c = refl
and_swap false false c = refl

-- n numbers from the one behind j on, and n from j on of the numbers behind
all_behind : (p : ℕ → Bool) (n j : ℕ) → all_from (λ i. p (suc i)) n j ≡ all_from p n (suc j)
unfolding all_from
all_behind p zero j = refl
all_behind p (suc n) j = ap (λ (b : Bool). p (suc j) && b) (all_behind p n (suc j))

-- a start compared as lists are
prefix_is : (start bs : List ℕ) → pointwise eqb start (take (length start) bs) ≡ leb (length start) (length bs) && all_from (Check.same_at bs start) (length start) 0
unfolding all_from
prefix_is [] bs = rw (le-leb 0 (length bs) (omega arith))
prefix_is (x ∷ start) [] = rw (lt-leb (suc (length start)) 0 (omega arith))
prefix_is (x ∷ start) (y ∷ bs) =
    ap₂ ◌&&◌ (same_turned x y) (prefix_is start bs)
    ∙ and_swap (eqb y x) (leb (length start) (length bs)) (all_from (Check.same_at bs start) (length start) 0)
    ∙ ap₂ (λ (a b : Bool). a && (eqb y x && b)) (both_more (length start) (length bs)) (all_behind (Check.same_at (y ∷ bs) (x ∷ start)) (length start) 0)

pub starts_is : (start bs : List ℕ) → pointwise eqb start (take (length start) bs) ≡ Check.starts_with start bs
unfolding Check.starts_with
starts_is = prefix_is

-- bytes that are long enough start with others where each byte is the same
pub starts_by_bytes : (start bs : List ℕ) {b : Bool} → length start ≤ length bs → all_from (Check.same_at bs start) (length start) 0 ≡ b → b ≡ Check.starts_with start bs
unfolding Check.starts_with
starts_by_bytes start bs h e = rw (le-leb (length start) (length bs) h) (sym e)

module _ (bs : List ℕ) where
  pub header_short : length bs < 16 → false ≡ Check.header_rules bs
  unfolding Check.header_rules
  header_short h = rw (lt-leb 16 (length bs) h)

  pub header_is : {a b : Bool} → 16 ≤ length bs → a ≡ Check.starts_with Check.magic bs → b ≡ Check.header_rest bs → a && b ≡ Check.header_rules bs
  unfolding Check.header_rules
  header_is h p q = rw (le-leb 16 (length bs) h, p, q)

  pub table_no : (t : ℕ) → Check.size_rules bs t ≡ false → false ≡ Check.table_rules bs t
  unfolding Check.table_rules
  table_no t e = rw e

  pub table_rest : (t : ℕ) → Check.size_rules bs t ≡ true → Check.table_rules bs t ≡ Check.table_rest bs t
  unfolding Check.table_rules
  table_rest t e = rw e

  -- without a window nothing is asked of a key
  pub window_none : (k : ℕ) → Fields.windowed_of bs k ≡ 0 → true ≡ Check.windowed_rule bs k
  unfolding Check.windowed_rule
  window_none k e = rw (eq-eqb (Fields.windowed_of bs k) 0 e)

  pub window_some : (k : ℕ) → (Fields.windowed_of bs k ≡ 0 → ⊥) → leb 2 (Fields.width_of bs k) && (ltb (Fields.on_delete_of bs k) 2 && ltb (Fields.on_update_of bs k) 2) ≡ Check.windowed_rule bs k
  unfolding Check.windowed_rule
  window_some k n = rw (ne_eqb (Fields.windowed_of bs k) 0 n)

  pub key_no : (k : ℕ) → Check.code_rules bs k ≡ false → false ≡ Check.key_rules bs k
  unfolding Check.key_rules
  key_no k e = rw e

  pub key_rest : (k : ℕ) → Check.code_rules bs k ≡ true → Check.key_rules bs k ≡ Check.key_rest bs k
  unfolding Check.key_rules
  key_rest k e = rw e

  pub parent_no : (k : ℕ) → Fields.table_count bs ≤ Fields.parent_of bs k → false ≡ Fields.has_parent_key bs k
  unfolding Fields.has_parent_key
  parent_no k h = rw (le-ltb (Fields.parent_of bs k) (Fields.table_count bs) h)

  pub well_no : Check.header_rules bs ≡ false → false ≡ Check.well_formed bs
  unfolding Check.well_formed
  well_no e = rw e

  pub well_rest : Check.header_rules bs ≡ true → Check.well_formed bs ≡ (all_from (Check.table_rules bs) (Fields.table_count bs) 0 && all_from (Check.key_rules bs) (Fields.key_count bs) 0)
  unfolding Check.well_formed
  well_rest e = rw e

  pub answer_1 : Check.well_formed bs ≡ false → (Err Malformed) ≡ Check.check_schema bs
  unfolding Check.check_schema
  answer_1 e = rw e

  pub answer_0 : Check.well_formed bs ≡ true → Accepted ≡ Check.check_schema bs
  unfolding Check.check_schema
  answer_0 e = rw e
