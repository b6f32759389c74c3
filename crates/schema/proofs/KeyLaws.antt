-- The foreign keys of an accepted schema. Assumes nothing.
use mathlib.Core.Path.{◌≡◌, refl, sym, ap, ◌∙◌}
use mathlib.Core.Bool.{Bool, true, false, not, cond, false≢true, ◌&&◌, and-false}
use mathlib.Core.List.{List, [], ◌∷◌, ◌++◌, map, append-nil}
use mathlib.Core.Logic.{◌⊎◌, inl, inr}
use Prim.Native.Nat.{ℕ, zero, suc, ◌+◌, ◌-◌, ◌/◌, ◌^◌, ◌<◌, ◌≤◌}
use native.Mathlib.Nat.{zero-add}
use native.Mathlib.Omega.{arith}
use borrow.Author.Tests.{ltb-true, lt-ltb, le-ltb, eqb-true, eqb-false, eq-eqb, ne_eqb, not-true, not-false}
use lib.Dec.{ltb, eqb}
use lib.Pow.{pow_mono}
use lib.ListN.{length}
use Rattle.schema.specs.Check.{Accepted}
use Rattle.schema.specs.Ranges.{all_from, any_from, list_from}
use Rattle.schema.specs.Records.{Window, ForeignKey, child_key, unique_columns, key_of}
use Rattle.schema.specs.Bytes
use Rattle.schema.specs.Bytes.{bit, column_mask}
use Rattle.schema.specs.Fields
use Rattle.schema.specs.Fields.{table_from, key_from, schema_of}
use Rattle.schema.specs.Check
use Rattle.schema.specs.ParentKey.{Mem, ParentKey}
use Rattle.schema.proofs.RangeLaws.{and_left, and_right, all_at, all_each}
use Rattle.schema.proofs.Formed.{Codes, Formed, formed, and3}
use Rattle.schema.proofs.ListLaws.{list_last}
use Rattle.schema.proofs.MaskLaws.{Distinct, Found, mask_each, mask_only, mask_below, quotient_none}
use Rattle.schema.proofs.SchemaLaws.{tables_are, keys_are, table_is, key_is, accepted_formed}

-- one number of the range passes the test
pub record Some (p : ℕ → Bool) (n : ℕ) : Type 0 where
  pub place : ℕ
  pub below : place < n
  pub passes : p place ≡ true

pub any_some : (p : ℕ → Bool) (n j : ℕ) → any_from p n j ≡ true → Some p (j + n)
unfolding any_from
any_some p zero j e = absurd (false≢true e)
any_some p (suc n) j e = go (p j) refl (λ q. any_some p n (suc j) q)
  where
    go : (t : Bool) → p j ≡ t → (any_from p n (suc j) ≡ true → Some p (suc j + n)) → Some p (j + suc n)
    go true h next = record { place = j; below = omega arith; passes = h }
    go false h next =
        let q : any_from p n (suc j) ≡ true = rw h at e in
        let s : Some p (suc j + n) = next q in
        record { place = s.place; below = omega (arith, s.below); passes = s.passes }

-- ---- members of lists made from a range

module _ {A : Type 0} (f : ℕ → A) where
  in_from : (n j i : ℕ) → j ≤ i → i < j + n → Mem (f i) (list_from f n j)
  unfolding list_from Mem
  in_from zero j i l h = absurd (omega arith)
  in_from (suc n) j i l h = go (eqb i j) refl (λ g k. in_from n (suc j) i g k)
    where
      go : (t : Bool) → eqb i j ≡ t → (suc j ≤ i → i < suc j + n → Mem (f i) (list_from f n (suc j))) → (f i ≡ f j) ⊎ Mem (f i) (list_from f n (suc j))
      go true e next = inl (ap f (eqb-true i j e))
      go false e next = let ne : i ≡ j → ⊥ = eqb-false i j e in inr (next (omega arith) (omega arith))

  out_from : (n j : ℕ) (x : A) (P : Type 0) → ((i : ℕ) → i < j + n → x ≡ f i → P) → Mem x (list_from f n j) → P
  unfolding list_from Mem
  out_from zero j x P k m = absurd m
  out_from (suc n) j x P k (inl e) = k j (omega arith) e
  out_from (suc n) j x P k (inr m) = out_from n (suc j) x P (λ i h e. k i (omega arith) e) m

-- none of distinct columns is c where their mask has not its bit
mask_lacks : (p : ℕ → ℕ) (n : ℕ) → Distinct p n → (c : ℕ) → all_from (λ i. not (eqb (p i) c)) n 0 ≡ not (bit c (column_mask p n))
mask_lacks p n d c = go (bit c (column_mask p n)) refl
  where
    other : bit c (column_mask p n) ≡ false → (i : ℕ) → i < n → p i ≡ c → ⊥
    other h i l e = false≢true (sym h ∙ ap (λ (x : ℕ). bit x (column_mask p n)) (sym e) ∙ mask_each p n d i l)

    hit : Found p n c → (t : Bool) → all_from (λ i. not (eqb (p i) c)) n 0 ≡ t → t ≡ false
    hit f false a = refl
    hit f true a = absurd (eqb-false _ _ (not-true _ (all_at (λ i. not (eqb (p i) c)) n 0 a f.place f.below)) (ap p (zero-add f.place) ∙ f.is))

    go : (t : Bool) → bit c (column_mask p n) ≡ t → all_from (λ i. not (eqb (p i) c)) n 0 ≡ not t
    go true h = hit (mask_only p n d c h) (all_from (λ i. not (eqb (p i) c)) n 0) refl
    go false h = all_each (λ i. not (eqb (p i) c)) n 0 (λ i l. ap not (ne_eqb _ _ (λ e. other h i l (sym (ap p (zero-add i)) ∙ e))))

-- ---- the parent key

-- the columns that the check takes for distinct are
distinct_is : (bs : List ℕ) (at n : ℕ) → Check.columns_rule bs at n ≡ true → Distinct (λ i. Bytes.byte bs (at + i)) n
unfolding Check.columns_rule Check.new_column
distinct_is bs at n e i j h l q =
    let a : all_from (Check.new_column bs at) n 0 ≡ true = and_left (all_from (Check.new_column bs at) n 0) (all_from (Check.is_byte bs at 255) (4 - n) n) e in
    let b : Check.new_column bs at i ≡ true = rw (zero-add i) at (all_at (Check.new_column bs at) n 0 a i h) in
    let c : Check.differ bs at i j ≡ true = rw (zero-add j) at (all_at (Check.differ bs at i) i 0 b j l) in
    eqb-false (Bytes.byte bs (at + i)) (Bytes.byte bs (at + j)) (not-true _ c) q

module _ (bs : List ℕ) (f : Formed bs) where
  -- a unique key has no bit at the table's columns and above
  pub unique_high : (t : ℕ) → t < Fields.table_count bs → (i : ℕ) → i < 4 → Fields.unique_of bs t i / 2 ^ Fields.columns_of bs t ≡ 0
  unfolding Check.mask_rule
  unique_high t h i l =
      let r = all_at (Check.mask_rule bs (Fields.table_start t + 3) (Fields.columns_of bs t)) 7 0 (f.table t h).masks (i + 1) (omega arith) in
      let at : Fields.table_start t + 3 + (0 + (i + 1)) ≡ Fields.table_start t + 4 + i = omega arith in
      eqb-true _ _ (rw at at r)

  pub unique_byte : (t : ℕ) → t < Fields.table_count bs → (i : ℕ) → i < 4 → Fields.unique_of bs t i < 256
  unique_byte t h i l =
      let q : Fields.unique_of bs t i < 2 ^ Fields.columns_of bs t = quotient_none _ _ (unique_high t h i l) in
      let b : 2 ^ Fields.columns_of bs t ≤ 2 ^ 8 = pow_mono (f.table t h).sizes.columns.high in
      omega arith

  pub parent_distinct : (k : ℕ) → k < Fields.key_count bs → Distinct (Fields.parent_column_of bs k) (Fields.width_of bs k)
  parent_distinct k h = distinct_is bs (Fields.key_start bs k + 10) (Fields.width_of bs k) (f.key k h).parent_rule

  module _ (k : ℕ) (h : Fields.parent_of bs k < Fields.table_count bs) where
    abbrev t : ℕ
    t = Fields.parent_of bs k

    -- parent columns that are a unique key are there
    columns_there : any_from (Fields.unique_is bs k) 4 0 ≡ true → all_from (Fields.column_rule bs (Fields.key_start bs k + 10) (Fields.columns_of bs t)) (Fields.width_of bs k) 0 ≡ true
    unfolding Fields.unique_is Fields.column_rule
    columns_there e =
        let s = any_some (Fields.unique_is bs k) 4 0 e in
        let l : s.place < 4 = omega (arith, s.below) in
        let m : Fields.unique_of bs t s.place ≡ column_mask (Fields.parent_column_of bs k) (Fields.width_of bs k) = eqb-true _ _ s.passes in
        let q : Fields.unique_of bs t s.place < 2 ^ Fields.columns_of bs t = quotient_none _ _ (unique_high t h s.place l) in
        all_each (Fields.column_rule bs (Fields.key_start bs k + 10) (Fields.columns_of bs t)) (Fields.width_of bs k) 0
        (λ i g. rw (zero-add i) (lt-ltb (Fields.parent_column_of bs k i) (Fields.columns_of bs t) (mask_below (Fields.parent_column_of bs k) (Fields.width_of bs k) (Fields.columns_of bs t) (rw (← m) q) i g)))

    -- so it is enough to look for the unique key
    pub parent_rest : Fields.has_parent_key bs k ≡ any_from (Fields.unique_is bs k) 4 0
    unfolding Fields.has_parent_key
    parent_rest = go (any_from (Fields.unique_is bs k) 4 0) refl
      where
        go : (b : Bool) → any_from (Fields.unique_is bs k) 4 0 ≡ b → ltb t (Fields.table_count bs) && all_from (Fields.column_rule bs (Fields.key_start bs k + 10) (Fields.columns_of bs t)) (Fields.width_of bs k) 0 && any_from (Fields.unique_is bs k) 4 0 ≡ any_from (Fields.unique_is bs k) 4 0
        go true e = rw (lt-ltb t (Fields.table_count bs) h, columns_there e)
        go false e = rw e (and-false (ltb t (Fields.table_count bs) && all_from (Fields.column_rule bs (Fields.key_start bs k + 10) (Fields.columns_of bs t)) (Fields.width_of bs k) 0))

  -- ---- the end of a window

  -- a key without one needs none
  pub end_none : (k : ℕ) → Fields.windowed_of bs k ≡ 0 → true ≡ Fields.has_end bs k
  unfolding Fields.has_end
  end_none k e = sym (rw (eq-eqb (Fields.windowed_of bs k) 0 e))

  module _ (k : ℕ) (s : Fields.windowed_of bs k ≡ 0 → ⊥) where
    pub end_missing : Fields.columns_of bs (Fields.parent_of bs k) ≤ Fields.end_of bs k → false ≡ Fields.has_end bs k
    unfolding Fields.has_end
    end_missing l = sym (rw (ne_eqb (Fields.windowed_of bs k) 0 s, le-ltb (Fields.end_of bs k) (Fields.columns_of bs (Fields.parent_of bs k)) l))

    -- a column that is there is the end where it is not in the mask of the parent columns
    pub end_by_mask : k < Fields.key_count bs → Fields.end_of bs k < Fields.columns_of bs (Fields.parent_of bs k) → not (bit (Fields.end_of bs k) (column_mask (Fields.parent_column_of bs k) (Fields.width_of bs k))) ≡ Fields.has_end bs k
    unfolding Fields.has_end
    end_by_mask h l =
        sym
        (rw (ne_eqb (Fields.windowed_of bs k) 0 s, lt-ltb (Fields.end_of bs k) (Fields.columns_of bs (Fields.parent_of bs k)) l)
        (mask_lacks (Fields.parent_column_of bs k) (Fields.width_of bs k) (parent_distinct k h) (Fields.end_of bs k)))

-- ---- the columns of a record: those of the pairs, and the last one of a windowed key

with_last : (f : ℕ → ℕ) (w n : ℕ) → w ≤ 1 → 1 ≤ n → (column : Window → ℕ) (v : Window) → column v ≡ f (n - 1) → list_from f (n - w) 0 ++ map column (cond (eqb w 1) (v ∷ []) []) ≡ list_from f n 0
with_last f zero n h l column v q = let e : n - 0 ≡ n = omega arith in rw e (append-nil (list_from f n 0))
with_last f (suc zero) zero h l column v q = absurd (omega arith)
with_last f (suc zero) (suc n) h l column v q =
    let e : suc n - 1 ≡ n = omega arith in
    let last : column v ≡ f (0 + n) = q ∙ ap f (e ∙ sym (zero-add n)) in
    rw e (ap (λ (x : ℕ). list_from f n 0 ++ (x ∷ [])) last ∙ list_last f n 0)
with_last f (suc (suc w)) n h l column v q = absurd (omega arith)

pub child_key_is : (bs : List ℕ) (k : ℕ) → Codes bs k → child_key (key_from bs k) ≡ list_from (Fields.child_column_of bs k) (Fields.width_of bs k) 0
unfolding child_key key_from Fields.key_windows
child_key_is bs k c = with_last (Fields.child_column_of bs k) (Fields.windowed_of bs k) (Fields.width_of bs k) c.windowed c.width.low (λ w. w.day) _ refl

pub unique_columns_are : (bs : List ℕ) (k : ℕ) → Codes bs k → unique_columns (key_from bs k) ≡ list_from (Fields.parent_column_of bs k) (Fields.width_of bs k) 0
unfolding unique_columns key_from Fields.key_windows
unique_columns_are bs k c = with_last (Fields.parent_column_of bs k) (Fields.windowed_of bs k) (Fields.width_of bs k) c.windowed c.width.low (λ w. w.first) _ refl

-- a foreign key of an accepted schema that is not broken
module _ (bs : List ℕ) (e : Check.check_schema bs ≡ Accepted) (k : ℕ) (h : k < length (schema_of bs).keys) (u : (key_of (schema_of bs) k).broken ≡ false) where
  abbrev p : ℕ → ℕ
  p = Fields.parent_column_of bs k

  abbrev n : ℕ
  n = Fields.width_of bs k

  form : Formed bs
  form = formed bs (accepted_formed bs e)

  codes_are : Codes bs k
  codes_are = (form.key k (omega (arith, keys_are bs))).codes

  both : Fields.has_parent_key bs k && Fields.has_end bs k ≡ true
  unfolding key_from Fields.is_broken
  both = not-false _ (sym (ap (λ (x : ForeignKey). x.broken) (key_is bs k h)) ∙ u)

  has : Fields.has_parent_key bs k ≡ true
  has = and_left (Fields.has_parent_key bs k) (Fields.has_end bs k) both

  -- the end of its window is in the parent table, and not in the key
  pub has_end : Fields.has_end bs k ≡ true
  has_end = and_right (Fields.has_parent_key bs k) (Fields.has_end bs k) both

  parts : (ltb (Fields.parent_of bs k) (Fields.table_count bs) ≡ true) × (all_from (Fields.column_rule bs (Fields.key_start bs k + 10) (Fields.columns_of bs (Fields.parent_of bs k))) n 0 ≡ true) × (any_from (Fields.unique_is bs k) 4 0 ≡ true)
  unfolding Fields.has_parent_key
  parts = and3 _ _ _ has

  distinct : Distinct p n
  distinct = parent_distinct bs form k (omega (arith, keys_are bs))

  -- it has its parent key
  pub parent_key : ParentKey (schema_of bs) (key_of (schema_of bs) k)
  unfolding Fields.unique_is table_from key_from
  parent_key =
      let t : ℕ = Fields.parent_of bs k in
      let s = any_some (Fields.unique_is bs k) 4 0 parts.2 in
      let l : s.place < 4 = omega (arith, s.below) in
      let m : Fields.unique_of bs t s.place ≡ column_mask p n = eqb-true _ _ s.passes in
      let there : t < length (schema_of bs).tables = omega (arith, ltb-true t (Fields.table_count bs) parts.0, tables_are bs) in
      rw (key_is bs k h)
      record {
        there = there;
        unique = Fields.unique_of bs t s.place;
        listed = rw (table_is bs t there) (in_from (Fields.unique_of bs t) 4 0 s.place (omega arith) (omega arith));
        each = λ c q. rw m (out_from p n 0 c (bit c (column_mask p n) ≡ true) (λ j g e. rw e (mask_each p n distinct j (omega (arith, zero-add n)))) (rw (unique_columns_are bs k codes_are) at q));
        only = λ c q.
            let f : Found p n c = mask_only p n distinct c (rw m at q) in
            rw (unique_columns_are bs k codes_are, ← f.is) (in_from p n 0 f.place (omega arith) (omega (arith, f.below, zero-add n)));
      }

  -- its parent columns are below the parent table's
  pub parent_below : (i : ℕ) → i < Fields.width_of bs k → Fields.parent_column_of bs k i < Fields.columns_of bs (Fields.parent_of bs k)
  unfolding Fields.column_rule
  parent_below i l = ltb-true _ _ (rw (zero-add i) at (all_at (Fields.column_rule bs (Fields.key_start bs k + 10) (Fields.columns_of bs (Fields.parent_of bs k))) n 0 parts.1 i l))
