-- What is needed of the foreign keys of an accepted schema, and of those of a bounded one.
-- Assumes nothing.
use mathlib.Core.Path.{◌≡◌, refl, sym, ap, ◌∙◌, subst}
use mathlib.Core.Bool.{true, false, not, ◌&&◌, true≢false}
use Prim.Native.Nat.{ℕ, ◌<◌, ◌≤◌}
use mathlib.Core.List.{List}
use borrow.Author.Tests.{eq-eqb}
use lib.Dec.{eqb, ltb}
use lib.ListN.{length}
use Rattle.schema.specs.Check.{Accepted, check_schema}
use Rattle.schema.specs.declared.Action.TheVariants.{SetNull, SetDefault}
use Rattle.schema.specs.Ranges.{all}
use Rattle.schema.specs.Records.{ForeignKey, Schema, no_key, table_of, key_of, child_key, parent_key}
use Rattle.schema.specs.Fields.{schema_of}
use Rattle.schema.specs.ParentKey.{Mem}
use Rattle.schema.proofs.FieldLaws.{columns_few, read_child, same_width, pairs_some}
use Rattle.rules.specs.Lists.{any}
use Rattle.rules.specs.DeleteBound.{in_parent_key, bounded_key, bounded}
use Rattle.bridge.proofs.Tests.{and_both, fails}
use Rattle.bridge.proofs.Members.{mem_at, any_mem, all_mem}
use Rattle.bridge.proofs.KeyColumns.{child_key_in, parent_key_in}

-- a foreign key has pairs, its child key is in a table of at most eight columns, and its parent key, unless it is broken, in the parent table
pub record KeyShape (s : Schema) (k : ForeignKey) : Type 0 where
  pub some : 0 < length k.child_columns
  pub same : length k.parent_columns ≡ length k.child_columns
  pub narrow : (table_of s k.child).columns ≤ 8
  pub child_in : all (λ c. ltb c (table_of s k.child).columns) (child_key k) ≡ true
  pub parent_in : k.broken ≡ false → all (λ c. ltb c (table_of s k.parent).columns) (parent_key k) ≡ true

abbrev pub Shapes : Schema → Type 0
Shapes s = (k : ForeignKey) → Mem k s.keys → KeyShape s k

pub accepted_shapes : (bs : List ℕ) → check_schema bs ≡ Accepted → Shapes (schema_of bs)
accepted_shapes bs acc k m = subst (KeyShape (schema_of bs)) (sym q.2) (shape q.0 q.1)
  where
    q : (i : ℕ) × (i < length (schema_of bs).keys) × (k ≡ key_of (schema_of bs) i)
    q = mem_at k no_key (schema_of bs).keys m

    shape : (i : ℕ) → i < length (schema_of bs).keys → KeyShape (schema_of bs) (key_of (schema_of bs) i)
    shape i h =
        let child = read_child bs acc i h refl in
        record {
          some = pairs_some bs acc i h;
          same = same_width bs acc i h;
          narrow = columns_few bs acc (key_of (schema_of bs) i).child (rw (← child.0) child.1);
          child_in = child_key_in bs acc i h;
          parent_in = parent_key_in bs acc i h;
        }

-- ---- a bounded schema

module _ (s : Schema) (h : bounded s ≡ true) (k : ForeignKey) (m : Mem k s.keys) where
  key_bounded : bounded_key s k k.on_delete ≡ true
  unfolding bounded
  key_bounded = all_mem k (λ k. bounded_key s k k.on_delete) s.keys h m

  -- no action is SET DEFAULT
  pub no_default : k.on_delete ≡ SetDefault → ⊥
  unfolding bounded_key
  no_default e = true≢false (sym key_bounded ∙ ap (bounded_key s k) e)

  -- a column that SET NULL clears is in no parent key
  module _ (sets : k.on_delete ≡ SetNull) (p : ForeignKey) (listed : Mem p s.keys) (whole : p.broken ≡ false) (own : p.parent ≡ k.child) where
    pub apart : (c : ℕ) → Mem c (child_key k) → Mem c (parent_key p) → ⊥
    unfolding bounded_key in_parent_key
    apart c child parent =
        let none : any (in_parent_key s k.child) (child_key k) ≡ false = fails _ (ap (bounded_key s k) (sym sets) ∙ key_bounded) in
        let column : any (eqb c) (parent_key p) ≡ true = any_mem c (eqb c) (parent_key p) parent (eq-eqb c c refl) in
        let here : not p.broken && (eqb p.parent k.child && any (eqb c) (parent_key p)) ≡ true = and_both (ap not whole) (and_both (eq-eqb p.parent k.child own) column) in
        let found : in_parent_key s k.child c ≡ true = any_mem p (λ p. not p.broken && (eqb p.parent k.child && any (eqb c) (parent_key p))) s.keys listed here in
        true≢false (sym (any_mem c (in_parent_key s k.child) (child_key k) child found) ∙ none)
