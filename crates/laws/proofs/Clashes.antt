-- Windowed keys: their columns are in the parent table, and rows clash either way round.
-- Assumes nothing.
use mathlib.Core.Path.{◌≡◌, refl, sym, ◌∙◌, ap, ap₂, subst}
use mathlib.Core.Bool.{Bool, true, false, not, ◌&&◌, and_comm}
use mathlib.Core.List.{List, [], ◌∷◌, ◌++◌, map, append_assoc}
use mathlib.Core.Logic.{◌≢◌}
use Prim.Native.Nat.{ℕ, zero, suc}
use lib.Dec.{ltb}
use lib.IntN.{ℤ}
use lib.ListN.{get_or}
use lib.Signed.{lt_z}
use Rattle.schema.specs.Ranges.{all}
use Rattle.schema.specs.Records.{Window, ForeignKey, key_of, table_of, unique_columns, parent_key}
use Rattle.schema.specs.Check.{Accepted, check_schema}
use Rattle.schema.specs.Fields.{schema_of}
use Rattle.schema.proofs.RangeLaws.{and_left}
use Rattle.rules.specs.Lists.{any, except}
use Rattle.rules.specs.Rows.{Row, live, null_at}
use Rattle.rules.specs.Keys.{full_key, first_day, end_day, shares_day, same_parent}
use Rattle.rules.specs.Change.{clashes}
use Rattle.bridge.proofs.Tests.{all_head, all_tail, all_split}
use Rattle.bridge.proofs.CountLaws.{any_neither}
use Rattle.bridge.proofs.KeyLaws.{key_sym}
use Rattle.bridge.proofs.KeyColumns.{parent_key_in}
use Rattle.laws.specs.Windows.{Windowed}

-- ---- lists

module _ {A : Type 0} (p : A → Bool) where
  -- where none passes, the one at place i does not
  pub none_at : (d : A) → p d ≡ false → (xs : List A) → any p xs ≡ false → (i : ℕ) → p (get_or xs i d) ≡ false
  none_at d e [] h i = e
  none_at d e (x ∷ xs) h zero = (any_neither p x xs h).0
  none_at d e (x ∷ xs) h (suc i) = none_at d e xs (any_neither p x xs h).1 i

  -- leaving out number r
  pub none_but : (d : A) → p d ≡ false → (xs : List A) (r : ℕ) → any p (except r xs) ≡ false → (i : ℕ) → i ≢ r → p (get_or xs i d) ≡ false
  unfolding except
  none_but d e [] r h i n = e
  none_but d e (x ∷ xs) zero h zero n = absurd (n refl)
  none_but d e (x ∷ xs) zero h (suc i) n = none_at d e xs h i
  none_but d e (x ∷ xs) (suc r) h zero n = (any_neither p x (except r xs) h).0
  none_but d e (x ∷ xs) (suc r) h (suc i) n = none_but d e xs r (any_neither p x (except r xs) h).1 i (λ q. n (ap suc q))

-- ---- the columns of an unbroken windowed key are in its parent table
module _ (bs : List ℕ) (acc : check_schema bs ≡ Accepted) {k : ℕ} {w : Window} (q : Windowed (schema_of bs) k w) where
  abbrev key : ForeignKey
  key = key_of (schema_of bs) k

  abbrev in_parent : ℕ → Bool
  in_parent c = ltb c (table_of (schema_of bs) key.parent).columns

  -- those of the pairs, then the first day's and the end's
  parts : (all in_parent key.parent_columns ≡ true) × (all in_parent (w.first ∷ suc w.first ∷ []) ≡ true)
  unfolding parent_key unique_columns
  parts =
      all_split in_parent key.parent_columns (w.first ∷ suc w.first ∷ [])
      (ap (all in_parent) (sym (append_assoc key.parent_columns (w.first ∷ []) (suc w.first ∷ [])))
      ∙ subst (λ (ws : List Window). all in_parent ((key.parent_columns ++ map (λ v. v.first) ws) ++ map (λ v. suc v.first) ws) ≡ true) q.window (parent_key_in bs acc k q.there q.unbroken))

  pub pairs_in : all in_parent (key_of (schema_of bs) k).parent_columns ≡ true
  pairs_in = parts.0

  pub first_in : in_parent w.first ≡ true
  first_in = all_head in_parent w.first (suc w.first ∷ []) parts.1

  pub end_in : in_parent (suc w.first) ≡ true
  end_in = all_head in_parent (suc w.first) [] (all_tail in_parent w.first (suc w.first ∷ []) parts.1)

-- ---- either way round

shares_sym : (first end first' end' : ℤ) → shares_day first end first' end' ≡ shares_day first' end' first end
unfolding shares_day
shares_sym first end first' end' =
    and_comm (lt_z first end && lt_z first end') (lt_z first' end && lt_z first' end')
    ∙ ap₂ (λ (a b : Bool). a && b) (and_comm (lt_z first' end) (lt_z first' end')) (and_comm (lt_z first end) (lt_z first end'))

-- a row with a full key is live
pub full_live : (cs : List ℕ) (x : Row) → full_key cs x ≡ true → live x ≡ true
unfolding full_key
full_live cs x h = and_left (live x) (not (any (null_at x) cs)) h

pub clash_sym : (k : ForeignKey) (w : Window) (x y : Row) → full_key (parent_key k) x ≡ true → full_key (parent_key k) y ≡ true → clashes k x w y ≡ clashes k y w x
unfolding clashes same_parent
clash_sym k w x y full full' =
    rw (full, full', full_live (parent_key k) x full, full_live (parent_key k) y full')
    (ap₂ (λ (a b : Bool). a && b) (key_sym y x k.folds k.parent_columns k.parent_columns) (shares_sym (first_day w y) (end_day w y) (first_day w x) (end_day w x)))
