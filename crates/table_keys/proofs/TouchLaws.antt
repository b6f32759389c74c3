-- Keys that touch a table.
-- Assumes nothing.
use mathlib.Core.Path.{◌≡◌, refl, sym, ap, ap₂, ◌∙◌}
use mathlib.Core.Bool.{Bool, true, false, not, ◌&&◌, ◌||◌, true≢false, false≢true}
use mathlib.Core.List.{List, [], ◌∷◌}
use Prim.Native.Nat.{ℕ, zero, suc, ◌+◌, ◌≤◌, ◌<◌}
use native.Mathlib.Omega.{arith}
use borrow.Author.Tests.{eq-eqb, ne_eqb, eqb-true, eqb-false, not-true, not-false}
use lib.Dec.{eqb}
use lib.ListN.{length}
use Rattle.schema.specs.Bytes.{bit}
use Rattle.schema.specs.Marks.{marked, Marks}
use Rattle.schema.specs.Records.{Window, ForeignKey, key_of}
use Rattle.schema.specs.Fields.{schema_of}
use Rattle.schema.proofs.RangeLaws.{and_left, and_right}
use Rattle.schema.proofs.MaskLaws.{bit_none, marks_start, marks_more}
use Rattle.rules.specs.Keys.{uses}
use Rattle.bridge.proofs.Tests.{fails}
use Rattle.table_keys.specs.Touched.{touches, whole_at, broken_at, window_at, broken_used, WholeKeys, WindowKeys, KeysOf, with_key}
use Rattle.table_keys.specs.declared.TableKeys.{TableKeys}

abbrev pub keys_with : ℕ → ℕ → ℕ → TableKeys
keys_with l m n = record { whole = l; windowed = m; broken = n }

-- a number below 2 that is not 0 is 1
one_not_none : (n : ℕ) → n ≤ 1 → not (eqb n 0) ≡ eqb n 1
one_not_none zero h = refl
one_not_none (suc zero) h = refl
one_not_none (suc (suc n)) h = absurd (omega arith)

-- ---- one foreign key
module _ (t : ℕ) (k : ForeignKey) where
  pub touches_child : k.child ≡ t → eqb k.child t ≡ touches t k
  unfolding touches
  touches_child h = sym (rw (eq-eqb k.child t h))

  pub touches_parent : (k.child ≡ t → ⊥) → eqb k.parent t ≡ touches t k
  unfolding touches
  touches_parent h = sym (rw (ne_eqb k.child t h))

  -- a key that does not touch the table is in none of the masks
  pub not_touched : touches t k ≡ false → (false ≡ whole_at t k) × ((false ≡ window_at t k) × (false ≡ broken_at t k))
  unfolding whole_at window_at broken_at
  not_touched h = (sym (rw h), (sym (rw h), sym (rw h)))

  -- one that touches it is in those that `with_key` puts it in
  pub touched : touches t k ≡ true → (not k.broken ≡ whole_at t k) × ((not k.broken && eqb (length k.windows) 1 ≡ window_at t k) × (k.broken ≡ broken_at t k))
  unfolding whole_at window_at broken_at
  touched h = (sym (rw h), (sym (rw h), sym (rw h)))

  pub whole_at_lem : whole_at t k ≡ true → k.broken ≡ false
  unfolding whole_at
  whole_at_lem h = fails k.broken (and_right (touches t k) (not k.broken) h)

  -- a key of the windowed ones is not broken and has one window
  pub window_whole : window_at t k ≡ true → whole_at t k ≡ true
  unfolding window_at
  window_whole h = and_left (whole_at t k) (eqb (length k.windows) 1) h

  window_at_lem : window_at t k ≡ true → length k.windows ≡ 1
  unfolding window_at
  window_at_lem h = eqb-true (length k.windows) 1 (and_right (whole_at t k) (eqb (length k.windows) 1) h)

  -- another that is not broken has none
  pub window_none : whole_at t k ≡ true → window_at t k ≡ false → length k.windows ≤ 1 → k.windows ≡ []
  unfolding window_at
  window_none h n f = go k.windows (eqb-false (length k.windows) 1 (sym (rw h refl) ∙ n)) f
    where
      go : (ws : List Window) → (length ws ≡ 1 → ⊥) → length ws ≤ 1 → ws ≡ []
      go [] n f = refl
      go (w ∷ ws) n f = absurd (n (omega (arith, f)))

  module _ (lives lived : Bool) where
    -- a key that is used touches the table
    pub not_used : broken_at t k ≡ false → false ≡ broken_used lives t lived k
    unfolding broken_at touches broken_used uses
    not_used h = go (eqb k.child t) (eqb k.parent t) k.broken h
      where
        go : (c p b : Bool) → (c || p) && b ≡ false → false ≡ b && ((c && lives) || (p && lived))
        go true p true e = absurd (true≢false e)
        go false true true e = absurd (true≢false e)
        go false false true e = refl
        go c p false e = refl

    pub used_by : {c p : ℕ} → c ≡ k.child → p ≡ k.parent → (eqb c t && lives) || (eqb p t && lived) ≡ uses lives t lived k
    unfolding uses
    used_by e f = λ i. (eqb (e i) t && lives) || (eqb (f i) t && lived)

    pub used : broken_at t k ≡ true → uses lives t lived k ≡ broken_used lives t lived k
    unfolding broken_at broken_used
    used h = go (touches t k) k.broken h
      where
        go : (a b : Bool) → a && b ≡ true → uses lives t lived k ≡ b && uses lives t lived k
        go true true e = refl
        go true false e = absurd (false≢true e)
        go false b e = absurd (false≢true e)

-- ---- one key put in
module _ (x : TableKeys) (i : ℕ) (k : ForeignKey) where
  pub with_broken : k.broken ≡ true → {m : ℕ} → m ≡ marked x.broken i true → keys_with x.whole x.windowed m ≡ with_key x i k
  unfolding with_key marked
  with_broken h e = sym (rw h (ap (keys_with x.whole x.windowed) (sym e)))

  pub with_whole : k.broken ≡ false → {n l m : ℕ} → n ≡ length k.windows → n ≤ 1 → l ≡ marked x.whole i true → m ≡ marked x.windowed i (not (eqb n 0)) → keys_with l m x.broken ≡ with_key x i k
  unfolding with_key marked
  with_whole h {n} e f p q =
      sym (rw h (ap₂ (λ (l m : ℕ). keys_with l m x.broken) (sym p) (sym (q ∙ ap (marked x.windowed i) (one_not_none n f ∙ ap (λ (n : ℕ). eqb n 1) e)))))

-- ---- the masks, number by number

-- they have those of the first n foreign keys that they should
pub record KeysBelow (b : List ℕ) (t n : ℕ) (x : TableKeys) : Type 0 where
  pub whole : Marks (λ k. whole_at t (key_of (schema_of b) k)) n x.whole
  pub windowed : Marks (λ k. window_at t (key_of (schema_of b) k)) n x.windowed
  pub broken : Marks (λ k. broken_at t (key_of (schema_of b) k)) n x.broken

module _ (b : List ℕ) (t : ℕ) where
  -- empty masks have those of no foreign key
  pub below_start : KeysBelow b t 0 (keys_with 0 0 0)
  below_start = record { whole = marks_start _; windowed = marks_start _; broken = marks_start _ }

  module _ (n : ℕ) (x : TableKeys) (h : KeysBelow b t n x) where
    pub below_more : touches t (key_of (schema_of b) n) ≡ true → KeysBelow b t (n + 1) (with_key x n (key_of (schema_of b) n))
    unfolding with_key
    below_more e =
        let f = touched t (key_of (schema_of b) n) e in
        record {
          whole = marks_more _ n x.whole h.whole _ f.0;
          windowed = marks_more _ n x.windowed h.windowed _ f.1.0;
          broken = marks_more _ n x.broken h.broken _ f.1.1;
        }

    pub below_same : touches t (key_of (schema_of b) n) ≡ false → KeysBelow b t (n + 1) x
    unfolding marked
    below_same e =
        let f = not_touched t (key_of (schema_of b) n) e in
        record {
          whole = marks_more _ n x.whole h.whole false f.0;
          windowed = marks_more _ n x.windowed h.windowed false f.1.0;
          broken = marks_more _ n x.broken h.broken false f.1.1;
        }

    -- with those of all foreign keys they are the masks of the table
    pub below_all : n ≡ length (schema_of b).keys → KeysOf b t x
    below_all e =
        record {
          whole = record { each = λ k l. h.whole.each k (omega (arith, l, e)) };
          windowed = record { each = λ k l. h.windowed.each k (omega (arith, l, e)) };
          broken = record { each = λ k l. h.broken.each k (omega (arith, l, e)) };
        }

-- ---- in the mask of the keys that touch a table and are not broken
module _ {b : List ℕ} {t m : ℕ} (h : WholeKeys b t m) (k : ℕ) (l : k < length (schema_of b).keys) {x : Bool} (e : x ≡ bit k m) where
  pub is_whole : not x ≡ false → whole_at t (key_of (schema_of b) k) ≡ true
  is_whole f = sym (h.each k l) ∙ sym e ∙ not-false _ f

  pub in_whole : not x ≡ false → (key_of (schema_of b) k).broken ≡ false
  in_whole f = whole_at_lem t (key_of (schema_of b) k) (is_whole f)

  pub not_whole : not x ≡ true → whole_at t (key_of (schema_of b) k) ≡ false
  not_whole f = sym (h.each k l) ∙ sym e ∙ not-true _ f

-- ---- in the mask of windowed keys

-- an empty one tells that no key that touches the table has a window
pub no_windows : {b : List ℕ} {t : ℕ} → WindowKeys b t 0 → (k : ℕ) → k < length (schema_of b).keys → window_at t (key_of (schema_of b) k) ≡ false
no_windows h k l = sym (h.each k l) ∙ bit_none k

module _ {b : List ℕ} {t m : ℕ} (h : WindowKeys b t m) (k : ℕ) (l : k < length (schema_of b).keys) {x : Bool} (e : x ≡ bit k m) where
  pub in_windowed : x ≡ true → length (key_of (schema_of b) k).windows ≡ 1
  in_windowed f = window_at_lem t (key_of (schema_of b) k) (sym (h.each k l) ∙ sym e ∙ f)

  pub not_windowed : x ≡ false → whole_at t (key_of (schema_of b) k) ≡ true → length (key_of (schema_of b) k).windows ≤ 1 → (key_of (schema_of b) k).windows ≡ []
  not_windowed f w one = window_none t (key_of (schema_of b) k) w (sym (h.each k l) ∙ sym e ∙ f) one
