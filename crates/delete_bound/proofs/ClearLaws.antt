-- The columns that SET NULL on delete can clear, looked for one by one.
-- Assumes nothing.
use mathlib.Core.Path.{◌≡◌, refl, sym, ap, ap₂, ◌∙◌}
use mathlib.Core.Bool.{Bool, true, false, ◌||◌}
use mathlib.Core.List.{List, [], ◌∷◌}
use Prim.Native.Nat.{ℕ}
use borrow.Author.Tests.{eq-eqb, ne_eqb, eqb-true, eqb-false}
use lib.Dec.{eqb}
use lib.ListN.{length, take}
use Rattle.std.specs.List.{list_any}
use Rattle.schema.specs.Records.{ForeignKey, child_key}
use Rattle.rules.specs.Lists.{any}
use Rattle.rules.specs.DeleteBound.{is_set_null, clears}

-- ---- a column among others

eqb_swap : (a b : ℕ) → eqb a b ≡ eqb b a
eqb_swap a b = go (eqb b a) refl
  where
    go : (t : Bool) → eqb b a ≡ t → eqb a b ≡ t
    go true e = eq-eqb a b (sym (eqb-true b a e))
    go false e = ne_eqb a b (λ q. eqb-false b a e (sym q))

pub column_among : (c : ℕ) (cs : List ℕ) → list_any (λ d. eqb d c) cs ≡ any (eqb c) cs
unfolding any
column_among c [] = refl
column_among c (d ∷ cs) = ap₂ (λ (s t : Bool). s || t) (eqb_swap d c) (column_among c cs) ∙ go (eqb c d)
  where
    go : (b : Bool) → b || any (eqb c) cs ≡ elim b [ true ↦ true | false ↦ any (eqb c) cs ]
    go true = refl
    go false = refl

-- ---- one foreign key
module _ (t c : ℕ) (k : ForeignKey) where
  pub other_action : is_set_null k.on_delete ≡ false → false ≡ clears t c k
  unfolding clears
  other_action e = rw e

  module _ (e : is_set_null k.on_delete ≡ true) where
    pub other_table : (k.child ≡ t → ⊥) → false ≡ clears t c k
    unfolding clears
    other_table n = rw (e, ne_eqb k.child t n)

    pub own_column : k.child ≡ t → {n : ℕ} (cs : List ℕ) → n ≡ length (child_key k) → take (length (child_key k)) cs ≡ child_key k → any (eqb c) (take n cs) ≡ clears t c k
    unfolding clears
    own_column q {n} cs f g =
        let columns : take n cs ≡ child_key k = ap (λ (m : ℕ). take m cs) f ∙ g in
        rw (columns, e, eq-eqb k.child t q)
