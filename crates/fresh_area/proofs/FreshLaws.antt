-- Making an area fresh, and the length of an area.
-- Assumes nothing.
use mathlib.Core.Path.{◌≡◌, refl, sym, ap, subst, ◌∙◌}
use mathlib.Core.Bool.{Bool, true, false, false≢true}
use mathlib.Core.List.{List, ◌++◌}
use Prim.Native.Nat.{ℕ, ◌-◌}
use native.Mathlib.Omega.{arith}
use borrow.Author.Tests.{eq-eqb, ne_eqb}
use lib.Dec.{eqb}
use lib.IntN.{ℤ, pos}
use lib.ListN.{length, take, replicate}
use Rattle.schema.specs.Check.{SchemaAnswer, Accepted, check_schema}
use Rattle.schema.specs.declared.SchemaError.{SchemaError}
use Rattle.schema.specs.declared.SchemaError.TheVariants.{Malformed}
use Rattle.schema.specs.Records.{Schema}
use Rattle.schema.specs.Sizes.{area_size}
use Rattle.schema.specs.Fields.{schema_of}
use Rattle.std.specs.Prelude.{Err, Ok}
use Rattle.rules.specs.declared.Refusal.{Refusal}
use Rattle.rules.specs.declared.Refusal.TheVariants.{SchemaMalformed, WrongLength}
use Rattle.rules.specs.Lists.{𝟘}
use Rattle.rules.specs.Area.{AreaTurn, ensure, fresh_words}
use Rattle.rules.specs.Engine.{under_schema, make_fresh}
use Rattle.laws.specs.Reached.{Reached}
use Rattle.laws.proofs.Reached.{reached_fresh}
use Rattle.rules.specs.Refusals.{Answer, accepted, did}
use Rattle.fresh_area.specs.Fresh.{fresh_area, words_under, area_words}

-- ---- refusal 1
module _ (b : List ℕ) (a : List ℤ) where
  pub fresh_malformed : {e : SchemaError} → check_schema b ≡ Err e → (Err SchemaMalformed, a) ≡ make_fresh b a
  unfolding make_fresh under_schema
  fresh_malformed {e = Malformed} m = rw m refl

  pub fresh_under : check_schema b ≡ Accepted → fresh_area (schema_of b) a ≡ make_fresh b a
  unfolding make_fresh under_schema fresh_area
  fresh_under m = rw m refl

-- ---- a fresh area
module _ (s : Schema) (a : List ℤ) where
  pub fresh_refused : (length a ≡ area_size s → ⊥) → (Err WrongLength, a) ≡ fresh_area s a
  unfolding fresh_area ensure
  fresh_refused h = rw (ne_eqb (length a) (area_size s) h) refl

  pub fresh_cleared : (a' : List ℤ) → length a ≡ area_size s → a' ≡ take 0 a ++ replicate (length a - 0) (pos 0) → (did 0 𝟘, a') ≡ fresh_area s a
  unfolding fresh_area ensure fresh_words
  fresh_cleared a' h e =
      let n : length a - 0 ≡ area_size s = omega (arith, h) in
      rw (eq-eqb (length a) (area_size s) h, e, n) refl

-- make fresh, not refused: the schema is accepted, and the area is fresh
module _ (b : List ℕ) (a : List ℤ) {x : Answer} {a' : List ℤ} (e : (x, a') ≡ make_fresh b a) (done : accepted x ≡ true) where
  not_refused : {r : Refusal} → make_fresh b a ≡ (Err r, a) → ⊥
  unfolding accepted
  not_refused q = false≢true (sym (ap (λ (t : AreaTurn). accepted t.0) (e ∙ q)) ∙ done)

  pub fresh_reached : Reached b a'
  unfolding make_fresh under_schema ensure
  fresh_reached = by (check_schema b) refl
    where
      sized : check_schema b ≡ Accepted → (t : Bool) → eqb (length a) (area_size (schema_of b)) ≡ t → Reached b a'
      sized m false n = absurd (not_refused {r = WrongLength} (rw (m, n) refl))
      sized m true n =
          let made : make_fresh b a ≡ (did 0 𝟘, fresh_words (schema_of b)) = rw (m, n) refl in
          subst (Reached b) (sym (ap {B = List ℤ} (λ (t : AreaTurn). t.1) (e ∙ made))) (reached_fresh b m)

      by : (k : SchemaAnswer) → check_schema b ≡ k → Reached b a'
      by (Err Malformed) m = absurd (not_refused (sym (fresh_malformed b a m)))
      by (Ok tt) m = sized m (eqb (length a) (area_size (schema_of b))) refl

-- ---- the length of an area

pub words_accepted : (bs : List ℕ) → check_schema bs ≡ Accepted → {n : ℕ} → n ≡ area_size (schema_of bs) → n ≡ area_words bs
unfolding area_words words_under
words_accepted bs e h = rw e h

pub words_malformed : (bs : List ℕ) → {e : SchemaError} → check_schema bs ≡ Err e → 0 ≡ area_words bs
unfolding area_words words_under
words_malformed bs {e = Malformed} h = rw h refl
