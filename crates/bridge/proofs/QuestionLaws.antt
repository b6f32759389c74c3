-- What questions about an area are refused by: 1, 3 and 10 come first, and an area that they let pass is sound.
-- Assumes nothing.
use mathlib.Core.Path.{◌≡◌, refl, sym, ◌∙◌}
use mathlib.Core.Bool.{Bool, true, false, ◌&&◌}
use mathlib.Core.List.{List}
use Prim.Native.Nat.{ℕ}
use native.Mathlib.Omega.{arith}
use borrow.Author.Tests.{eq-eqb, ne_eqb, eqb-true, eqb-false}
use lib.Dec.{eqb}
use lib.IntN.{ℤ}
use lib.ListN.{length}
use Rattle.schema.specs.Check.{SchemaAnswer, Accepted, check_schema}
use Rattle.schema.specs.declared.SchemaError.{SchemaError}
use Rattle.schema.specs.declared.SchemaError.TheVariants.{Malformed}
use Rattle.schema.specs.Fields.{schema_of}
use Rattle.schema.specs.Sizes.{area_size}
use Rattle.rules.specs.declared.Refusal.{Refusal}
use Rattle.rules.specs.declared.Refusal.TheVariants.{SchemaMalformed, WrongLength, Damaged}
use Rattle.std.specs.Prelude.{Ok, Err}
use Rattle.rules.specs.Refusals.{Verdict, failing}
use Rattle.rules.specs.State.{undamaged}
use Rattle.rules.specs.Area.{view, legible}
use Rattle.rules.specs.Questions.{schema_verdict, area_verdict}
use Rattle.bridge.specs.Ready.{Sound}
use Rattle.bridge.proofs.SoundLaws.{sound_area}

module _ (bs : List ℕ) (ws : List ℤ) where
  -- ---- the checks in their order, whatever is asked besides
  pub malformed_first : {e : SchemaError} → check_schema bs ≡ Err e → (v : Verdict) → area_verdict bs ws v ≡ Err SchemaMalformed
  unfolding area_verdict schema_verdict
  malformed_first {e = Malformed} h v = rw h refl

  module _ (accepted : check_schema bs ≡ Accepted) where
    pub length_second : (length ws ≡ area_size (schema_of bs) → ⊥) → (v : Verdict) → area_verdict bs ws v ≡ Err WrongLength
    unfolding area_verdict schema_verdict failing
    length_second n v = rw (accepted, ne_eqb (length ws) (area_size (schema_of bs)) n) refl

    pub damage_third : length ws ≡ area_size (schema_of bs) → legible (schema_of bs) ws && undamaged (schema_of bs) (view (schema_of bs) ws) ≡ false → (v : Verdict) → area_verdict bs ws v ≡ Err Damaged
    unfolding area_verdict schema_verdict failing
    damage_third size d v = rw (accepted, eq-eqb (length ws) (area_size (schema_of bs)) size, d) refl

  -- of a sound area only the other checks count
  pub sound_passes : Sound bs ws → (v : Verdict) → area_verdict bs ws v ≡ v
  unfolding area_verdict schema_verdict failing
  sound_passes h v =
      rw (h.ready.accepted, eq-eqb (length ws) (area_size (schema_of bs)) h.ready.fit.size, h.ready.fit.legible_is, h.undamaged_is) refl

  -- ---- one of them refuses, or the area is sound
  data Judged : Type 0 where
    refused : (r : Refusal) → ((v : Verdict) → area_verdict bs ws v ≡ Err r) → Judged
    sound : Sound bs ws → Judged

  judged : Judged
  judged = by_schema (check_schema bs) refl
    where
      by_damage : check_schema bs ≡ Accepted → length ws ≡ area_size (schema_of bs) → (t : Bool) → legible (schema_of bs) ws && undamaged (schema_of bs) (view (schema_of bs) ws) ≡ t → Judged
      by_damage a n true e = sound (sound_area bs ws a n e)
      by_damage a n false e = refused Damaged (damage_third a n e)

      by_length : check_schema bs ≡ Accepted → (t : Bool) → eqb (length ws) (area_size (schema_of bs)) ≡ t → Judged
      by_length a true e = by_damage a (eqb-true (length ws) (area_size (schema_of bs)) e) _ refl
      by_length a false e = refused WrongLength (length_second a (eqb-false (length ws) (area_size (schema_of bs)) e))

      by_schema : (x : SchemaAnswer) → check_schema bs ≡ x → Judged
      by_schema (Ok tt) e = by_length e _ refl
      by_schema (Err Malformed) e = refused SchemaMalformed (malformed_first e)

  pub passes_sound : area_verdict bs ws (Ok tt) ≡ Ok tt → Sound bs ws
  passes_sound e = go judged
    where
      go : Judged → Sound bs ws
      go (refused r f) = absurd (let never : Err r ≡ Ok tt = sym (f (Ok tt)) ∙ e in let z : ◌≡◌ {A = ℕ} 0 1 = cc in omega arith)
      go (sound h) = h

  -- what 1, 3 or 10 refuses is refused so whatever is asked besides
  pub refused_first : (r : Refusal) → area_verdict bs ws (Ok tt) ≡ Err r → (v : Verdict) → area_verdict bs ws v ≡ Err r
  refused_first r e v = go judged
    where
      go : Judged → area_verdict bs ws v ≡ Err r
      go (refused q f) = f v ∙ sym (f (Ok tt)) ∙ e
      go (sound h) = absurd (let never : Ok tt ≡ Err r = sym (sound_passes h (Ok tt)) ∙ e in let z : ◌≡◌ {A = ℕ} 0 1 = cc in omega arith)
