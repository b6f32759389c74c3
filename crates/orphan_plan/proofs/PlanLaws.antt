-- The checks of the orphan list in their order: what each finds is the verdict.
-- Assumes nothing.
use mathlib.Core.Path.{◌≡◌, refl, sym, ap, ◌∙◌}
use mathlib.Core.List.{List, [], ◌∷◌}
use Prim.Native.Nat.{ℕ, ◌+◌, ◌≤◌, ◌<◌}
use native.Mathlib.Numerals.{add-one}
use native.Mathlib.Omega.{arith}
use borrow.Author.Tests.{lt-ltb, le-ltb}
use lib.IntN.{ℤ}
use lib.ListN.{length, get_or, drop, drop_of_length-le}
use lib.Seq.{drop-cons}
use Rattle.schema.specs.Records.{ForeignKey, no_key}
use Rattle.schema.specs.Fields.{schema_of}
use Rattle.rules.specs.declared.Refusal.{Refusal}
use Rattle.rules.specs.declared.Refusal.TheVariants.{ListTooShort}
use Rattle.std.specs.Prelude.{Ok, Err}
use Rattle.rules.specs.Refusals.{failing}
use Rattle.rules.specs.Rows.{Tables}
use Rattle.rules.specs.Keys.{orphans}
use Rattle.rules.specs.Questions.{area_verdict}
use Rattle.rules.specs.OrphanList.{orphan_total, list_verdict, listed, list_answer}
use Rattle.bridge.specs.Fit.{work_of}
use Rattle.bridge.specs.Ready.{Sound}
use Rattle.bridge.proofs.QuestionLaws.{sound_passes, refused_first}
use Rattle.orphan_scan.specs.declared.Cursor.{Cursor}
use Rattle.orphan_scan.specs.Scan.{Starts}
use Rattle.orphan_scan.proofs.ScanLaws.{all_left}
use Rattle.orphan_plan.specs.Planned.{Planned}

-- ---- how many orphans are left from foreign key k on
module _ (tabs : Tables) (fs : List ForeignKey) (k : ℕ) where
  pub total_none : length fs ≤ k → orphan_total (drop k fs) tabs ≡ 0
  unfolding orphan_total
  total_none h = ap (λ (l : List ForeignKey). orphan_total l tabs) (drop_of_length-le fs h)

  pub total_more : k < length fs → orphan_total (drop k fs) tabs ≡ orphans tabs (get_or fs k no_key) + orphan_total (drop (k + 1) fs) tabs
  unfolding orphan_total
  total_more l = ap (λ (l : List ForeignKey). orphan_total l tabs) (drop-cons fs k no_key l) ∙ ap (λ (i : ℕ). orphans tabs (get_or fs k no_key) + orphan_total (drop i fs) tabs) (sym (add-one k))

-- without a foreign key there is no orphan
key_some : (tabs : Tables) (fs : List ForeignKey) → 0 < orphan_total fs tabs → 0 < length fs
unfolding orphan_total
key_some tabs [] h = absurd (omega (arith, h))
key_some tabs (f ∷ fs) h = omega arith

abbrev pub tables_in : List ℕ → List ℤ → Tables
tables_in bs ws = (work_of (schema_of bs) ws).tabs

module _ (bs : List ℕ) (ws : List ℤ) (room : ℕ) where
  -- ---- the plan of a list that is refused
  refused : (c : Refusal) → list_verdict bs ws room ≡ Err c → Planned bs ws room (Err c)
  unfolding list_answer listed
  refused c v =
      record { answer_is = sym (rw v refl); fits = tt; begun = tt }

  -- by 1, 3 or 10
  pub refused_area : (c : Refusal) → area_verdict bs ws (Ok tt) ≡ Err c → Planned bs ws room (Err c)
  unfolding list_verdict
  refused_area c v = refused c (refused_first bs ws c v _)

  -- ---- the plan of a sound area
  module _ (h : Sound bs ws) (total : ℕ) (e : total ≡ orphan_total (schema_of bs).keys (tables_in bs ws)) where
    pub too_short : room < total → Planned bs ws room (Err ListTooShort)
    unfolding list_verdict failing work_of
    too_short l = refused ListTooShort (sound_passes bs ws h _ ∙ rw (lt-ltb room _ (rw e at l)) refl)

    passes : total ≤ room → list_verdict bs ws room ≡ Ok tt
    unfolding list_verdict failing work_of
    passes l = sound_passes bs ws h _ ∙ rw (le-ltb room _ (rw e at l)) refl

    pub planned : {x : Cursor} → total ≤ room → (0 < length (schema_of bs).keys → Starts bs x) → Planned bs ws room (Ok (record { total = total; at = x }))
    unfolding list_answer listed work_of
    planned l st =
        record {
          answer_is = sym (rw (passes l, e) refl);
          fits = l;
          begun = λ z.
              let some = key_some (tables_in bs ws) (schema_of bs).keys (omega (arith, z, e)) in
              record { ready = h.ready; key_is = (st some).key_is; left = all_left bs ws (st some) some };
        }
