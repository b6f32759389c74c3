-- What an area that refusal 10 lets pass is.
-- Assumes nothing.
use mathlib.Core.Path.{◌≡◌, sym, ◌∙◌, ap}
use mathlib.Core.Bool.{Bool, true, ◌&&◌}
use mathlib.Core.List.{List, [], ◌∷◌}
use Prim.Native.Nat.{ℕ, zero, suc, ◌≤◌}
use native.Mathlib.Omega.{arith}
use lib.Dec.{leb, leb→le}
use lib.IntN.{ℤ}
use lib.ListN.{length, drop}
use Rattle.schema.specs.Ranges.{all}
use Rattle.schema.specs.Records.{Schema}
use Rattle.schema.specs.Fields.{schema_of}
use Rattle.schema.specs.Sizes.{area_size}
use Rattle.schema.specs.Check.{check_schema, Accepted}
use Rattle.schema.proofs.RangeLaws.{and_left, and_right}
use Rattle.rules.specs.Book.{Level, Book}
use Rattle.rules.specs.State.{in_transaction, opener_fits, kept_in_range, saved_in_range, uses_rise, placed, undamaged}
use Rattle.rules.specs.Area.{view, legible}
use Rattle.bridge.specs.Fit.{work_of}
use Rattle.bridge.specs.Ready.{Undoable, Sound}
use Rattle.bridge.proofs.Tests.{all_head, all_drop, holds}

pub record Parts (s : Schema) (b : Book) : Type 0 where
  pub opener : opener_fits (in_transaction b.levels) b.opener ≡ true
  pub kept : kept_in_range s s.keys b.kept ≡ true
  pub saved : all (saved_in_range s) b.levels ≡ true
  pub uses : uses_rise (length b.work.used) b.levels ≡ true
  pub places : all (placed s) b.work.used ≡ true

pub parts : {s : Schema} {b : Book} → undamaged s b ≡ true → Parts s b
unfolding undamaged
parts {s} {b} h =
    let t₁ : Bool = opener_fits (in_transaction b.levels) b.opener in
    let t₂ : Bool = kept_in_range s s.keys b.kept in
    let t₃ : Bool = all (saved_in_range s) b.levels in
    let t₄ : Bool = uses_rise (length b.work.used) b.levels in
    let h₄ = and_left (t₁ && t₂ && t₃ && t₄) (all (placed s) b.work.used) h in
    let h₃ = and_left (t₁ && t₂ && t₃) t₄ h₄ in
    let h₂ = and_left (t₁ && t₂) t₃ h₃ in
    record {
      opener = and_left t₁ t₂ h₂;
      kept = and_right t₁ t₂ h₂;
      saved = and_right (t₁ && t₂) t₃ h₃;
      uses = and_right (t₁ && t₂ && t₃) t₄ h₄;
      places = and_right (t₁ && t₂ && t₃ && t₄) (all (placed s) b.work.used) h;
    }

-- an area that refusal 10 lets pass
pub sound_area : (b : List ℕ) (a : List ℤ) → check_schema b ≡ Accepted → length a ≡ area_size (schema_of b) → legible (schema_of b) a && undamaged (schema_of b) (view (schema_of b) a) ≡ true → Sound b a
sound_area b a accepted size e =
    record {
      ready = record { accepted = accepted; fit = record { size = size; legible_is = and_left (legible (schema_of b) a) _ e } };
      undamaged_is = and_right (legible (schema_of b) a) _ e;
    }

pub undoable : {b : List ℕ} {a : List ℤ} → Sound b a → Undoable b a
unfolding work_of
undoable h = record { ready = h.ready; places = (parts h.undamaged_is).places }

-- an open level's kept numbers are in range, and its use is at most the use now
module _ (s : Schema) (k : ℕ) (l : Level) (rest : List Level) where
  pub level_saved : (ls : List Level) → all (saved_in_range s) ls ≡ true → drop k ls ≡ l ∷ rest → kept_in_range s s.keys l.kept ≡ true
  unfolding saved_in_range
  level_saved ls h e = all_head (saved_in_range s) l rest (ap (all (saved_in_range s)) (sym e) ∙ all_drop (saved_in_range s) k ls h)

abbrev first_base : List Level → ℕ
first_base [] = 0
first_base (l ∷ ls) = l.base

pub level_base : (k n : ℕ) (ls : List Level) (l : Level) (rest : List Level) → uses_rise n ls ≡ true → drop k ls ≡ l ∷ rest → l.base ≤ n
unfolding uses_rise
level_base zero n [] l rest h e = let q : 0 ≡ suc (length rest) = ap length e in absurd (omega arith)
level_base (suc k) n [] l rest h e = let q : 0 ≡ suc (length rest) = ap length e in absurd (omega arith)
level_base zero n (m ∷ ls) l rest h e =
    let q : m.base ≡ l.base = ap first_base e in
    let le : m.base ≤ n = leb→le m.base n (holds (and_left (leb m.base n) (uses_rise m.base ls) h)) in
    omega arith
level_base (suc k) n (m ∷ ls) l rest h e =
    let le : m.base ≤ n = leb→le m.base n (holds (and_left (leb m.base n) (uses_rise m.base ls) h)) in
    let ih : l.base ≤ m.base = level_base k m.base ls l rest (and_right (leb m.base n) (uses_rise m.base ls) h) e in
    omega arith
