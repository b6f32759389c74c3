-- When tables are of different families: their families can be numbered so that each foreign key stays within one number.
-- Assumes nothing.
use mathlib.Core.Path.{◌≡◌, refl, sym, ◌∙◌}
use mathlib.Core.Bool.{false}
use mathlib.Core.Logic.{◌≢◌}
use Prim.Native.Nat.{ℕ}
use Rattle.schema.specs.ParentKey.{Mem}
use Rattle.schema.specs.Records.{ForeignKey, Schema}
use Rattle.families.specs.Families.{Joined, Apart}
use Rattle.families.specs.Families.Joined.{itself, directly, turned, through}

module _ (s : Schema) (number : ℕ → ℕ) (stays : (k : ForeignKey) → Mem k s.keys → k.broken ≡ false → number k.child ≡ number k.parent) where
  pub joined_number : {t u : ℕ} → Joined s t u → number t ≡ number u
  joined_number itself = refl
  joined_number (directly k m b) = stays k m b
  joined_number (turned p) = sym (joined_number p)
  joined_number (through p q) = joined_number p ∙ joined_number q

  pub apart_by : {t u : ℕ} → number t ≢ number u → Apart s t u
  apart_by h p = h (joined_number p)
