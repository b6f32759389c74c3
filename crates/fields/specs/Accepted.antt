-- Schema bytes that break no rule of refusal 1, as contracts see a `Schema`.
-- Assumes nothing.
use Rattle.std.specs.Prelude.{◌≡◌, List, ℕ}
use Rattle.schema.specs.Check.{Accepted, check_schema}

abbrev pub IsAccepted : List ℕ → Type 0
IsAccepted bs = check_schema bs ≡ Accepted

pub record AcceptedBytes : Type 0 where
  pub bytes : List ℕ
  pub accepted : IsAccepted bytes
