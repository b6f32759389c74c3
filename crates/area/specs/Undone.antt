-- What a refused statement leaves.
-- Assumes nothing.
use Rattle.std.specs.Prelude.{◌≡◌, List, ℕ, ℤ}
use Rattle.schema.specs.Records.{Schema}
use Rattle.rules.specs.Book.{undo_to, cleared}
use Rattle.rules.specs.Area.{words, view}
use Rattle.bridge.specs.Fit.{work_of, Keeps}

-- undone to the use n, and every journal word past the records in use zeroed: a third area, undone and not yet cleared, stands between
pub record Undone (s : Schema) (n : ℕ) (a a' : List ℤ) : Type 0 where
  pub mid : List ℤ
  pub keeps : Keeps s a mid
  pub work : work_of s mid ≡ undo_to n (work_of s a)
  pub cleared_is : a' ≡ words (cleared (view s mid))
