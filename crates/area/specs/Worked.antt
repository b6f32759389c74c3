-- What a step on the work leaves.
-- Assumes nothing.
use Rattle.std.specs.Prelude.{◌≡◌, List, ℤ}
use Rattle.schema.specs.Records.{Schema}
use Rattle.rules.specs.Book.{Work}
use Rattle.bridge.specs.Fit.{work_of, Keeps}

-- the work is what f makes of it, and the rest of the book is as it was
abbrev pub Worked : Schema → (Work → Work) → List ℤ → List ℤ → Type 0
Worked s f a a' = (work_of s a' ≡ f (work_of s a)) × Keeps s a a'
