-- What the functions for C show of an answer.
-- Assumes nothing.
use Rattle.std.specs.Prelude.{List, ℕ, ℤ, pos}
use Rattle.rules.specs.Refusals.{shown}
use Rattle.rules.specs.Engine.{make_fresh}

-- making an area fresh: the code, and the area
unfoldable pub fresh_code : List ℕ → List ℤ → ℤ × List ℤ
fresh_code bs ws = (pos (shown (make_fresh bs ws).0).0, (make_fresh bs ws).1)
