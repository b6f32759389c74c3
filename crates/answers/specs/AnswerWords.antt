-- An answer as words: "code (0 or a refusal), rows changed, and the net change in all kept orphans".
-- Assumes nothing.
use Rattle.std.specs.Prelude.{List, [], ◌∷◌, ℤ, pos}
use Rattle.rules.specs.Refusals.{Answer, shown}

-- an answer's three words: code, rows changed, net
unfoldable pub answer_words : Answer → List ℤ
answer_words a = pos (shown a).0 ∷ pos (shown a).1 ∷ (shown a).2 ∷ []
