-- A call with its answer as words.
-- Assumes nothing.
use Rattle.std.specs.Prelude.{List, ℕ, ℤ}
use Rattle.rules.specs.Engine.{call_on}
use Rattle.answers.specs.AnswerWords.{answer_words}

-- a call: its answer's words, and the area
unfoldable pub call_words : List ℕ → List ℤ → List ℤ → List ℤ × List ℤ
call_words bs c ws = (answer_words (call_on bs c ws).0, (call_on bs c ws).1)
