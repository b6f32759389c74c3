-- Calls laid end to end.
-- Assumes nothing.
use Rattle.std.specs.Prelude.{◌≡◌, Bool, true, false, List, ◌++◌, map, ℕ, ◌+◌, ◌*◌, ◌/◌, leb, ℤ, length, take, drop}
use Rattle.std.proofs.lemmas.List.Edits.{sets}
use Rattle.rules.specs.Lists.{flat, chunks}
use Rattle.rules.specs.Step.{Logged}
use Rattle.rules.specs.Engine.{run_on}
use Rattle.laws.specs.Reached.{Reached}
use Rattle.answers.specs.AnswerWords.{answer_words}
use Rattle.engine.specs.Calls.{call_words}

-- where `reached` says so, calls led to the area from a fresh one
abbrev pub ReachedIf : Bool → List ℕ → List ℤ → Type 0
ReachedIf reached bs ws = reached ≡ true → Reached bs ws

-- the answers' words, one answer after the other
unfoldable pub answers_words : List Logged → List ℤ
answers_words log = flat (map (λ x. answer_words x.1) log)

unfoldable pub least : ℕ → ℕ → ℕ
least a b = elim (leb a b) [ true ↦ a | false ↦ b ]

-- calls of twelve words laid end to end, the last may be short: how many are run where there is room for so many words of answers
unfoldable pub calls_run : ℕ → ℕ → ℕ
calls_run words room = least ((words + 11) / 12) (room / 3)

-- call i of those laid end to end: the area, and the words of `answers`
unfoldable pub one_run : List ℕ → List ℤ → ℕ → List ℤ × List ℤ → List ℤ × List ℤ
one_run bs calls i p =
    let t : List ℤ × List ℤ = call_words bs (take 12 (drop (i * 12) calls)) p.0 in
    (t.1, sets p.1 (i * 3) t.0)

-- how many calls were run, the last area, and the words of `answers`: past the answers they stay as they were
unfoldable pub run_calls : List ℕ → List ℤ → List ℤ → List ℤ → ℕ × List ℤ × List ℤ
run_calls bs calls area answers =
    let n : ℕ = calls_run (length calls) (length answers) in
    let r : List Logged × List ℤ = run_on bs (chunks 12 n calls) area in
    (n, r.1, answers_words r.0 ++ drop (n * 3) answers)
