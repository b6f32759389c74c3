-- Calls in bytes, run one after the other: what a run prints and counts.
-- Assumes nothing.
use Rattle.std.specs.Prelude.{cond, List, [], ◌∷◌, map, ℕ, ◌+◌, ◌*◌, ◌/◌, leb, ℤ, length}
use Rattle.schema.specs.Ranges.{list_from}
use Rattle.rules.specs.Lists.{flat}
use Rattle.rules.specs.Step.{Logged}
use Rattle.rules.specs.Area.{AreaTurn}
use Rattle.rules.specs.Engine.{call_on, run_on}
use Rattle.decoding.specs.CallBytes.{words_at}
use Rattle.run_tally.specs.declared.Tally.{Tally}
use Rattle.lines.specs.Text.{put, held}
use Rattle.reports.specs.declared.Reporter.{Reporter}
use Rattle.reports.specs.Reports.{line_of, counted_in}

-- ---- the calls

-- call i: its twelve words; none where its bytes are cut short: "a short last call is 4"
unfoldable pub call_at : List ℕ → ℕ → List ℤ
call_at bs i = cond (leb (i * 96 + 96) (length bs)) (words_at bs (i * 96)) []

-- how many calls so many bytes are: 96 bytes each, the last may be cut short
unfoldable pub call_count : ℕ → ℕ
call_count n = (n + 95) / 96

-- the calls that the bytes are
unfoldable pub calls_of : List ℕ → List (List ℤ)
calls_of bs = list_from (call_at bs) (call_count (length bs)) 0

-- ---- a run

-- the lines of the answers
unfoldable pub lines_of : List Logged → List ℕ
lines_of log = flat (map (λ x. line_of x.1) log)

-- "A run's tally .. is carried from call to call"
unfoldable pub counted_all : Tally → List Logged → Tally
counted_all t [] = t
counted_all t (x ∷ log) = counted_all (counted_in t x.1) log

-- where a run stands: the area, the tally, and the text: where it ends in the output buffer, and the buffer
pub record Run : Type 0 where
  pub area : List ℤ
  pub tally : Tally
  pub text : ℕ × List ℕ

-- a run by its area and reporter
abbrev pub run_at : List ℤ → Reporter → Run
run_at area p = record { area = area; tally = p.tally; text = held p.text }

-- the run after one call
unfoldable pub ran_call : List ℕ → List ℤ → Run → Run
ran_call schema call r =
    let turn : AreaTurn = call_on schema call r.area in
    record { area = turn.1; tally = counted_in r.tally turn.0; text = put (line_of turn.0) r.text }

-- the run after the calls that the bytes are
unfoldable pub ran : List ℕ → List ℕ → Run → Run
ran schema bytes r =
    let done : List Logged × List ℤ = run_on schema (calls_of bytes) r.area in
    record { area = done.1; tally = counted_all r.tally done.0; text = put (lines_of done.0) r.text }

-- the area and the tally after the calls that the bytes are
unfoldable pub after : List ℕ → List ℕ → List ℤ → Tally → List ℤ × Tally
after schema bytes area t =
    let done : List Logged × List ℤ = run_on schema (calls_of bytes) area in
    (done.1, counted_all t done.0)
