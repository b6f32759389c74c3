-- What an answer prints and counts.
-- Assumes nothing.
use Rattle.std.specs.Prelude.{List, ℕ}
use Rattle.rules.specs.Refusals.{Answer, shown}
use Rattle.run_tally.specs.declared.Tally.{Tally}
use Rattle.run_tally.specs.Tallies.{tallied}
use Rattle.lines.specs.Text.{answer_line}

-- "a line per call: code, rows changed, net"
unfoldable pub line_of : Answer → List ℕ
line_of a = answer_line (shown a).0 (shown a).1 (shown a).2

-- the tally with one answer more
unfoldable pub counted_in : Tally → Answer → Tally
counted_in t a = tallied t (shown a).0 (shown a).1
