-- An answer by its figures.
-- Assumes nothing.
use mathlib.Core.Path.{◌≡◌, refl, ap₂}
use Prim.Native.Nat.{ℕ}
use lib.IntN.{ℤ}
use Rattle.rules.specs.Refusals.{Answer, shown}
use Rattle.run_tally.specs.declared.Tally.{Tally}
use Rattle.run_tally.specs.Tallies.{tallied}
use Rattle.lines.specs.Text.{answer_line}
use Rattle.reports.specs.Reports.{line_of, counted_in}

-- by its figures: the tally, and the line
pub count_told : (t : Tally) (a : Answer) {code changed : ℕ} → code ≡ (shown a).0 → changed ≡ (shown a).1 → tallied t code changed ≡ counted_in t a
unfolding counted_in
count_told t a e f = ap₂ (tallied t) e f

pub line_told : (a : Answer) {code changed : ℕ} {net : ℤ} → code ≡ (shown a).0 → changed ≡ (shown a).1 → net ≡ (shown a).2
    → answer_line code changed net ≡ line_of a
unfolding line_of
line_told a e f g = rw (e, f, g) refl
