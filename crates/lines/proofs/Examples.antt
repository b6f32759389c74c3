-- Lines of the paper's example.
-- Assumes nothing.
use mathlib.Core.Path.{◌≡◌, refl}
use mathlib.Core.List.{[], ◌∷◌}
use lib.IntN.{pos, negsuc}
use Rattle.lines.specs.Text.{decimal_up_to, decimal, signed_text, answer_line, tally_line}

-- `21,0,0`
refused_commit : answer_line 21 0 (pos 0) ≡ 50 ∷ 49 ∷ 44 ∷ 48 ∷ 44 ∷ 48 ∷ 10 ∷ []
unfolding decimal_up_to decimal signed_text answer_line
refused_commit = refl

-- `0,1,-1`
mended : answer_line 0 1 (negsuc 0) ≡ 48 ∷ 44 ∷ 49 ∷ 44 ∷ 45 ∷ 49 ∷ 10 ∷ []
unfolding decimal_up_to decimal signed_text answer_line
mended = refl

-- `accepted,6,refused,2,rows,6`
last_line : tally_line 6 2 6
    ≡ 97 ∷ 99 ∷ 99 ∷ 101 ∷ 112 ∷ 116 ∷ 101 ∷ 100 ∷ 44 ∷ 54 ∷ 44 ∷ 114 ∷ 101 ∷ 102 ∷ 117 ∷ 115 ∷ 101 ∷ 100 ∷ 44 ∷ 50 ∷ 44 ∷ 114 ∷ 111 ∷ 119 ∷ 115 ∷ 44 ∷ 54 ∷ 10 ∷ []
unfolding decimal_up_to decimal tally_line
last_line = refl
