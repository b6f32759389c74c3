use mathlib.Core.Path.{◌≡◌}
use lib.ListN.{length}
use Rattle.rows.proofs.FoldLaws.{Gathered}
use Rattle.rows.proofs.key_values.Given as goal

abbrev pub invariant-loop-i : goal.invariant-loop-i
invariant-loop-i l = (length l.vs ≡ 8) × Gathered l.image l.folded l.ds l.i l.vs
