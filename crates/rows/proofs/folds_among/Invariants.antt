use lib.ListN.{get_or}
use Rattle.schema.specs.Bytes.{bit}
use Rattle.schema.specs.Marks.{Marks}
use Rattle.rows.proofs.folds_among.Given as goal

abbrev pub invariant-loop-i : goal.invariant-loop-i
invariant-loop-i l = Marks (λ j. bit (get_or l.cs j 0) l.mask) l.i l.f
