use Prim.Native.Nat.{◌-◌}
use Rattle.statements.proofs.FoundLaws as law
use Rattle.statements.proofs.found_walk.Given as goal

abbrev pub invariant-loop-i : goal.invariant-loop-i
invariant-loop-i l = law.Walking l.schema.bytes l.initial.tally l.initial.area l.tally l.area l.t l.x l.given l.x.rows.count l.j

abbrev pub decreases-loop-i : goal.decreases-loop-i
decreases-loop-i l = l.x.rows.count - l.j
