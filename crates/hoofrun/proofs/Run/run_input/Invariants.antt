-- calls lead to the area, under the schema that there was
use Rattle.std.proofs.Common.{◌≡◌}
use Rattle.laws.specs.Reached.{Reached}
use Rattle.hoofrun.proofs.Run.run_input.Given as goal

abbrev pub invariant-loop : goal.invariant-loop
invariant-loop g l = (l.self.schema.now ≡ l.initial.self.schema.now) × Reached l.self.schema.now l.self.area.now
