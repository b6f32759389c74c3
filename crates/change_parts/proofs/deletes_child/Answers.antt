use Rattle.std.proofs.Common.{arith}
use Rattle.std.proofs.lemmas.Grind.{common_steps}
use Rattle.change_parts.specs.Turns.{deletes_child}
use Rattle.change_parts.proofs.deletes_child.Goals as goal

pub returns-then-matches : goal.returns-then-matches
unfolding deletes_child
returns-then-matches c = grind (arith, common_steps)

pub returns-else-matches : goal.returns-else-matches
unfolding deletes_child
returns-else-matches c = grind (arith, common_steps)
