use Rattle.schema.specs.Marks.{marked}
use Rattle.numbers.proofs.marked.Goals as goal

pub returns-then-b : goal.returns-then-b
unfolding marked
returns-then-b c = rw (c.if-b.true, c.power.ensures)

pub returns-else-b : goal.returns-else-b
unfolding marked
returns-else-b c = rw c.if-b.false
