use mathlib.Core.Path.{sym, ap}
use Rattle.folding.specs.Masks.{first_mask}
use Rattle.folding.proofs.first_mask.Goals as goal

pub returns-then-f : goal.returns-then-f
unfolding first_mask
returns-then-f c = sym (ap first_mask c.if-f.true)

pub returns-else-f : goal.returns-else-f
unfolding first_mask
returns-else-f c = sym (ap first_mask c.if-f.false)
