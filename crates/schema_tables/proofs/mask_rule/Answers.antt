use Rattle.schema.specs.Check.{mask_rule}
use Rattle.schema_tables.proofs.mask_rule.Goals as goal

pub returns : goal.returns
unfolding mask_rule
returns c = rw c.byte_at.ensures.0
