use Rattle.schema.specs.Fields.{column_rule}
use Rattle.schema_form.proofs.column_rule.Goals as goal

pub returns : goal.returns
unfolding column_rule
returns c = rw c.byte_at.ensures.0
