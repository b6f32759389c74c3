use mathlib.Core.Path.{sym, ◌∙◌}
use Rattle.schema.proofs.CheckLaws.{answer_0, answer_1}
use Rattle.schema_check.proofs.check_schema.Goals as goal

pub returns-then-not-is_well_formed : goal.returns-then-not-is_well_formed
returns-then-not-is_well_formed c = answer_1 _ (sym c.is_well_formed.ensures ∙ c.if-not-is_well_formed.true)

pub returns : goal.returns
returns c = answer_0 _ (sym c.is_well_formed.ensures ∙ c.if-not-is_well_formed.false)
