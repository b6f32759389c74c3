use mathlib.Core.Path.{sym, ◌∙◌}
use Rattle.schema.specs.Fields.{schema_of}
use Rattle.settlement.proofs.SettleLaws as law
use Rattle.settlement.proofs.is_enforced.Goals as goal

pub returns-then-inside : goal.returns-then-inside
returns-then-inside c =
    c.immediate_zero.ensures ∙ sym (law.enforced_inside (schema_of c.args.schema.now.bytes) c.args.kept c.if-inside.true)

pub returns-else-inside : goal.returns-else-inside
returns-else-inside c =
    c.all_zero.ensures ∙ sym (law.enforced_outside (schema_of c.args.schema.now.bytes) c.args.kept c.if-inside.false)
