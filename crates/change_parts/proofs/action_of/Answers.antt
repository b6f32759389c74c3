use mathlib.Core.Path.{sym, ◌∙◌}
use Rattle.schema.specs.Fields.{schema_of}
use Rattle.schema.specs.Records.{key_of}
use Rattle.change_parts.proofs.PartLaws as law
use Rattle.change_parts.proofs.action_of.Goals as goal

pub returns-then-image_live : goal.returns-then-image_live
returns-then-image_live c =
    c.on_update.ensures
    ∙ law.action_update c.args.new (key_of (schema_of c.args.schema.now.bytes) c.args.k) (sym c.image_live.ensures ∙ c.if-image_live.true)

pub returns : goal.returns
returns c =
    c.on_delete.ensures
    ∙ law.action_delete c.args.new (key_of (schema_of c.args.schema.now.bytes) c.args.k) (sym c.image_live.ensures ∙ c.if-image_live.false)
