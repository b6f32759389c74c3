use mathlib.Core.Path.{ap, ◌∙◌}
use Rattle.schema.specs.Fields
use Rattle.schema.proofs.FieldLaws.{read_on_update}
use Rattle.fields.proofs.Schema.on_update.Goals as goal

pub returns : goal.returns
returns c =
    let key_byte = c.key_byte in
    read_on_update c.args.self.now.bytes c.args.self.now.accepted c.args.k c.requires (c.action_of.ensures ∙ ap Fields.action_from key_byte.ensures.0)
