use mathlib.Core.Path.{◌∙◌}
use Rattle.schema.specs.Fields
use Rattle.schema.proofs.FieldLaws.{read_child, byte_zero}
use Rattle.fields.proofs.Schema.child.Goals as goal

pub returns : goal.returns
returns c = read_child c.args.self.now.bytes c.args.self.now.accepted c.args.k c.requires (c.key_byte.ensures.0 ∙ byte_zero c.args.self.now.bytes (Fields.key_start c.args.self.now.bytes c.args.k))
