use Rattle.schema.proofs.FieldLaws.{read_parent}
use Rattle.fields.proofs.Schema.parent.Goals as goal

pub returns : goal.returns
returns c = read_parent c.args.self.now.bytes c.args.self.now.accepted c.args.k c.requires c.key_byte.ensures.0
