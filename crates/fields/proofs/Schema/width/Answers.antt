use Rattle.schema.proofs.FieldLaws.{read_width}
use Rattle.fields.proofs.Schema.width.Goals as goal

pub returns : goal.returns
returns c = read_width c.args.self.now.bytes c.args.self.now.accepted c.args.k c.requires c.key_byte.ensures.0
