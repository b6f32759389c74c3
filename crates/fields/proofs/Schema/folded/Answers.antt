use Rattle.schema.proofs.FieldLaws.{read_folded}
use Rattle.fields.proofs.Schema.folded.Goals as goal

pub returns : goal.returns
returns c = (read_folded c.args.self.now.bytes c.args.self.now.accepted c.args.t c.requires c.table_byte.ensures.0, c.table_byte.ensures.1)
