use Rattle.schema.proofs.FieldLaws.{read_not_null}
use Rattle.fields.proofs.Schema.not_null.Goals as goal

pub returns : goal.returns
returns c = (read_not_null c.args.self.now.bytes c.args.self.now.accepted c.args.t c.requires c.table_byte.ensures.0, c.table_byte.ensures.1)
