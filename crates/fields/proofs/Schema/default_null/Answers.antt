use Rattle.schema.proofs.FieldLaws.{read_default_null}
use Rattle.fields.proofs.Schema.default_null.Goals as goal

pub returns : goal.returns
returns c = (read_default_null c.args.self.now.bytes c.args.self.now.accepted c.args.t c.requires c.table_byte.ensures.0, c.table_byte.ensures.1)
