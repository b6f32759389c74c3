use Rattle.schema.proofs.FieldLaws.{read_columns}
use Rattle.fields.proofs.Schema.columns.Goals as goal

pub returns : goal.returns
returns c = read_columns c.args.self.now.bytes c.args.self.now.accepted c.args.t c.requires c.table_byte.ensures.0
