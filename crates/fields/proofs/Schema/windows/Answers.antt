use Rattle.schema.proofs.FieldLaws.{read_windows}
use Rattle.fields.proofs.Schema.windows.Goals as goal

pub returns : goal.returns
returns c = read_windows _ c.args.self.now.accepted _ c.requires c.key_byte.ensures.0
