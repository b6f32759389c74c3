use mathlib.Core.Path.{◌∙◌}
use Rattle.schema.specs.Fields
use Rattle.schema.proofs.FieldLaws.{byte_assoc, read_unique}
use native.Mathlib.Omega.{arith}
use Rattle.fields.proofs.Schema.unique_mask.Goals as goal

pub table_byte-requires : goal.table_byte-requires
table_byte-requires c = (c.requires.0, omega (arith, c.requires.1))

pub returns : goal.returns
returns c =
    let e = c.table_byte.ensures.0 ∙ byte_assoc c.args.self.now.bytes (Fields.table_start c.args.t) 4 c.args.i in
    (read_unique c.args.self.now.bytes c.args.self.now.accepted c.args.t c.requires.0 c.args.i c.requires.1 e, c.table_byte.ensures.1)
