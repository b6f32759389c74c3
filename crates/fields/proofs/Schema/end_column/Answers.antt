use native.Mathlib.Omega.{arith}
use mathlib.Core.Path.{refl}
use Rattle.schema.proofs.FieldLaws.{read_width, read_end}
use Rattle.fields.proofs.Schema.end_column.Goals as goal

pub overflow_add-n : goal.overflow_add-n
overflow_add-n c =
    let q = read_width c.args.self.now.bytes c.args.self.now.accepted c.args.k c.requires.0 refl in
    omega (arith, c.requires.1, q.0, q.1.high)

pub key_byte-requires : goal.key_byte-requires
key_byte-requires c =
    let q = read_width c.args.self.now.bytes c.args.self.now.accepted c.args.k c.requires.0 refl in
    (c.requires.0, omega (arith, c.requires.1, q.0, q.1.high))

pub returns : goal.returns
returns c = read_end _ c.args.self.now.accepted _ c.requires.0 c.args.n c.requires.1 c.key_byte.ensures.0
