use borrow.Author.Tests.{le-ltb}
use Rattle.schema.proofs.MaskLaws.{bit_high}
use Rattle.numbers.proofs.is_bit.Goals as goal

pub returns-else-i-lt64 : goal.returns-else-i-lt64
returns-else-i-lt64 c = rw (bit_high c.args.m c.args.i c.requires c.if-i-lt64.false, le-ltb c.args.i 64 c.if-i-lt64.false)
