use Rattle.schema.specs.Bytes.{bit}
use borrow.Author.Rules.{rules}
use Rattle.numbers.proofs.bit_of.Goals as goal

pub returns : goal.returns
unfolding bit
returns c = search rules
