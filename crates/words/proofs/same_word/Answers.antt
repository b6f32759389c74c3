use Rattle.bridge.proofs.Bits.{same_bits}
use Rattle.words.proofs.same_word.Goals as goal

pub returns : goal.returns
returns c = same_bits c.args.a c.args.b c.ranges.a c.ranges.b
