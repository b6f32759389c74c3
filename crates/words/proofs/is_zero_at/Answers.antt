use lib.IntN.{pos}
use lib.ListN.{get_or}
use borrow.Author.Rules.{rules}
use Rattle.words.proofs.Zeros.{zero_bits}
use Rattle.words.proofs.is_zero_at.Goals as goal

pub returns : goal.returns
returns c = zero_bits (get_or c.args.area.now c.args.i (pos 0)) (search rules)
