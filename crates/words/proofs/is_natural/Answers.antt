use Rattle.words.proofs.Signed.{natural_is}
use Rattle.words.proofs.is_natural.Goals as goal

pub returns : goal.returns
returns c = natural_is c.args.w c.ranges.w
