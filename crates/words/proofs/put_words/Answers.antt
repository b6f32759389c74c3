use native.Mathlib.Omega.{arith}
use Rattle.words.proofs.Splice.{mid_sets}
use Rattle.words.proofs.put_words.Goals as goal

pub returns : goal.returns
returns c = mid_sets c.args.area.now c.args.at _ c.args.words.now c.copy_from_slice.ensures.after (omega arith) c.requires
