use Rattle.found.proofs.SoughtLaws.{null_is}
use Rattle.found.proofs.NullInRowTest.passes.Goals as goal

pub returns : goal.returns
returns c = null_is _ _ _ _ c.requires.1.0 c.nat_at.ensures c.bit_of.ensures
