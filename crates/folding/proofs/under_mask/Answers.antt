use borrow.Author.Rules.{rules}
use Rattle.folding.specs.Masks.{masked}
use Rattle.folding.proofs.under_mask.Goals as goal

pub returns : goal.returns
unfolding masked
returns c = search rules
