use borrow.Author.Rules.{rules}
use Rattle.skips.specs.Skipped.{both}
use Rattle.skips.proofs.BothRowTest.passes.Goals as goal

pub returns-then-passes : goal.returns-then-passes
unfolding both
returns-then-passes g c = search rules

pub returns-else-passes : goal.returns-else-passes
unfolding both
returns-else-passes g c = search rules
