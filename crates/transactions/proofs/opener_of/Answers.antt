use mathlib.Core.Path.{refl}
use borrow.Author.Tests.{le-leb}
use Rattle.rules.specs.Step.{opener_of}
use Rattle.transactions.proofs.Steps as step
use Rattle.transactions.proofs.opener_of.Goals as goal

pub returns-then-n-eq0 : goal.returns-then-n-eq0
unfolding opener_of
returns-then-n-eq0 c = rw c.if-n-eq0.true refl

pub returns : goal.returns
unfolding opener_of
returns c = rw (le-leb 1 c.args.n (step.positive _ c.if-n-eq0.false)) c.nat_at.ensures
