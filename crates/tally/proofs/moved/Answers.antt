use mathlib.Core.Path.{ap, ◌∙◌}
use mathlib.Core.List.{List}
use native.Mathlib.Omega.{arith}
use borrow.Author.Rules.{rules}
use lib.IntN.{ℤ}
use Rattle.rules.specs.Lists.{plus}
use Rattle.sums.proofs.KeptSmall.{small_more, less_small}
use Rattle.tally.proofs.moved.Goals as goal

pub less_of-requires : goal.less_of-requires
less_of-requires c = (small_more {m = 2048} (omega arith) c.requires.0, small_more {m = 2048} (omega arith) c.requires.1.0)

pub plus_of-requires : goal.plus_of-requires
plus_of-requires c = (
  rw c.less_of.ensures (less_small c.args.tally c.args.taken (search rules) c.requires.0 c.requires.1.0 (omega arith)),
  small_more {m = 2048} (omega arith) c.requires.1.1,
)

pub returns : goal.returns
returns c = c.plus_of.ensures ∙ ap (λ (l : List ℤ). plus l c.args.added) c.less_of.ensures
