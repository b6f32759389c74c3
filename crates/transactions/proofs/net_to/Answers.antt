use mathlib.Core.Path.{ap, ap₂, ◌∙◌}
use native.Mathlib.Omega.{arith}
use Rattle.rules.specs.Lists.{sum, less}
use Rattle.words.proofs.Signed.{back}
use Rattle.sums.proofs.KeptSmall.{small_more, less_small}
use borrow.Author.Rules.{rules}
use Rattle.transactions.proofs.net_to.Goals as goal

pub less_of-moved-requires : goal.less_of-moved-requires
less_of-moved-requires c =
    (small_more {m = 1024} (omega arith) (rw c.numbers_at-saved.ensures c.requires.1.1), small_more {m = 1024} (omega arith) (rw c.numbers_at-kept.ensures c.requires.1.0))

pub sum_of-requires : goal.sum_of-requires
sum_of-requires c =
    let numbers_at = c.numbers_at-kept in
    let numbers_at2 = c.numbers_at-saved in
    rw c.less_of-moved.ensures (less_small {m = 1024} {n = 1024} numbers_at2.result numbers_at.result (search rules) (rw numbers_at2.ensures c.requires.1.1) (rw numbers_at.ensures c.requires.1.0) (omega arith))

pub returns : goal.returns
returns c =
    let numbers_at = c.numbers_at-kept in
    back _ c.sum_of.type_inv
    ∙ c.sum_of.ensures
    ∙ ap sum (c.less_of-moved.ensures ∙ ap₂ less c.numbers_at-saved.ensures numbers_at.ensures)
