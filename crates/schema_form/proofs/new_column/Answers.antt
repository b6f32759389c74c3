use mathlib.Core.Path.{refl}
use native.Mathlib.Omega.{arith}
use borrow.Author.Rules.{rules}
use borrow.Author.Tests.{tests}
use Rattle.schema.specs.Check.{differ, new_column}
use Rattle.schema.proofs.RangeChains.{all_in_range}
use Rattle.schema_form.proofs.new_column.Goals as goal

pub returns : goal.returns
unfolding new_column
returns c =
    let a = c.args in
    all_in_range (differ a.s.now a.at a.i) _ _ _ 0 a.i _ refl (omega arith) c.all.ensures.ran (λ x q k. search (rules, tests)) (λ x q k. search (rules, tests))
