use mathlib.Core.Path.{◌≡◌, refl}
use native.Mathlib.Omega.{arith}
use borrow.Author.Rules.{rules}
use Rattle.schema.specs.Ranges.{all_from}
use Rattle.schema.specs.Check.{new_column, columns_rule}
use Rattle.schema.proofs.CheckLaws.{both_asked, first_asked}
use Rattle.schema.proofs.RangeChains.{all_in_range}
use Rattle.schema_form.proofs.columns_rule.Goals as goal
use Rattle.schema_form.proofs.columns_rule.Goals.{After-all}

new_here : (c : After-all) → c.all.result ≡ all_from (new_column c.args.s.now c.args.at) c.args.n 0
new_here c =
    let a = c.args in
    all_in_range (new_column a.s.now a.at) _ _ _ 0 a.n _ refl (omega arith) c.all.ensures.ran (λ x q k. search rules) (λ x q k. search rules)

pub returns-then-all : goal.returns-then-all
unfolding columns_rule
returns-then-all c = both_asked refl c.if-all.true (new_here (goal.at.returns-then-all c).After-all) c.all_bytes.ensures

pub returns-else-all : goal.returns-else-all
unfolding columns_rule
returns-else-all c = first_asked _ refl c.if-all.false (new_here (goal.at.returns-else-all c).After-all)
