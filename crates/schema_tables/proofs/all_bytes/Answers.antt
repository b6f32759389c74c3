use mathlib.Core.Path.{refl}
use borrow.Author.Rules.{rules}
use borrow.Author.Tests.{tests}
use Rattle.schema.specs.Check
use Rattle.schema.proofs.RangeChains.{all_in_range}
use Rattle.schema_tables.proofs.all_bytes.Goals as goal

pub returns : goal.returns
returns c =
    let a = c.args in
    all_in_range (Check.is_byte a.s.now a.at a.b) _ _ _ a.from a.to _ refl refl c.all.ensures.ran (λ x q k. search (rules, tests)) (λ x q k. search (rules, tests))
