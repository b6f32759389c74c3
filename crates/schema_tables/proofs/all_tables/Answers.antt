use mathlib.Core.Path.{refl}
use native.Mathlib.Omega.{arith}
use borrow.Author.Rules.{rules}
use Rattle.schema.specs.Check
use Rattle.schema.proofs.RangeChains.{all_in_range}
use Rattle.schema_tables.proofs.all_tables.Goals as goal

pub returns : goal.returns
returns c = all_in_range (Check.table_rules c.args.s.now) _ _ _ 0 c.args.n _ refl (omega arith) c.all.ensures.ran (λ x q k. search rules) (λ x q k. search rules)
