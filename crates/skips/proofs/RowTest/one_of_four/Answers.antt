use borrow.Author.Rules.{rules}
use native.Mathlib.Omega.{arith}
use Rattle.skips.proofs.SkipLaws.{four_is, four_within}
use Rattle.skips.proofs.RowTest.one_of_four.Goals as goal

pub passes-requires-else-passes-2 : goal.passes-requires-else-passes-2
passes-requires-else-passes-2 g c = (omega (arith, four_within c.args.area.now c.args.table c.args.j c.requires.0 c.requires.1.0), c.requires.1.1)

pub passes-requires-else-passes-3 : goal.passes-requires-else-passes-3
passes-requires-else-passes-3 g c = (omega (arith, four_within c.args.area.now c.args.table c.args.j c.requires.0 c.requires.1.0), c.requires.1.1)

pub returns-then-passes-3 : goal.returns-then-passes-3
returns-then-passes-3 g c = let four = four_is (g.Self.RowTest.accepts c.args.self.now) c.args.area.now c.args.table.start c.args.table.width c.args.j in search (rules, four)

pub returns-else-passes-3 : goal.returns-else-passes-3
returns-else-passes-3 g c = let four = four_is (g.Self.RowTest.accepts c.args.self.now) c.args.area.now c.args.table.start c.args.table.width c.args.j in search (rules, four)
