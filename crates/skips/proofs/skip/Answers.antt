use mathlib.Core.Path.{sym, ◌∙◌}
use Rattle.skips.proofs.SkipLaws.{skip_four}
use Rattle.skips.proofs.skip.Goals as goal

pub loop-j-preserved : goal.loop-j-preserved
loop-j-preserved g c =
    let l = c.loop-j in
    skip_four (g.T.RowTest.accepts c.args.test.now) c.args.area.now c.args.table c.args.from l.j l.invariant c.loop-j-test.true (sym c.one_of_four.ensures ∙ c.if-one_of_four.false)
