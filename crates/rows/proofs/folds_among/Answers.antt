use mathlib.Core.Path.{◌≡◌}
use native.Mathlib.Omega.{arith}
use Rattle.schema.proofs.MaskLaws.{marks_start, marks_more}
use Rattle.rows.proofs.FoldLaws.{folds_marked}
use Rattle.rows.proofs.folds_among.Goals as goal

pub loop-i-init : goal.loop-i-init
loop-i-init c = marks_start _

pub marked-f-requires : goal.marked-f-requires
marked-f-requires c =
    let l = c.loop-i in
    (omega (arith, c.requires.few, c.loop-i-test.true), l.invariant.below)

pub loop-i-preserved : goal.loop-i-preserved
loop-i-preserved c =
    let l = c.loop-i in
    rw c.marked-f.ensures (marks_more _ l.i l.f l.invariant _ c.bit_of.ensures)

pub returns : goal.returns
returns c =
    let a = c.args in
    let l = c.loop-i in
    let e : l.i ≡ a.n = omega (arith, c.loop-i-test.false) in
    folds_marked l.f a.mask a.n a.cs (omega (arith, c.requires.few, c.requires.size)) (rw e at l.invariant)
