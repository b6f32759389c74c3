use mathlib.Core.Path.{◌≡◌, ap₂, ◌∙◌}
use native.Mathlib.Omega.{arith}
use lib.ListN.{length, length-set}
use Rattle.words.proofs.Signed.{back}
use Rattle.rules.specs.Values.{folded}
use Rattle.rows.proofs.FoldLaws.{gathered_more, gathered_all}
use Rattle.rows.proofs.key_values.Goals as goal

pub loop-i-preserved : goal.loop-i-preserved
loop-i-preserved c =
    let a = c.args in
    let l = c.loop-i in
    let v = back c.compared.result c.compared.type_inv ∙ c.compared.ensures ∙ ap₂ folded c.bit_of.ensures (back _ c.compared-arg-1.given) in
    (simp length-set l.invariant.0, gathered_more a.image a.folded a.ds.now l.i l.vs (omega (arith, c.loop-i-test.true, c.requires.1, l.invariant.0)) l.invariant.1 v)

pub returns : goal.returns
returns c =
    let a = c.args in
    let l = c.loop-i in
    let e : l.i ≡ length a.ds.now = omega (arith, c.loop-i-test.false) in
    gathered_all a.image a.folded a.ds.now l.vs (omega (arith, c.requires.1, l.invariant.0)) (rw e at l.invariant.1)
