use mathlib.Core.Path.{sym, ◌∙◌}
use Rattle.table_keys.proofs.TouchLaws.{below_more, below_same}
use Rattle.table_keys.proofs.keys_of.Goals as goal
use Rattle.table_keys.proofs.keys_of.Goals.{then-touches, else-touches}

pub loop-k-preserved : goal.loop-k-preserved
loop-k-preserved c =
    let l = c.loop-k in
    let e = c.touches.ensures in
    elim c.if-touches.branch [
      | then-touches w ↦ rw (w.keys-is, w.with_key-keys.ensures) (below_more _ _ l.k l.keys l.invariant (sym e ∙ w.if-touches.true))
      | else-touches w ↦ rw w.keys-is (below_same _ _ l.k l.keys l.invariant (sym e ∙ w.if-touches.false))
    ]
