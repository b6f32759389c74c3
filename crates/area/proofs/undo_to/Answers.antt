use mathlib.Core.Path.{◌≡◌, refl, sym, ◌∙◌}
use Prim.Native.Nat.{suc, ◌-◌}
use native.Mathlib.Omega.{arith}
use Rattle.bridge.proofs.RowWords.{keeps_refl, keeps_trans}
use Rattle.area.proofs.Journal.{undoable_less, use_less, undo_again, undo_end}
use Rattle.area.proofs.undo_to.Goals as goal

pub loop-used-init : goal.loop-used-init
loop-used-init c = record { keeps = keeps_refl c.requires.ready.fit; undoable = c.requires; use_is = c.nat_at-used.ensures; rest = refl }

pub loop-used-preserved : goal.loop-used-preserved
loop-used-preserved c =
    let l = c.loop-used in
    let u = l.invariant.undoable in
    let k = c.undo_one.ensures.1 in
    let w = c.undo_one.ensures.0 in
    let e : l.used ≡ suc (l.used - 1) = omega arith in
    record { keeps = keeps_trans l.invariant.keeps k; undoable = undoable_less u k w; use_is = use_less u k w (sym l.invariant.use_is ∙ e); rest = l.invariant.rest ∙ undo_again u k w c.args.to (omega arith) }

pub returns : goal.returns
returns c =
    let l = c.loop-used in
    (sym (l.invariant.rest ∙ undo_end l.invariant.keeps.fit c.args.to (omega arith)), l.invariant.keeps)
