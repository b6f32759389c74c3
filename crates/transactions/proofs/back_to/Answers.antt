use native.Mathlib.Omega.{arith}
use Rattle.bridge.proofs.SoundLaws.{undoable}
use Rattle.transactions.proofs.Steps as step
use Rattle.transactions.proofs.back_to.Goals as goal

pub undo_to-requires : goal.undo_to-requires
undo_to-requires c = undoable c.requires.0

pub close_levels-requires : goal.close_levels-requires
close_levels-requires c =
    let undo_to = c.undo_to in
    (step.area_long (step.back_mid c.requires.0.ready.fit c.args.i c.args.n c.args.base c.requires.1.0 c.requires.1.1 undo_to.ensures).fit, (omega (arith, step.back_count c.requires.0.ready.fit c.args.i c.args.n c.args.base c.requires.1.0 c.requires.1.1 undo_to.ensures, c.requires.1.0), step.levels_at_most (step.back_mid c.requires.0.ready.fit c.args.i c.args.n c.args.base c.requires.1.0 c.requires.1.1 undo_to.ensures).fit))

pub load_kept-requires : goal.load_kept-requires
load_kept-requires c =
    let close_levels = c.close_levels in
    let undo_to = c.undo_to in
    (step.area_long (step.back_closed c.requires.0.ready.fit c.args.i c.args.n c.args.base c.requires.1.0 c.requires.1.1 undo_to.ensures close_levels.ensures).fit, omega (arith, c.requires.1.0, step.few c.requires.0.ready.fit))

pub returns : goal.returns
returns c =
    let undo_to = c.undo_to in
    let close_levels = c.close_levels in
    step.back_holds c.requires.0.ready.fit c.args.i c.args.n c.args.base c.requires.1.0 c.requires.1.1 undo_to.ensures close_levels.ensures c.load_kept.ensures
