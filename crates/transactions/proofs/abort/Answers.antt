use native.Mathlib.Omega.{arith}
use Rattle.schema.specs.Fields.{schema_of}
use Rattle.bridge.proofs.SoundLaws.{undoable}
use Rattle.transactions.proofs.Steps as step
use Rattle.area.proofs.SpareLaws.{spare_undone}
use Rattle.transactions.proofs.abort.Goals as goal

pub undo_to-requires : goal.undo_to-requires
undo_to-requires c = undoable c.requires.0

pub load_kept-requires : goal.load_kept-requires
load_kept-requires c =
    (step.area_long (step.abort_mid c.requires.0.ready.fit c.requires.1.0 c.undo_to.ensures).fit, omega arith)

pub end-requires : goal.end-requires
end-requires c =
    let undo_to = c.undo_to in
    let loaded = step.abort_loaded c.requires.0.ready.fit c.requires.1.0 undo_to.ensures c.load_kept.ensures in
    (record { accepted = c.requires.0.ready.accepted; fit = loaded.fit }, spare_undone (schema_of c.args.schema.now.bytes) c.args.area.now _ c.requires.1.1 0 (step.loaded_work c.requires.0.ready.fit c.requires.1.0 undo_to.ensures c.load_kept.ensures))

pub returns : goal.returns
returns c =
    let undo_to = c.undo_to in
    let load_kept = c.load_kept in
    step.abort_holds c.requires.0.ready.fit c.requires.1.0 undo_to.ensures load_kept.ensures c.end.ensures
