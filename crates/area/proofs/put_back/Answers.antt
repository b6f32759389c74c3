use Rattle.area.proofs.SpareLaws.{undone_same}
use Rattle.area.proofs.put_back.Goals as goal

pub returns-then-clean : goal.returns-then-clean
returns-then-clean c =
    let undo_to = c.undo_to in
    undone_same c.args.used (c.requires.1.1 c.if-clean.true) undo_to.ensures.0 undo_to.ensures.1
