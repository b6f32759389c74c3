use Rattle.calls.proofs.CallLaws as law
use Rattle.calls.proofs.delete_where.Goals as goal

pub change_found-requires : goal.change_found-requires
change_found-requires c =
    (c.requires.0.sound, (law.search_deleted c.args.schema.now.bytes c.args.area.now c.args.call.now c.args.place c.requires.0 c.cell_of-sought.ensures, c.requires.1))

pub returns : goal.returns
returns c =
    law.delete_found_stated c.args.schema.now.bytes c.args.area.now c.args.call.now c.args.place c.requires.0 c.cell_of-sought.ensures _ c.change_found.ensures
