use Rattle.calls.proofs.CallLaws as law
use Rattle.calls.proofs.update_where.Goals as goal

pub change_found-requires : goal.change_found-requires
change_found-requires c =
    (c.requires.0.sound, (law.search_set c.args.schema.now.bytes c.args.area.now c.args.call.now c.args.place c.requires.0 c.cell_of-sought.ensures c.nat_at-d.ensures c.cell_of-cell.ensures c.requires.1.0, c.requires.1.1))

pub returns : goal.returns
returns c =
    law.update_found_stated c.args.schema.now.bytes c.args.area.now c.args.call.now c.args.place c.requires.0 c.cell_of-sought.ensures c.nat_at-d.ensures c.cell_of-cell.ensures c.requires.1.0 _ c.change_found.ensures
