use Rattle.scans.proofs.FirstLaws.{is_same}
use Rattle.found.proofs.SoughtLaws.{null_and_live}
use Rattle.found.proofs.first_null.Goals as goal

pub returns : goal.returns
returns c = is_same c.args.area.now c.args.table c.args.from (null_and_live c.args.c) c.first.result c.first.ensures
