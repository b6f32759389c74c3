use Rattle.found.proofs.SoughtLaws.{found_null, found_key}
use Rattle.found.proofs.next_found.Goals as goal

pub returns-in-Null : goal.returns-in-Null
returns-in-Null c = found_null c.args.x c.args.area.now c.args.from c.in-Null.is c.first_null.result c.first_null.ensures

pub returns-in-Key : goal.returns-in-Key
returns-in-Key c = found_key c.args.x c.args.area.now c.args.from c.in-Key.is c.first_with_key.result c.first_with_key.ensures
