use Rattle.area.proofs.Journal.{full_is}
use Rattle.area.proofs.is_full.Goals as goal

pub returns : goal.returns
returns c = full_is c.requires.fit c.nat_at-used.ensures c.room-room.ensures.0
