use mathlib.Core.Bool.{true}
use Rattle.rules.specs.Rows.{deleted_image}
use Rattle.calls.proofs.CallLaws as law
use Rattle.calls.proofs.delete_row.Goals as goal

pub returns-then-not-is_live_row : goal.returns-then-not-is_live_row
returns-then-not-is_live_row c =
    law.placed_refused c.args.schema.now.bytes c.args.area.now c.args.place c.requires.0.sound.ready.fit deleted_image c.is_live_row.ensures true (law.other_than_live c.if-not-is_live_row.true)

pub returns : goal.returns
unfolding deleted_image
returns c =
    law.placed_stated c.args.schema.now.bytes c.args.area.now c.args.place c.requires.0.sound.ready.fit deleted_image c.is_live_row.ensures true (law.as_live c.if-not-is_live_row.false) c.change_row.ensures
