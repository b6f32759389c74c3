use mathlib.Core.Path.{ap, ◌∙◌}
use Rattle.schema.specs.Fields.{schema_of}
use Rattle.rules.specs.Rows.{Row}
use Rattle.rules.specs.Change.{change}
use Rattle.rules.specs.Statement.{statement}
use Rattle.rules.specs.Area.{view, on_words}
use Rattle.calls.specs.RowCall.{given_row}
use Rattle.calls.proofs.CallLaws as law
use Rattle.calls.proofs.write_row.Goals as goal

pub returns-then-is_live_row-live : goal.returns-then-is_live_row-live
returns-then-is_live_row-live c =
    let a = c.args in
    let given = given_row (schema_of a.schema.now.bytes) a.place a.call.now in
    law.placed_refused a.schema.now.bytes a.area.now a.place c.requires.0.0.sound.ready.fit given c.is_live_row.ensures a.live c.if-is_live_row-live.true

pub returns : goal.returns
returns c =
    let a = c.args in
    let s = schema_of a.schema.now.bytes in
    let given = given_row s a.place a.call.now in
    let turned = λ (x : Row). on_words (statement s (change 16 s a.place.table a.place.row x) (view s a.area.now)) in
    law.placed_stated a.schema.now.bytes a.area.now a.place c.requires.0.0.sound.ready.fit given c.is_live_row.ensures a.live c.if-is_live_row-live.false (c.change_row.ensures ∙ ap turned c.given_image-image.ensures)
