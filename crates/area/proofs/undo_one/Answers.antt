use mathlib.Core.Path.{◌∙◌}
use Rattle.area.proofs.Journal.{newest_place, newest_undone}
use Rattle.area.proofs.undo_one.Goals as goal

pub put_in_table-requires : goal.put_in_table-requires
put_in_table-requires c =
    let record_at = c.record_at-at in
    let nat_at = c.nat_at-place in
    let image_at = c.image_at-old in
    let set_record = c.set_record in
    (newest_place c.requires.0 c.requires.1 record_at.ensures nat_at.ensures image_at.ensures, set_record.auto.area ∙ c.requires.0.ready.fit.size)

pub returns : goal.returns
returns c =
    let record_at = c.record_at-at in
    let nat_at = c.nat_at-place in
    let image_at = c.image_at-old in
    let set_record = c.set_record in
    newest_undone c.requires.0 c.requires.1 record_at.ensures nat_at.ensures image_at.ensures set_record.ensures c.put_in_table.ensures
