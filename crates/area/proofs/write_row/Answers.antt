use native.Mathlib.Omega.{arith}
use Rattle.schema.proofs.FieldLaws.{room_few}
use Rattle.area.proofs.Places.{area_long}
use Rattle.area.proofs.Journal.{next_in_room, place_word, written_is}
use borrow.Author.Rules.{rules}
use Rattle.area.proofs.write_row.Goals as goal

pub overflow_mul-t : goal.overflow_mul-t
overflow_mul-t c =
    omega (arith, place_word c.requires.0 c.requires.1)

pub overflow_add-t : goal.overflow_add-t
overflow_add-t c =
    omega (arith, place_word c.requires.0 c.requires.1)

pub set_record-requires : goal.set_record-requires
set_record-requires c =
    let nat_at = c.nat_at-used in
    let h = next_in_room c.requires.0 c.requires.1 in
    (omega (arith, nat_at.ensures, area_long c.requires.0.ready.fit), (omega (arith, place_word c.requires.0 c.requires.1), omega (arith, nat_at.ensures, room_few _ c.requires.0.ready.accepted)))

pub returns : goal.returns
returns c =
    let image_of = c.image_of-old in
    let nat_at = c.nat_at-used in
    let record_at = c.record_at-at in
    let set_record = c.set_record in
    (image_of.ensures, written_is c.requires.0 c.requires.1 c.args.image (search rules) record_at.ensures nat_at.ensures image_of.ensures set_record.ensures c.put_in_table.ensures)
