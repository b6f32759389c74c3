use native.Mathlib.Omega.{arith}
use Rattle.schema.proofs.FieldLaws.{tables_few}
use Rattle.area.proofs.Places.{put_is, row_in_table, table_in_area}
use Rattle.area.proofs.put_in_table.Goals as goal

pub overflow_add-end : goal.overflow_add-end
overflow_add-end c = omega (arith, tables_few _ c.requires.0.accepted, c.requires.0.table)

pub write_row-requires : goal.write_row-requires
write_row-requires c =
    let start_of_lem = c.start_of-start in
    let table_words = c.table_words in
    let columns = c.columns-width in
    (row_in_table _ c.args.t c.args.r start_of_lem.ensures.0 columns.ensures.0 c.requires.0.row table_words.ensures.0, (table_in_area _ c.args.t c.args.r start_of_lem.ensures.0 columns.ensures.0 c.requires.0.table table_words.ensures.0 c.requires.1, omega (arith, columns.ensures.1)))

pub returns : goal.returns
returns c =
    let start_of_lem = c.start_of-start in
    let columns = c.columns-width in
    let write_row = c.write_row in
    put_is _ c.args.t c.args.r start_of_lem.ensures.0 columns.ensures.0 c.args.area.now c.args.image write_row.ensures
