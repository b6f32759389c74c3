use mathlib.Core.Path.{◌∙◌}
use Rattle.rows.proofs.TableLaws.{parent_wide}
use Rattle.row_orphans.proofs.KeyLaws.{parents_stand, parents_sought, twin_is}
use Rattle.row_orphans.proofs.has_twin.Goals as goal

pub sought_key-key-requires : goal.sought_key-key-requires
sought_key-key-requires c =
    (parent_wide _ _ _ _ c.requires.0.1.0.columns.parents, c.requires.1.1)

pub other_with_key-requires : goal.other_with_key-requires
other_with_key-requires c =
    let rows_of_lem = c.rows_of-parents in
    let a = c.args in
    (parents_stand a.schema.now.bytes a.area.now a.k a.t a.r a.pairs c.requires.0.0 c.requires.0.1.0 c.requires.0.1.1 c.requires.1.0 rows_of_lem.result rows_of_lem.ensures, parents_sought a.schema.now.bytes a.area.now a.k a.t a.r a.pairs c.requires.0.0 c.requires.0.1.0 c.requires.0.1.1 c.requires.1.0 rows_of_lem.result rows_of_lem.ensures c.sought_key-key.ensures)

pub returns : goal.returns
returns c =
    let rows_of_lem = c.rows_of-parents in
    let a = c.args in
    c.other_with_key.ensures ∙ twin_is a.schema.now.bytes a.area.now a.k a.t a.r a.pairs c.requires.0.0 c.requires.0.1.0 c.requires.0.1.1 c.requires.1.0 rows_of_lem.result rows_of_lem.ensures a.image c.sought_key-key.ensures
