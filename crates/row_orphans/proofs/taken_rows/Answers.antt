use mathlib.Core.Path.{◌∙◌}
use Rattle.rows.proofs.TableLaws.{parent_wide}
use Rattle.row_orphans.proofs.KeyLaws.{children_stand, children_sought, children_few, row_below, taken_others, taken_all}
use Rattle.row_orphans.proofs.taken_rows.Goals as goal

pub sought_key-key-requires : goal.sought_key-key-requires
sought_key-key-requires c =
    (parent_wide _ _ _ _ c.requires.0.1.0.columns.parents, c.requires.1)

pub count_others_with_key-requires : goal.count_others_with_key-requires
count_others_with_key-requires c =
    let child = c.child-child in
    let rows_of_lem = c.rows_of-children in
    let a = c.args in
    ((children_stand a.schema.now.bytes a.area.now a.k a.t a.r a.pairs c.requires.0.0 c.requires.0.1.0 c.requires.0.1.1 child.ensures.0 rows_of_lem.result rows_of_lem.ensures, row_below a.schema.now.bytes a.area.now a.k a.t a.r a.pairs c.requires.0.0 c.requires.0.1.0 c.requires.0.1.1 child.ensures.0 rows_of_lem.result rows_of_lem.ensures c.if-child-t.true), children_sought a.schema.now.bytes a.area.now a.k a.t a.r a.pairs c.requires.0.0 c.requires.0.1.0 c.requires.0.1.1 child.ensures.0 rows_of_lem.result rows_of_lem.ensures c.sought_key-key.ensures)

pub returns-then-child-t : goal.returns-then-child-t
returns-then-child-t c =
    let child = c.child-child in
    let rows_of_lem = c.rows_of-children in
    let a = c.args in
    let m = c.count_others_with_key.ensures in
    (m.0 ∙ taken_others a.schema.now.bytes a.area.now a.k a.t a.r a.pairs c.requires.0.0 c.requires.0.1.0 c.requires.0.1.1 child.ensures.0 rows_of_lem.result rows_of_lem.ensures c.if-child-t.true a.image c.sought_key-key.ensures, children_few a.schema.now.bytes a.area.now a.k a.t a.r a.pairs c.requires.0.0 c.requires.0.1.0 c.requires.0.1.1 child.ensures.0 rows_of_lem.result rows_of_lem.ensures m.1)

pub count_with_key-requires : goal.count_with_key-requires
count_with_key-requires c =
    let child = c.child-child in
    let rows_of_lem = c.rows_of-children in
    let a = c.args in
    (children_stand a.schema.now.bytes a.area.now a.k a.t a.r a.pairs c.requires.0.0 c.requires.0.1.0 c.requires.0.1.1 child.ensures.0 rows_of_lem.result rows_of_lem.ensures, children_sought a.schema.now.bytes a.area.now a.k a.t a.r a.pairs c.requires.0.0 c.requires.0.1.0 c.requires.0.1.1 child.ensures.0 rows_of_lem.result rows_of_lem.ensures c.sought_key-key.ensures)

pub returns : goal.returns
returns c =
    let child = c.child-child in
    let rows_of_lem = c.rows_of-children in
    let a = c.args in
    let m = c.count_with_key.ensures in
    (m.0 ∙ taken_all a.schema.now.bytes a.area.now a.k a.t a.r a.pairs c.requires.0.0 c.requires.0.1.0 c.requires.0.1.1 child.ensures.0 rows_of_lem.result rows_of_lem.ensures c.if-child-t.false a.image c.sought_key-key.ensures, children_few a.schema.now.bytes a.area.now a.k a.t a.r a.pairs c.requires.0.0 c.requires.0.1.0 c.requires.0.1.1 child.ensures.0 rows_of_lem.result rows_of_lem.ensures m.1)
