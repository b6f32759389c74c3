use mathlib.Core.Path.{sym, ◌∙◌}
use Rattle.schema.proofs.FieldLaws.{same_width}
use Rattle.rows.proofs.TableLaws.{child_wide}
use Rattle.constraints.proofs.ServedLaws.{orphan_half, orphan_full}
use Rattle.constraints.proofs.is_orphan_among.Goals as goal

pub image_full_key-requires : goal.image_full_key-requires
image_full_key-requires c = child_wide _ _ _ _ _ c.requires.1.0.0.columns

pub is_half_due-requires : goal.is_half_due-requires
is_half_due-requires c =
    let columns = c.requires.1.0.0.columns in
    (columns.parents.whole_key.key, child_wide _ _ _ _ _ columns)

pub returns-else-image_full_key : goal.returns-else-image_full_key
returns-else-image_full_key c =
    let columns = c.requires.1.0.0.columns in
    let same = sym (same_width c.args.schema.now.bytes columns.parents.whole_key.accepted c.args.k columns.parents.whole_key.key) in
    orphan_half _ c.requires.1.0.1.plain columns.child_is _ columns.parents.whole_key.whole _ c.image_full_key.ensures same c.if-image_full_key.false c.is_half_due.ensures

pub is_served-requires : goal.is_served-requires
is_served-requires c =
    ((c.requires.0, sym c.image_full_key.ensures ∙ c.if-image_full_key.true), c.requires.1)

pub returns-then-image_full_key : goal.returns-then-image_full_key
returns-then-image_full_key c =
    let p = c.requires.1.0 in
    let columns = p.0.columns in
    orphan_full _ p.1.plain columns.child_is _ columns.parents.whole_key.whole _ c.image_full_key.ensures c.is_served.ensures c.if-image_full_key.true
