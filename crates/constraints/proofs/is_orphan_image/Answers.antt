use mathlib.Core.Path.{sym, ◌∙◌, subst}
use Prim.Native.Nat.{ℕ}
use Rattle.rows.specs.Standing.{RowsOf}
use Rattle.schema.proofs.FieldLaws.{same_width}
use Rattle.rows.proofs.TableLaws.{child_wide, parent_table}
use Rattle.constraints.proofs.ServedLaws.{orphan_half, orphan_full}
use Rattle.constraints.proofs.is_orphan_image.Goals as goal

pub image_full_key-requires : goal.image_full_key-requires
image_full_key-requires c = child_wide _ _ _ _ _ c.requires.1.0.columns

pub is_half_due-requires : goal.is_half_due-requires
is_half_due-requires c =
    let columns = c.requires.1.0.columns in
    (columns.parents.whole_key.key, child_wide _ _ _ _ _ columns)

pub returns-else-image_full_key : goal.returns-else-image_full_key
returns-else-image_full_key c =
    let columns = c.requires.1.0.columns in
    let same = sym (same_width c.args.schema.now.bytes columns.parents.whole_key.accepted c.args.k columns.parents.whole_key.key) in
    orphan_half _ c.requires.1.1.plain columns.child_is _ columns.parents.whole_key.whole _ c.image_full_key.ensures same c.if-image_full_key.false c.is_half_due.ensures

pub rows_of-parents-requires : goal.rows_of-parents-requires
rows_of-parents-requires c =
    rw c.parent.ensures (parent_table _ _ c.requires.1.0.columns.parents.whole_key)

pub is_served-requires : goal.is_served-requires
is_served-requires c =
    let parents = c.rows_of-parents in
    let full = sym c.image_full_key.ensures ∙ c.if-image_full_key.true in
    ((c.requires.0, full), (c.requires.1, subst (λ (t : ℕ). RowsOf c.args.schema.now.bytes t parents.result) c.parent.ensures parents.ensures))

pub returns-then-image_full_key : goal.returns-then-image_full_key
returns-then-image_full_key c =
    orphan_full _ c.requires.1.1.plain c.requires.1.0.columns.child_is _ c.requires.1.0.columns.parents.whole_key.whole _ c.image_full_key.ensures c.is_served.ensures c.if-image_full_key.true
