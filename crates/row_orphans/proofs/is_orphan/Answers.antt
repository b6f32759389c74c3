use mathlib.Core.Path.{sym, ◌∙◌, subst}
use mathlib.Core.List.{[]}
use Prim.Native.Nat.{ℕ}
use lib.ListN.{get_or}
use Rattle.schema.specs.Records.{key_of}
use Rattle.schema.specs.Fields.{schema_of}
use Rattle.bridge.specs.Fit.{work_of}
use Rattle.bridge.proofs.NullKeys.{vacant_orphan}
use Rattle.rows.specs.Standing.{RowsOf}
use Rattle.rows.proofs.TableLaws.{parent_table}
use Rattle.row_orphans.proofs.is_orphan.Goals as goal

pub returns-then-not-image_live : goal.returns-then-not-image_live
returns-then-not-image_live c =
    let a = c.args in
    let k = key_of (schema_of a.schema.now.bytes) a.k in
    let tabs = (work_of (schema_of a.schema.now.bytes) a.area.now).tabs in
    sym (vacant_orphan k (get_or tabs k.parent []) a.image (sym c.image_live.ensures ∙ c.if-not-image_live.true))

pub rows_of-parents-requires : goal.rows_of-parents-requires
rows_of-parents-requires c =
    let whole = c.requires.1.whole_key in
    rw c.parent.ensures (parent_table _ _ whole)

pub window_key-key-requires : goal.window_key-key-requires
window_key-key-requires c = c.requires.1.window c.if-windowed.true

pub is_orphan-requires : goal.is_orphan-requires
is_orphan-requires c =
    let parents = c.rows_of-parents in
    ((c.requires.0, c.window_key-key.ensures), subst (λ (t : ℕ). RowsOf c.args.schema.now.bytes t parents.result) c.parent.ensures parents.ensures)

pub key_pairs-pairs-requires : goal.key_pairs-pairs-requires
key_pairs-pairs-requires c = c.requires.1.plain c.if-windowed.false

pub is_orphan_image-requires : goal.is_orphan_image-requires
is_orphan_image-requires c = (c.requires.0, (c.key_pairs-pairs.ensures, c.requires.1.plain c.if-windowed.false))
