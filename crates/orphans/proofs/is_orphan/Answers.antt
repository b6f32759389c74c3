use mathlib.Core.Path.{subst}
use native.Mathlib.Omega.{arith}
use Rattle.orphans.specs.KeyRows.{ColumnsOf}
use Rattle.orphans.proofs.OrphanLaws.{child_stands, child_judged}
use Rattle.orphans.proofs.is_orphan.Goals as goal

pub overflow_mul-j : goal.overflow_mul-j
overflow_mul-j c =
    let stands = child_stands _ _ _ c.requires.0 _ c.requires.1.0 c.args.j c.requires.1.1 in
    omega (arith, stands.within)

pub overflow_add-children : goal.overflow_add-children
overflow_add-children c =
    let stands = child_stands _ _ _ c.requires.0 _ c.requires.1.0 c.args.j c.requires.1.1 in
    omega (arith, stands.within)

pub image_at-image-requires : goal.image_at-image-requires
image_at-image-requires c =
    let stands = child_stands _ _ _ c.requires.0 _ c.requires.1.0 c.args.j c.requires.1.1 in
    (omega (arith, stands.within), stands.narrow)

-- by the columns of its kind
pub is_orphan_among-requires : goal.is_orphan_among-requires
unfolding ColumnsOf
is_orphan_among-requires c =
    let key = c.requires.1.0 in
    (c.requires.0, (subst (ColumnsOf c.args.schema.now.bytes c.args.k) c.in-Plain.is key.columns, key.parents))

pub is_orphan-requires : goal.is_orphan-requires
unfolding ColumnsOf
is_orphan-requires c =
    let key = c.requires.1.0 in
    ((c.requires.0, subst (ColumnsOf c.args.schema.now.bytes c.args.k) c.in-Windowed.is key.columns), key.parents)

pub returns-in-Plain : goal.returns-in-Plain
returns-in-Plain c =
    child_judged _ _ _ c.requires.0 _ c.requires.1.0 c.args.j c.requires.1.1 c.is_orphan_among.ensures c.image_at-image.ensures

pub returns-in-Windowed : goal.returns-in-Windowed
returns-in-Windowed c =
    child_judged _ _ _ c.requires.0 _ c.requires.1.0 c.args.j c.requires.1.1 c.is_orphan.ensures c.image_at-image.ensures
