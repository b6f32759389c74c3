use mathlib.Core.Path.{ap₂, ◌∙◌}
use Prim.Native.Nat.{ℕ}
use Rattle.rules.specs.Change.{mask_broken}
use Rattle.rows.specs.Standing.{rows_in}
use Rattle.rows.proofs.MaskLaws.{unique_inside}
use Rattle.rows.proofs.TableLaws.{standing}
use Rattle.constraints.proofs.key_broken.Goals as goal

pub mask_broken-requires : goal.mask_broken-requires
mask_broken-requires c =
    let a = c.args in
    let p = c.requires.0 in
    let o = c.requires.1.0 in
    let inside = unique_inside a.schema.now.bytes p.ready.accepted a.t p.table a.u c.requires.1.1 in
    let stands = standing a.schema.now.bytes a.area.now p.ready a.t p.table a.table o in
    let mask = c.unique_mask-m.ensures in
    ((stands, rw o.count_is p.row), (rw (o.width_is, mask.0) inside, mask.1))

pub returns : goal.returns
returns c =
    let a = c.args in
    c.mask_broken.ensures
    ∙ ap₂ (λ (f m : ℕ). mask_broken f a.r a.image (rows_in a.area.now a.table) m) c.folded-folded.ensures.0 c.unique_mask-m.ensures.0
