use mathlib.Core.Path.{sym, ap, ◌∙◌}
use native.Mathlib.Omega.{arith}
use Rattle.schema.specs.Fields.{schema_of}
use Rattle.schema.specs.Records.{key_of}
use Rattle.rules.specs.Change.{child_image}
use Rattle.change_parts.proofs.FollowerLaws.{child_stands, child_image_lem}
use Rattle.change_parts.proofs.PartLaws.{image_deleted, image_kept}
use Rattle.change_parts.proofs.child_after.Goals as goal

pub returns-then-deletes_child : goal.returns-then-deletes_child
returns-then-deletes_child c =
    let a = c.args in
    let s = schema_of a.schema.now.bytes in
    image_deleted s (key_of s a.k) a.new _ a.f.action (sym c.deletes_child.ensures ∙ c.if-deletes_child.true)

pub overflow_mul-j : goal.overflow_mul-j
overflow_mul-j c =
    let a = c.args in
    let stands = child_stands a.schema.now.bytes a.area.now c.requires.0.ready a.k a.new a.f c.requires.1 a.j c.requires.0.row in
    omega (arith, stands.within)

pub overflow_add-rows : goal.overflow_add-rows
overflow_add-rows c =
    let a = c.args in
    let stands = child_stands a.schema.now.bytes a.area.now c.requires.0.ready a.k a.new a.f c.requires.1 a.j c.requires.0.row in
    omega (arith, stands.within)

pub image_at-x-requires : goal.image_at-x-requires
image_at-x-requires c =
    let a = c.args in
    let stands = child_stands a.schema.now.bytes a.area.now c.requires.0.ready a.k a.new a.f c.requires.1 a.j c.requires.0.row in
    (omega (arith, stands.within), stands.narrow)

pub child_image-requires : goal.child_image-requires
child_image-requires c =
    let f = c.requires.1 in
    (f.columns.columns, f.table_is)

pub returns : goal.returns
returns c =
    let a = c.args in
    let sc = schema_of a.schema.now.bytes in
    let key = key_of sc a.k in
    let image_at = c.image_at-x in
    let deletes = c.deletes_child in
    let x = child_image_lem a.schema.now.bytes a.area.now c.requires.0.ready a.k a.new a.f c.requires.1 a.j c.requires.0.row image_at.ensures in
    c.child_image.ensures
    ∙ ap (child_image a.f.action sc key a.new) x
    ∙ image_kept sc key a.new _ a.f.action (sym deletes.ensures ∙ c.if-deletes_child.false)
