use mathlib.Core.Path.{◌≡◌, ◌∙◌}
use native.Mathlib.Omega.{arith}
use borrow.Author.Rules.{rules}
use Prim.Native.Nat.{◌≤◌}
use lib.ListN.{length, take}
use lib.Seq.{length-take-le}
use Rattle.schema.specs.Fields.{schema_of}
use Rattle.schema.specs.Records.{key_of}
use Rattle.rows.proofs.ChainLaws.{of_image}
use Rattle.rows.proofs.TableLaws.{child_table_lem, child_wide, parent_wide}
use Rattle.images.proofs.ImageLaws.{live_normal, child_is}
use Rattle.images.proofs.child_image.Goals as goal

pub refilled-x-requires : goal.refilled-x-requires
refilled-x-requires c =
    let a = c.args in
    let columns = c.requires.0 in
    let w = columns.parents.whole_key in
    let children = child_wide _ _ _ _ _ columns in
    let parents = parent_wide _ _ _ _ columns.parents in
    let many : length (take a.n a.cs) ≡ length (take a.n a.ps) = omega (arith, length-take-le a.n a.cs (omega (arith, children.few, children.size)), length-take-le a.n a.ps (omega (arith, parents.few, parents.size))) in
    (rw c.requires.1 (child_table_lem _ w.accepted _ w.key), ((of_image children, of_image parents), many))

pub columns-requires : goal.columns-requires
columns-requires c =
    let w = c.requires.0.parents.whole_key in
    rw c.requires.1 (child_table_lem _ w.accepted _ w.key)

pub returns : goal.returns
returns c =
    let S = schema_of c.args.schema.now.bytes in
    let few : c.columns.result ≤ 8 = c.columns.ensures.1.high in
    c.written.ensures
    ∙ live_normal c.columns.result c.refilled-x.result few (search rules)
    ∙ c.refilled-x.ensures c.columns.result few
    ∙ child_is _ S (key_of S c.args.k) _ _ c.requires.1 c.requires.0.child_is c.requires.0.parents.parent_is c.columns.ensures.0
