use mathlib.Core.Path.{ap, ◌∙◌}
use lib.ListN.{length}
use Rattle.schema.specs.Records.{key_of}
use Rattle.schema.specs.Fields.{schema_of}
use Rattle.bridge.proofs.MapLaws.{child_plain}
use Rattle.rows.proofs.TableLaws.{parent_columns, parent_wide}
use Rattle.rows.proofs.ActionLaws.{fires_rest}
use Rattle.rows.proofs.fires.Goals as goal

pub key_folds-folded-requires : goal.key_folds-folded-requires
key_folds-folded-requires c =
    let p = c.requires.plain_key in
    let n = c.width-n in
    (parent_columns c.args.schema.now.bytes c.args.k p.whole_key n.result (n.ensures.0 ∙ ap length (child_plain _ p.plain)) c.parent_columns-ps.result c.parent_columns-ps.ensures, c.requires.parent_is)

pub key_changes-requires : goal.key_changes-requires
key_changes-requires c =
    let p = c.requires.plain_key in
    let n = c.width-n in
    let ps = c.parent_columns-ps in
    parent_wide c.args.schema.now.bytes c.args.k n.result ps.result (parent_columns c.args.schema.now.bytes c.args.k p.whole_key n.result (n.ensures.0 ∙ ap length (child_plain _ p.plain)) ps.result ps.ensures)

pub returns : goal.returns
returns c =
    let a = c.args in
    let p = c.requires.plain_key in
    let n = c.width-n in
    let ps = c.parent_columns-ps in
    let K = key_of (schema_of a.schema.now.bytes) a.k in
    c.key_changes.ensures
    ∙ fires_rest a.new a.t a.old K p.plain c.requires.parent_is p.whole_key.whole c.key_folds-folded.ensures
    (parent_columns a.schema.now.bytes a.k p.whole_key n.result (n.ensures.0 ∙ ap length (child_plain _ p.plain)) ps.result ps.ensures).parent_is
