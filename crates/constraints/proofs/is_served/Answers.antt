use mathlib.Core.Path.{refl, ◌∙◌}
use Rattle.schema.specs.Records.{key_of}
use Rattle.schema.specs.Fields.{schema_of}
use Rattle.rows.proofs.SoughtLaws.{sought_ready, any_sought}
use Rattle.rows.proofs.TableLaws.{rows_are, standing, child_wide, parent_in, parent_table}
use Rattle.constraints.proofs.ServedLaws.{some_columns, any_serving}
use Rattle.constraints.proofs.is_served.Goals as goal

pub sought_key-key-requires : goal.sought_key-key-requires
sought_key-key-requires c =
    (child_wide _ _ _ _ _ c.requires.1.0.0.columns, c.requires.0.1)

pub any_with_key-requires : goal.any_with_key-requires
any_with_key-requires c =
    let b = c.args.schema.now.bytes in
    let columns = c.requires.1.0.0.columns in
    let there = parent_table b c.args.k columns.parents.whole_key in
    let stands = standing b c.args.area.now c.requires.0.0 _ there c.args.parents c.requires.1.1 in
    (stands, sought_ready c.sought_key-key.ensures (some_columns _ _ _ _ _ columns) (parent_in _ _ _ _ columns.parents refl c.requires.1.1))

pub returns : goal.returns
returns c =
    let b = c.args.schema.now.bytes in
    let K = key_of (schema_of b) c.args.k in
    let columns = c.requires.1.0.0.columns in
    let rows = rows_are b c.args.area.now c.requires.0.0 K.parent (parent_table b c.args.k columns.parents.whole_key) c.args.parents c.requires.1.1 in
    c.any_with_key.ensures ∙ any_sought c.sought_key-key.ensures _ ∙ any_serving K c.requires.1.0.1.plain columns.child_is _ columns.parents.parent_is c.requires.1.0.0.folds_are rows
