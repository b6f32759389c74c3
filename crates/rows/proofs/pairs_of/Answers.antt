use mathlib.Core.Path.{sym}
use Rattle.rows.proofs.TableLaws.{parent_columns, key_columns}
use Rattle.rows.proofs.pairs_of.Goals as goal

pub key_folds-folded-requires : goal.key_folds-folded-requires
key_folds-folded-requires c =
    let ps = c.parent_columns-ps in
    (parent_columns c.args.schema.now.bytes c.args.k c.requires.0 c.args.n c.requires.1 ps.result ps.ensures, sym c.parent.ensures)

pub returns : goal.returns
returns c =
    let ps = c.parent_columns-ps in
    let cs = c.child_columns-cs in
    key_columns c.args.schema.now.bytes c.args.k c.requires.0 c.args.n c.requires.1 ps.result ps.ensures cs.result cs.ensures c.key_folds-folded.ensures
