use Rattle.windows.proofs.KeyDays.{pairs_number, window_columns}
use Rattle.windows.proofs.window_key.Goals as goal

pub pairs_of-pairs-requires : goal.pairs_of-pairs-requires
pairs_of-pairs-requires c =
    (c.requires.whole_key, pairs_number c.args.schema.now.bytes c.args.k c.requires c.width-n.ensures.0)

pub returns : goal.returns
returns c =
    let cs = c.child_columns-cs in
    let ps = c.parent_columns-ps in
    let n = pairs_number c.args.schema.now.bytes c.args.k c.requires c.width-n.ensures.0 in
    window_columns c.args.schema.now.bytes c.args.k c.requires n cs.result ps.result cs.ensures.0 ps.ensures.0 c.pairs_of-pairs.ensures
