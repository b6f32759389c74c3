use mathlib.Core.Path.{ap, ◌∙◌}
use lib.ListN.{length}
use Rattle.bridge.proofs.MapLaws.{child_plain}
use Rattle.rows.proofs.key_pairs.Goals as goal

pub pairs_of-requires : goal.pairs_of-requires
pairs_of-requires c = let p = c.requires in (p.whole_key, c.width.ensures.0 ∙ ap length (child_plain _ p.plain))

pub returns : goal.returns
returns c = c.pairs_of.ensures
