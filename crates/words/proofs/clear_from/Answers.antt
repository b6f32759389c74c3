use mathlib.Core.Path.{◌∙◌}
use lib.IntN.{pos}
use Rattle.words.proofs.Splice.{sets_rest}
use Rattle.words.proofs.clear_from.Goals as goal

pub returns : goal.returns
returns c = c.clear_part.ensures ∙ sets_rest c.args.area.now c.args.from (pos 0) c.requires
