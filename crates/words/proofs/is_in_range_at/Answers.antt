use mathlib.Core.Path.{◌∙◌, ap₂}
use mathlib.Core.Bool.{◌&&◌}
use lib.Dec.{leb}
use Rattle.words.proofs.Signed.{in_range_is}
use Rattle.words.proofs.is_in_range_at.Goals as goal

pub returns : goal.returns
returns c = ap₂ (λ x y. x && leb y c.args.n) c.is_natural_at.ensures c.nat_at.ensures ∙ in_range_is _ _
