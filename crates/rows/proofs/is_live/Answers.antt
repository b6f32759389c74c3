use mathlib.Core.Path.{ap₂, ◌∙◌}
use mathlib.Core.Bool.{◌&&◌}
use Rattle.rules.specs.Rows.{live_state}
use Rattle.rows.proofs.ChainLaws.{upto_is, below_is}
use Rattle.rows.proofs.is_live.Goals as goal

pub returns : goal.returns
unfolding live_state
returns c = c.contains.ensures.value ∙ ap₂ ◌&&◌ (upto_is 256 c.args.state) (below_is c.args.state 512)
