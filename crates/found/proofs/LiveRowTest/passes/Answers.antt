use mathlib.Core.Path.{◌∙◌, ap}
use Rattle.rules.specs.Rows.{live_state}
use Rattle.rows.proofs.CellLaws.{live_in}
use Rattle.found.proofs.LiveRowTest.passes.Goals as goal

pub returns : goal.returns
returns c = c.is_live.ensures ∙ ap live_state c.nat_at.ensures ∙ live_in c.args.area.now c.args.p c.args.w c.requires.1
