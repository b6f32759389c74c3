use mathlib.Core.Path.{ap, ◌∙◌}
use Rattle.words.proofs.Signed.{back}
use Rattle.rules.specs.Values.{nat_of}
use Rattle.rows.proofs.CellLaws.{live_is}
use Rattle.rows.proofs.image_live.Goals as goal

pub returns : goal.returns
returns c =
    c.is_live.ensures
    ∙ live_is _ (c.nat_of.ensures ∙ ap nat_of (back _ c.nat_of-arg-1.given))
