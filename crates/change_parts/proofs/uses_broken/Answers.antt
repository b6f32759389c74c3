use mathlib.Core.Path.{◌∙◌}
use Rattle.change_parts.proofs.PartLaws as law
use Rattle.change_parts.proofs.uses_broken.Goals as goal

pub returns-then-broken-eq0 : goal.returns-then-broken-eq0
returns-then-broken-eq0 c =
    law.none_broken c.args.schema.now.bytes c.args.image c.args.t _ c.requires.1 c.if-broken-eq0.true

pub returns : goal.returns
returns c =
    c.uses_broken.ensures ∙ law.used_broken c.args.schema.now.bytes c.args.image c.args.t _ c.image_live-lives.ensures c.is_live_row-lived.ensures
