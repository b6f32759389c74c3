use mathlib.Core.Path.{◌≡◌, sym, ap, ◌∙◌}
use lib.ListN.{take}
use Rattle.schema.specs.Fields.{schema_of}
use Rattle.schema.specs.Records.{key_of}
use Rattle.schema.specs.declared.Match.{Match}
use Rattle.schema.specs.declared.Match.TheVariants.{Simple, Full}
use Rattle.rules.specs.Keys.{half_due}
use Rattle.constraints.proofs.is_half_due.Goals as goal

pub returns-in-Simple : goal.returns-in-Simple
unfolding half_due
returns-in-Simple c =
    let match_is : Simple ≡ (key_of (schema_of c.args.schema.now.bytes) c.args.k).match = sym c.in-Simple.is ∙ c.key_match.ensures in
    ap (λ (m : Match). half_due m (take c.args.n c.args.cs) c.args.image) match_is

pub returns-in-Full : goal.returns-in-Full
unfolding half_due
returns-in-Full c =
    let match_is : Full ≡ (key_of (schema_of c.args.schema.now.bytes) c.args.k).match = sym c.in-Full.is ∙ c.key_match.ensures in
    c.image_half_key.ensures ∙ ap (λ (m : Match). half_due m (take c.args.n c.args.cs) c.args.image) match_is
