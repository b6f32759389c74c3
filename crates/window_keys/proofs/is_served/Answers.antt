use mathlib.Core.Path.{◌∙◌}
use Rattle.windows.proofs.KeyDays.{window_in}
use Rattle.window_keys.proofs.OrphanLaws.{child_pairs_lem, parents_stand, serving_ready, any_serving}
use Rattle.window_keys.proofs.is_served.Goals as goal

pub serving-requires : goal.serving-requires
serving-requires c =
    (window_in _ _ _ c.requires.0.1, (child_pairs_lem _ _ _ c.requires.0.1 _ c.requires.1.1).1)

pub any_on-requires : goal.any_on-requires
any_on-requires c =
    let columns = c.requires.0.1 in
    (parents_stand _ _ _ columns _ c.requires.0.0 _ c.requires.1.0, serving_ready _ _ _ columns _ c.requires.0.0 _ c.requires.1.0 _ c.requires.1.1 c.serving.ensures.0 c.serving.ensures.1)

pub returns : goal.returns
returns c =
    c.any_on.ensures ∙ any_serving _ _ _ c.requires.0.1 _ c.requires.0.0 _ c.requires.1.0 _ c.requires.1.1 c.serving.ensures.0 c.serving.ensures.1
