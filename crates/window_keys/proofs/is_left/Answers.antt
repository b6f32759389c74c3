use mathlib.Core.Path.{sym, ◌∙◌}
use Rattle.windows.proofs.KeyDays.{window_in, serves_by_lem}
use Rattle.window_keys.proofs.OrphanLaws.{child_pairs_lem, parents_stand, serving_ready, other_serving}
use Rattle.window_keys.proofs.LeftLaws.{left_served, left_alone, left_others}
use Rattle.window_keys.proofs.is_left.Goals as goal

pub serves-requires : goal.serves-requires
serves-requires c = window_in _ _ _ c.requires.0.1

pub returns-then-serves : goal.returns-then-serves
returns-then-serves c =
    let serves = sym (serves_by_lem _ _ _ c.requires.0.1 c.args.child c.args.turn.new) ∙ sym c.serves.ensures ∙ c.if-serves.true in
    left_served _ _ _ _ c.args.turn.clear serves

pub returns-then-turn : goal.returns-then-turn
returns-then-turn c =
    let serves_not = sym (serves_by_lem _ _ _ c.requires.0.1 c.args.child c.args.turn.new) ∙ sym c.serves.ensures ∙ c.if-serves.false in
    left_alone _ _ _ _ serves_not c.if-turn.true

pub serving-requires : goal.serving-requires
serving-requires c =
    (window_in _ _ _ c.requires.0.1, (child_pairs_lem _ _ _ c.requires.0.1 _ c.requires.1.1).1)

pub other_on-requires : goal.other_on-requires
other_on-requires c =
    let columns = c.requires.0.1 in
    let rows = c.requires.1.0.0 in
    ((parents_stand _ _ _ columns _ c.requires.0.0 _ rows, c.requires.1.0.1), serving_ready _ _ _ columns _ c.requires.0.0 _ rows _ c.requires.1.1 c.serving.ensures.0 c.serving.ensures.1)

pub returns : goal.returns
returns c =
    let alone = c in
    let s = alone in
    let columns = s.requires.0.1 in
    let serves_not = sym (serves_by_lem _ _ _ columns s.args.child s.args.turn.new) ∙ sym alone.serves.ensures ∙ alone.if-serves.false in
    let others = c.other_on.ensures ∙ other_serving _ _ _ columns _ s.requires.0.0 _ s.requires.1.0.0 _ s.requires.1.1 c.serving.ensures.0 c.serving.ensures.1 s.args.turn.r in
    left_others _ _ _ _ serves_not c.if-turn.false others
