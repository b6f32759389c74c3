use mathlib.Core.Path.{sym, ◌∙◌}
use Rattle.std.specs.Prelude.{Ok}
use Rattle.bridge.proofs.SoundLaws.{sound_area}
use Rattle.bridge.proofs.QuestionLaws.{length_second, damage_third, sound_passes}
use Rattle.questions.proofs.words_verdict.Goals as goal

pub returns-then-area-area_length : goal.returns-then-area-area_length
returns-then-area-area_length c =
    sym (length_second c.args.schema.now.bytes c.args.area.now c.args.schema.now.accepted (λ z. c.if-area-area_length.true (z ∙ sym c.area_length.ensures.0)) (Ok tt))

pub returns-then-not-is_undamaged : goal.returns-then-not-is_undamaged
returns-then-not-is_undamaged c =
    let size = c.if-area-area_length.false ∙ c.area_length.ensures.0 in
    sym (damage_third c.args.schema.now.bytes c.args.area.now c.args.schema.now.accepted size (sym c.is_undamaged.ensures ∙ c.if-not-is_undamaged.true) (Ok tt))

pub returns : goal.returns
returns c =
    let size = c.if-area-area_length.false ∙ c.area_length.ensures.0 in
    sym (sound_passes c.args.schema.now.bytes c.args.area.now (sound_area c.args.schema.now.bytes c.args.area.now c.args.schema.now.accepted size (sym c.is_undamaged.ensures ∙ c.if-not-is_undamaged.false)) (Ok tt))
