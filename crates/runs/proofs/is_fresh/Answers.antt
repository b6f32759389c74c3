use mathlib.Core.Path.{sym, ◌∙◌}
use mathlib.Core.Bool.{false≢true}
use Rattle.runs.proofs.FreshLaws.{blank_reached}
use Rattle.runs.proofs.is_fresh.Goals as goal

pub returns-then-n-eq0 : goal.returns-then-n-eq0
returns-then-n-eq0 c = λ e. absurd (false≢true e)

pub returns-then-area-n : goal.returns-then-area-n
returns-then-area-n c = λ e. absurd (false≢true e)

pub returns : goal.returns
returns c =
    let area_words = c.area_words-n in
    λ e. blank_reached c.args.schema.now c.args.area.now (λ z. c.if-n-eq0.false (area_words.ensures.0 ∙ z)) (c.if-area-n.false ∙ area_words.ensures.0) (sym c.all_zero_from.ensures ∙ e)
