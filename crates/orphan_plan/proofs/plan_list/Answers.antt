use mathlib.Core.Path.{sym, ◌∙◌}
use Rattle.std.proofs.lemmas.Result.{err_from_is_err_and}
use Rattle.bridge.proofs.QuestionLaws.{passes_sound}
use Rattle.orphan_plan.proofs.PlanLaws.{refused_area}
use Rattle.orphan_plan.proofs.plan_list.Goals as goal

pub returns-in_err-area_verdict : goal.returns-in_err-area_verdict
returns-in_err-area_verdict c =
    let a = c.args in
    let p = err_from_is_err_and c.from_residual.result c.from_residual.ensures.1 in
    rw (p.1, p.2) (refused_area a.schema.now a.area.now a.room _ (sym c.area_verdict.ensures ∙ c.in_err-area_verdict.was))

pub new-requires : goal.new-requires
new-requires c = (passes_sound _ _ (sym c.area_verdict.ensures ∙ c.in_ok-area_verdict.was)).ready.accepted

pub plan_rows-requires : goal.plan_rows-requires
plan_rows-requires c = rw c.new.ensures (passes_sound _ _ (sym c.area_verdict.ensures ∙ c.in_ok-area_verdict.was))
