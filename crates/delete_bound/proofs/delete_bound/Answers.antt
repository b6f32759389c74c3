use mathlib.Core.Path.{sym, ◌∙◌}
use Rattle.words.proofs.Signed.{back}
use Rattle.bridge.proofs.QuestionLaws.{passes_sound}
use Rattle.delete_bound.proofs.TableBounds.{bound_refused, bound_passed}
use Rattle.delete_bound.proofs.delete_bound.Goals as goal

pub area_bound-requires : goal.area_bound-requires
area_bound-requires c = rw c.new.ensures (passes_sound _ _ (sym c.area_verdict.ensures ∙ c.in-Ok.is)).ready

pub new-requires : goal.new-requires
new-requires c = (passes_sound _ _ (sym c.area_verdict.ensures ∙ c.in-Ok.is)).ready.accepted

pub returns-in-Err : goal.returns-in-Err
returns-in-Err c =
    let a = c.args in
    let code = c.refusal_number in
    bound_refused a.schema.now a.area.now (sym c.area_verdict.ensures ∙ c.in-Err.is) (back _ code.type_inv ∙ code.ensures)

pub returns-in-Ok : goal.returns-in-Ok
returns-in-Ok c =
    let a = c.args in
    let word = c.word_of in
    bound_passed a.schema.now a.area.now (sym c.area_verdict.ensures ∙ c.in-Ok.is) (back _ word.type_inv ∙ word.ensures) (rw c.new.ensures at c.area_bound.ensures.0)
