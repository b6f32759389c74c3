use mathlib.Core.Path.{sym}
use Rattle.std.specs.Prelude.{Ok}
use Rattle.std.proofs.lemmas.Result.{err_from_is_err_and}
use Rattle.bridge.proofs.QuestionLaws.{malformed_first}
use Rattle.questions.proofs.area_verdict.Goals as goal

pub returns-in_err-schema : goal.returns-in_err-schema
returns-in_err-schema c =
    let p = err_from_is_err_and c.from_residual.result c.from_residual.ensures.1 in
    rw (p.1, p.2) (sym (malformed_first c.args.schema.now c.args.area.now c.in_err-schema.ensures (Ok tt)))
