use Rattle.std.proofs.lemmas.Result.{err_from_is_err_and}
use Rattle.statements.proofs.StatementLaws as law
use Rattle.statements.proofs.settle_made.Goals as goal

pub returns-in_err-made : goal.returns-in_err-made
returns-in_err-made c = let p = err_from_is_err_and c.from_residual.result c.from_residual.ensures.1 in rw (p.1, p.2) (law.made_refused _ _ _ _ c.in_err-made.was)

pub returns : goal.returns
returns c = (law.made_passed c.in_ok-made.was c.settle.ensures.0, c.settle.ensures.1)
