use mathlib.Core.Path.{◌∙◌}
use Rattle.std.proofs.lemmas.Result.{err_from_is_err_and}
use Rattle.fresh_area.proofs.FreshLaws as law
use Rattle.fresh_area.proofs.make_fresh.Goals as goal

pub returns-in_err-schema : goal.returns-in_err-schema
returns-in_err-schema c =
    let p = err_from_is_err_and c.from_residual.result c.from_residual.ensures.1 in
    rw (p.1, p.2) (law.fresh_malformed c.args.schema.now c.args.area.now c.in_err-schema.ensures)

pub returns : goal.returns
returns c =
    let s = c.in_ok-schema.schema in
    let e = c.in_ok-schema.ensures in
    rw e at c.clear_area.ensures ∙ law.fresh_under c.args.schema.now c.args.area.now (rw e at s.accepted)
