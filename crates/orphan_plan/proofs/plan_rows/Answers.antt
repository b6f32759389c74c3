use Rattle.orphan_plan.proofs.PlanLaws.{too_short, planned}
use Rattle.orphan_plan.proofs.plan_rows.Goals as goal

pub returns-then-is_short : goal.returns-then-is_short
returns-then-is_short c =
    let orphan_total = c.orphan_total-total in
    too_short c.args.schema.now.bytes c.args.area.now c.args.room c.requires orphan_total.result orphan_total.ensures c.if-is_short.true

pub returns : goal.returns
returns c =
    let orphan_total = c.orphan_total-total in
    planned c.args.schema.now.bytes c.args.area.now c.args.room c.requires orphan_total.result orphan_total.ensures c.if-is_short.false c.start.ensures
