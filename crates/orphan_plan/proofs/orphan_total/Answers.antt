use native.Mathlib.Nat.{zero-add}
use native.Mathlib.Omega.{arith}
use borrow.Author.Rules.{rules}
use Rattle.schema.specs.Fields.{schema_of}
use Rattle.orphan_plan.proofs.PlanLaws.{tables_in, total_none, total_more}
use Rattle.orphan_plan.proofs.orphan_total.Goals as goal

pub loop-k-init : goal.loop-k-init
loop-k-init c = (search rules, zero-add _)

pub loop-k-preserved : goal.loop-k-preserved
loop-k-preserved c =
    let b = c.args.schema.now.bytes in
    let l = c.loop-k in
    let more = total_more (tables_in b c.args.area.now) (schema_of b).keys l.k (omega (arith, c.key_count-k-end.ensures.0, c.loop-k-test.true)) in
    (omega arith, omega (arith, more))

pub returns : goal.returns
returns c =
    let b = c.args.schema.now.bytes in
    let l = c.loop-k in
    let none = total_none (tables_in b c.args.area.now) (schema_of b).keys l.k (omega (arith, c.key_count-k-end.ensures.0, c.loop-k-test.false)) in
    omega (arith, none, l.invariant.1)
