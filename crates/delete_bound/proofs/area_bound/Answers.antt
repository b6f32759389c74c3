use mathlib.Core.Path.{◌∙◌}
use native.Mathlib.Nat.{zero-add}
use native.Mathlib.Omega.{arith}
use borrow.Author.Rules.{rules}
use Rattle.delete_bound.proofs.TableBounds.{all_left, tables_none, tables_more}
use Rattle.delete_bound.proofs.area_bound.Goals as goal

pub loop-t-init : goal.loop-t-init
loop-t-init c = (search rules, zero-add _ ∙ all_left _ _)

pub overflow_add-bound : goal.overflow_add-bound
overflow_add-bound c = omega (arith, c.table_count-t-end.ensures.1, c.loop-t-test.true, c.rows_bound-rows.ensures.1)

pub loop-t-preserved : goal.loop-t-preserved
loop-t-preserved c =
    let l = c.loop-t in
    let more = tables_more c.args.schema.now.bytes c.args.area.now c.requires l.t (omega (arith, c.table_count-t-end.ensures.0, c.loop-t-test.true)) in
    (omega (arith, c.rows_bound-rows.ensures.1), omega (arith, more, c.rows_bound-rows.ensures.0, l.invariant.1))

pub returns : goal.returns
returns c =
    let l = c.loop-t in
    let none = tables_none c.args.schema.now.bytes c.args.area.now c.requires l.t (omega (arith, c.table_count-t-end.ensures.0, c.loop-t-test.false)) in
    (omega (arith, none, l.invariant.1), omega (arith, c.table_count-t-end.ensures.1))
