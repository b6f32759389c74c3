use native.Mathlib.Nat.{zero-add}
use native.Mathlib.Omega.{arith}
use borrow.Author.Rules.{rules}
use Rattle.rows.proofs.TableLaws.{standing}
use Rattle.delete_bound.proofs.TableBounds.{left_none, left_more, row_here}
use Rattle.delete_bound.proofs.rows_bound.Goals as goal

pub loop-j-init : goal.loop-j-init
loop-j-init c = (search rules, zero-add _)

pub overflow_mul-j : goal.overflow_mul-j
overflow_mul-j c =
    let here = row_here _ _ c.requires.0 _ c.requires.1 _ c.rows_of-table.ensures c.loop-j.j c.loop-j-test.true in
    omega (arith, here.within)

pub overflow_add-table : goal.overflow_add-table
overflow_add-table c =
    let here = row_here _ _ c.requires.0 _ c.requires.1 _ c.rows_of-table.ensures c.loop-j.j c.loop-j-test.true in
    omega (arith, here.within)

pub nat_at-state-requires : goal.nat_at-state-requires
nat_at-state-requires c =
    let here = row_here _ _ c.requires.0 _ c.requires.1 _ c.rows_of-table.ensures c.loop-j.j c.loop-j-test.true in
    omega (arith, here.within, here.some)

pub row_bound-bound-requires : goal.row_bound-bound-requires
row_bound-bound-requires c = c.cleared_columns-cleared.ensures.1

pub overflow_add-bound : goal.overflow_add-bound
overflow_add-bound c =
    let few = (standing _ _ c.requires.0 _ c.requires.1 _ c.rows_of-table.ensures).few in
    omega (arith, few, c.loop-j-test.true, c.row_bound-bound.ensures.1)

pub loop-j-preserved : goal.loop-j-preserved
loop-j-preserved c =
    let l = c.loop-j in
    let marks = c.cleared_columns-cleared.ensures in
    let more = left_more _ _ c.requires.0 _ c.requires.1 _ c.rows_of-table.ensures l.j c.loop-j-test.true marks.0 marks.1 c.nat_at-state.ensures c.row_bound-bound.ensures.0 in
    (omega (arith, c.row_bound-bound.ensures.1), omega (arith, more, l.invariant.1))

pub returns : goal.returns
returns c =
    let l = c.loop-j in
    let rows_of_lem = c.rows_of-table in
    let few = (standing _ _ c.requires.0 _ c.requires.1 _ rows_of_lem.ensures).few in
    let none = left_none _ _ c.requires.0 _ c.requires.1 _ rows_of_lem.ensures l.j c.loop-j-test.false in
    (omega (arith, none, l.invariant.1), omega (arith, few))
