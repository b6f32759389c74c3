use mathlib.Core.Path.{◌≡◌}
use Prim.Native.Nat.{◌^◌, ◌≤◌}
use native.Mathlib.Nat.{lt_of_lt_of_le}
use native.Mathlib.Omega.{arith}
use borrow.Author.Rules.{rules}
use lib.Pow.{pow_mono}
use Rattle.schema.specs.Records.{table_of}
use Rattle.schema.specs.Fields.{schema_of}
use Rattle.schema.proofs.MaskLaws.{marks_start, marks_more}
use Rattle.delete_bound.proofs.cleared_columns.Goals as goal

pub loop-c-init : goal.loop-c-init
loop-c-init c = marks_start _

pub marked-cleared-requires : goal.marked-cleared-requires
marked-cleared-requires c = (search rules, c.loop-c.invariant.below)

pub loop-c-preserved : goal.loop-c-preserved
loop-c-preserved c =
    let l = c.loop-c in
    rw c.marked-cleared.ensures (marks_more _ l.c l.cleared l.invariant _ c.is_cleared.ensures)

pub returns : goal.returns
returns c =
    let l = c.loop-c in
    let a = c.args in
    let e : l.c ≡ (table_of (schema_of a.schema.now.bytes) a.t).columns = omega (arith, c.loop-c-test.false, c.columns-c-end.ensures.0) in
    let few : 2 ^ l.c ≤ 256 = pow_mono {j = 8} (omega arith) in
    (rw e at l.invariant, lt_of_lt_of_le l.invariant.below few)
