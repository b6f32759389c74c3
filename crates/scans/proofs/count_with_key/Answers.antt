use native.Mathlib.Omega.{arith}
use Rattle.rules.specs.Lists.{one}
use Rattle.rows.specs.Sought.{has_sought}
use Rattle.scans.proofs.FirstLaws.{count_next, count_none_left}
use Rattle.scans.proofs.count_with_key.Goals as goal

pub loop-j-preserved : goal.loop-j-preserved
unfolding one
loop-j-preserved c =
    let l = c.loop-j.invariant in
    let found = rw c.in-Some.is at c.first_with_key.ensures in
    let more = count_next (has_sought c.args.key) c.args.area.now c.args.table (λ row h. h) found (found.1.found found.0) in
    (omega (arith, found.0), omega (arith, l.1, found.1.low), omega (arith, l.2, more))

pub returns : goal.returns
returns c =
    let l = c.loop-j.invariant in
    let none = count_none_left (has_sought c.args.key) c.args.area.now c.args.table (λ row h. h) (rw c.in_default.is at c.first_with_key.ensures) in
    (omega (arith, l.2, none), omega (arith, l.0, l.1))
