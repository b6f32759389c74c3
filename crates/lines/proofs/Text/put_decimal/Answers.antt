use Rattle.std.proofs.Common.{◌≤◌, ◌∙◌, length-take, arith}
use Rattle.lines.proofs.TextLaws.{at_most_20, decimal_is, puts_as}
use Rattle.lines.proofs.Text.put_decimal.Goals as goal

pub returns-clause-put : goal.returns-clause-put
returns-clause-put c =
    let n = c.args.n in
    let k = c.decimal-k.result in
    puts_as (c.decimal-k.ensures.digits ∙ decimal_is k n c.decimal-k.ensures.len) c.put.ensures.put

pub returns-clause-used : goal.returns-clause-used
returns-clause-used c =
    let few : c.decimal-k.result ≤ 20 = at_most_20 c.decimal-k.result c.args.n c.ranges.n.fits c.decimal-k.ensures.len in
    rw c.put.ensures.used (simp length-take (omega (arith, few)))
