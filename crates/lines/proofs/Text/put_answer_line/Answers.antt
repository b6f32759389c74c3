use Rattle.std.proofs.Common.{◌≡◌, ap, arith}
use mir.ValLaws.{to_z-of_z}
use mir.Syntax.{w64}
use mir.Val.{to_z, of_z}
use Rattle.lines.specs.Text.{answer_line}
use Rattle.lines.proofs.TextLaws.{puts_as, puts_then}
use Rattle.lines.proofs.Text.put_answer_line.Goals as goal

pub returns-clause-put : goal.returns-clause-put
unfolding answer_line
returns-clause-put c =
    let f = c.args.figures in
    let net : to_z w64 (of_z w64 f.net) ≡ f.net = to_z-of_z w64 _ (record { sfits = omega arith }) in
    let text = puts_then _ _ (puts_then _ _ (puts_then _ _ (puts_then _ _ (puts_then _ _ c.put_decimal.ensures.put c.put.ensures.put) c.put_decimal-2.ensures.put) c.put-2.ensures.put) c.put_signed.ensures.put) c.put-3.ensures.put in
    puts_as (ap (answer_line f.code f.changed) net) text
