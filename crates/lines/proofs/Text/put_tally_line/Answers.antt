use Rattle.lines.specs.Text.{tally_line}
use Rattle.lines.proofs.TextLaws.{puts_then}
use Rattle.lines.proofs.Text.put_tally_line.Goals as goal

pub returns-clause-put : goal.returns-clause-put
unfolding tally_line
returns-clause-put c =
    puts_then _ _ (puts_then _ _ (puts_then _ _ (puts_then _ _ (puts_then _ _ (puts_then _ _ c.put.ensures.put c.put_decimal.ensures.put) c.put-2.ensures.put) c.put_decimal-2.ensures.put) c.put-3.ensures.put) c.put_decimal-3.ensures.put) c.put-4.ensures.put
