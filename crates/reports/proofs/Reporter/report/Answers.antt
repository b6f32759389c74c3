use mathlib.Core.Path.{◌∙◌}
use Rattle.lines.proofs.TextLaws.{puts_as}
use Rattle.reports.proofs.ReportLaws.{count_told, line_told}
use Rattle.reports.proofs.Reporter.report.Goals as goal

pub returns-clause-counted : goal.returns-clause-counted
returns-clause-counted c =
    let is = c.figures_of-figures.ensures in
    c.count.ensures ∙ count_told c.args.self.now.tally c.args.answer is.0 is.1

pub returns-clause-put : goal.returns-clause-put
returns-clause-put c =
    let is = c.figures_of-figures.ensures in
    puts_as (line_told c.args.answer is.0 is.1 is.2) c.put_answer_line.ensures.put
