use borrow.Author.Rules.{rules}
use Rattle.runs.proofs.RunLaws.{calls_first, calls_second}
use Rattle.runs.proofs.calls_run.Goals as goal

pub returns-then-calls-answers : goal.returns-then-calls-answers
returns-then-calls-answers c = let a = c.args in calls_first a.words a.room (search rules)

pub returns : goal.returns
returns c = let a = c.args in calls_second a.words a.room (search rules)
