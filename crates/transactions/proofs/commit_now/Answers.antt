use mathlib.Core.Path.{sym, ap, ◌∙◌}
use native.Mathlib.Omega.{arith}
use Rattle.schema.specs.Fields.{schema_of}
use Rattle.rules.specs.Values.{all_zero}
use Rattle.rules.specs.Area.{view}
use Rattle.transactions.proofs.Turns as turn
use Rattle.transactions.proofs.Steps as step
use Rattle.transactions.proofs.commit_now.Goals as goal

pub numbers_at-kept-requires : goal.numbers_at-kept-requires
numbers_at-kept-requires c = omega (arith, step.area_long c.requires.0.fit)

pub returns-then-not-all_zero : goal.returns-then-not-all_zero
returns-then-not-all_zero c =
    let numbers_at = c.numbers_at-kept in
    let all_zero_lem = c.all_zero in
    let sc = schema_of c.args.schema.now.bytes in
    let a = c.args.area.now in
    turn.turn_same c.requires.0.fit (turn.commit_refused sc (view sc a) (ap all_zero (step.kept_at sc a ∙ sym numbers_at.ensures) ∙ sym all_zero_lem.ensures ∙ c.if-not-all_zero.true))

pub returns : goal.returns
returns c =
    let sc = schema_of c.args.schema.now.bytes in
    let a = c.args.area.now in
    let numbers_at = c.numbers_at-kept in
    let all_zero_lem = c.all_zero in
    turn.turn_words c.end.ensures (turn.commit_ends sc (view sc a) (ap all_zero (step.kept_at sc a ∙ sym numbers_at.ensures) ∙ sym all_zero_lem.ensures ∙ c.if-not-all_zero.false))
