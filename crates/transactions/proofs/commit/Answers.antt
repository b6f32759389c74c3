use mathlib.Core.Path.{sym, ap, ◌∙◌}
use native.Mathlib.Omega.{arith}
use Rattle.schema.specs.Fields.{schema_of}
use Rattle.rules.specs.Area.{view, on_words}
use Rattle.transactions.proofs.Turns as turn
use Rattle.transactions.proofs.Steps as step
use Rattle.transactions.proofs.commit.Goals as goal

pub nat_at-requires : goal.nat_at-requires
nat_at-requires c = omega (arith, step.area_long c.requires.0.fit)

pub returns-then-nat_at-eq0 : goal.returns-then-nat_at-eq0
returns-then-nat_at-eq0 c =
    let sc = schema_of c.args.schema.now.bytes in
    turn.turn_same c.requires.0.fit (turn.commit_outside sc (view sc c.args.area.now) (sym (step.count_is c.requires.0.fit c.nat_at.ensures) ∙ c.if-nat_at-eq0.true))

pub returns : goal.returns
returns c =
    let sc = schema_of c.args.schema.now.bytes in
    let nat_at = c.nat_at in
    c.commit_now.ensures
    ∙ sym (ap on_words (turn.commit_inside sc (view sc c.args.area.now) (step.positive _ (λ z. c.if-nat_at-eq0.false (step.count_is c.requires.0.fit nat_at.ensures ∙ z)))))
