use mathlib.Core.Path.{sym, ◌∙◌}
use native.Mathlib.Omega.{arith}
use Rattle.schema.specs.Fields.{schema_of}
use Rattle.rules.specs.Area.{view}
use Rattle.transactions.proofs.Turns as turn
use Rattle.transactions.proofs.Steps as step
use Rattle.transactions.proofs.begin.Goals as goal

pub nat_at-requires : goal.nat_at-requires
nat_at-requires c = omega (arith, step.area_long c.requires.fit)

pub returns-then-nat_at-ne0 : goal.returns-then-nat_at-ne0
returns-then-nat_at-ne0 c =
    let sc = schema_of c.args.schema.now.bytes in
    turn.turn_same c.requires.fit (turn.begin_inside sc (view sc c.args.area.now) (step.positive _ (λ z. c.if-nat_at-ne0.true (step.count_is c.requires.fit c.nat_at.ensures ∙ z))))

pub open_next-requires : goal.open_next-requires
open_next-requires c =
    (c.requires, (step.closed_some c.requires.fit (omega (arith, c.nat_at.ensures, c.if-nat_at-ne0.false)), omega arith))

pub returns : goal.returns
returns c =
    let Open-next = c.open_next in
    let sc = schema_of c.args.schema.now.bytes in
    let nat_at = c.nat_at in
    turn.turn_words Open-next.ensures (turn.begin_opens sc (view sc c.args.area.now) (sym (step.count_is c.requires.fit nat_at.ensures) ∙ c.if-nat_at-ne0.false) (step.closed_some c.requires.fit (omega (arith, nat_at.ensures, c.if-nat_at-ne0.false))))
