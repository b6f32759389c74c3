use mathlib.Core.Path.{sym, ◌∙◌}
use native.Mathlib.Omega.{arith}
use Rattle.schema.specs.Fields.{schema_of}
use Rattle.rules.specs.Area.{view}
use Rattle.transactions.proofs.Turns as turn
use Rattle.transactions.proofs.Steps as step
use Rattle.transactions.proofs.savepoint.Goals as goal

pub nat_at-n-requires : goal.nat_at-n-requires
nat_at-n-requires c = omega (arith, step.area_long c.requires.ready.fit)

pub returns-then-n-eq9 : goal.returns-then-n-eq9
returns-then-n-eq9 c =
    let sc = schema_of c.args.schema.now.bytes in
    turn.turn_same c.requires.ready.fit (turn.savepoint_full sc (view sc c.args.area.now) (step.closed_none c.requires.ready.fit (sym c.nat_at-n.ensures ∙ c.if-n-eq9.true)))

pub opener_of-opener-requires : goal.opener_of-opener-requires
opener_of-opener-requires c = omega (arith, step.area_long c.requires.ready.fit)

pub open_next-requires : goal.open_next-requires
open_next-requires c =
    let opener_of = c.opener_of-opener in
    let nat_at = c.nat_at-n in
    (c.requires.ready, (step.closed_some c.requires.ready.fit (let k = step.levels_at_most c.requires.ready.fit in let ne = c.if-n-eq9.false in omega (arith, nat_at.ensures)), step.opener_small c.args.schema.now.bytes c.requires nat_at.ensures opener_of.ensures))

pub returns : goal.returns
returns c =
    let Open-next = c.open_next in
    let sc = schema_of c.args.schema.now.bytes in
    let nat_at = c.nat_at-n in
    let opener_of = c.opener_of-opener in
    turn.turn_words Open-next.ensures (turn.savepoint_opens sc (view sc c.args.area.now) opener_of.result (step.opener_is c.args.schema.now.bytes c.requires nat_at.ensures opener_of.ensures) (step.closed_some c.requires.ready.fit (let k = step.levels_at_most c.requires.ready.fit in let ne = c.if-n-eq9.false in omega (arith, nat_at.ensures))))
