use mathlib.Core.Path.{sym, ◌∙◌}
use native.Mathlib.Omega.{arith}
use mir.Syntax.{w64}
use mir.Val.{to_z, of_z}
use Rattle.schema.specs.Fields.{schema_of}
use Rattle.rules.specs.Area.{view}
use Rattle.words.proofs.Signed.{back}
use Rattle.transactions.proofs.Turns as turn
use Rattle.transactions.proofs.Steps as step
use Rattle.transactions.proofs.rollback.Goals as goal

pub nat_at-requires : goal.nat_at-requires
nat_at-requires c = omega (arith, step.area_long c.requires.0.ready.fit)

pub returns-then-nat_at-eq0 : goal.returns-then-nat_at-eq0
returns-then-nat_at-eq0 c =
    let sc = schema_of c.args.schema.now.bytes in
    turn.turn_same c.requires.0.ready.fit (turn.rollback_outside sc (view sc c.args.area.now) (sym (step.count_is c.requires.0.ready.fit c.nat_at.ensures) ∙ c.if-nat_at-eq0.true))

pub nat_at-used-requires : goal.nat_at-used-requires
nat_at-used-requires c = omega (arith, step.area_long c.requires.0.ready.fit)

pub net_to-net-requires : goal.net_to-net-requires
net_to-net-requires c =
    let b = c.args.schema.now.bytes in
    let nat_at = c.nat_at in
    ((step.area_long c.requires.0.ready.fit, omega arith), (step.kept_bound b c.requires.0, step.saved_bound b c.requires.0 0 (step.positive _ (λ z. c.if-nat_at-eq0.false (step.count_is c.requires.0.ready.fit nat_at.ensures ∙ z)))))

pub abort-requires : goal.abort-requires
abort-requires c =
    let nat_at = c.nat_at in
    (c.requires.0, (step.positive _ (λ z. c.if-nat_at-eq0.false (step.count_is c.requires.0.ready.fit nat_at.ensures ∙ z)), c.requires.1))

pub returns : goal.returns
returns c =
    let abort = c.abort in
    let sc = schema_of c.args.schema.now.bytes in
    let nat_at = c.nat_at in
    let nat_at2 = c.nat_at-used in
    let net_to = c.net_to-net in
    turn.turn_words abort.ensures (turn.rollback_inside sc (view sc c.args.area.now) (step.positive _ (λ z. c.if-nat_at-eq0.false (step.count_is c.requires.0.ready.fit nat_at.ensures ∙ z))) ∙ step.abort_answer c.requires.0.ready.fit (step.positive _ (λ z. c.if-nat_at-eq0.false (step.count_is c.requires.0.ready.fit nat_at.ensures ∙ z))) nat_at2.result (to_z w64 (of_z w64 net_to.result)) (step.used_is c.requires.0.ready.fit nat_at2.ensures) (back _ net_to.type_inv ∙ net_to.ensures))
