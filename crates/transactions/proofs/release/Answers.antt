use mathlib.Core.Path.{sym, ap, ◌∙◌}
use native.Mathlib.Omega.{arith}
use borrow.Author.Tests.{ne_eqb}
use Rattle.schema.specs.Fields.{schema_of}
use Rattle.rules.specs.Area.{view, on_words}
use Rattle.transactions.proofs.Turns as turn
use Rattle.transactions.proofs.Steps as step
use Rattle.transactions.proofs.release.Goals as goal

pub returns-then-not-is_open : goal.returns-then-not-is_open
returns-then-not-is_open c =
    let sc = schema_of c.args.schema.now.bytes in
    turn.turn_same c.requires.0.fit (turn.release_refused sc (view sc c.args.area.now) c.args.a (sym c.is_open.ensures ∙ c.if-not-is_open.true))

pub returns-then-a-eq1 : goal.returns-then-a-eq1
returns-then-a-eq1 c =
    let sc = schema_of c.args.schema.now.bytes in
    let is_open = c.is_open in
    c.commit_now.ensures
    ∙ sym (ap on_words (turn.release_first sc (view sc c.args.area.now) c.args.a (sym is_open.ensures ∙ c.if-not-is_open.false) c.if-a-eq1.true))

pub nat_at-n-requires : goal.nat_at-n-requires
nat_at-n-requires c = omega (arith, step.area_long c.requires.0.fit)

pub overflow_add-n : goal.overflow_add-n
overflow_add-n c = omega (arith, c.nat_at-n.ensures, step.levels_at_most c.requires.0.fit)

pub overflow_sub-n : goal.overflow_sub-n
overflow_sub-n c =
    let is_open = c.is_open in
    omega (arith, step.count_is c.requires.0.fit c.nat_at-n.ensures, step.level_below c.requires.0.fit c.args.a (sym is_open.ensures ∙ c.if-not-is_open.false))

pub close_levels-requires : goal.close_levels-requires
close_levels-requires c =
    let nat_at = c.nat_at-n in
    let is_open = c.is_open in
    (step.area_long c.requires.0.fit, (omega (arith, nat_at.ensures, c.requires.1.0, step.level_below c.requires.0.fit c.args.a (sym is_open.ensures ∙ c.if-not-is_open.false)), step.levels_at_most c.requires.0.fit))

pub returns : goal.returns
returns c =
    let close_levels = c.close_levels in
    let sc = schema_of c.args.schema.now.bytes in
    let is_open = c.is_open in
    let nat_at = c.nat_at-n in
    turn.turn_words (step.release_holds c.requires.0.fit nat_at.result c.args.a nat_at.ensures c.requires.1.0 (omega (arith, step.count_is c.requires.0.fit nat_at.ensures, step.level_below c.requires.0.fit c.args.a (sym is_open.ensures ∙ c.if-not-is_open.false))) close_levels.ensures) (turn.release_closes sc (view sc c.args.area.now) c.args.a (sym is_open.ensures ∙ c.if-not-is_open.false) (ne_eqb _ 1 c.if-a-eq1.false))
