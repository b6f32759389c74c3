use mathlib.Core.Path.{◌≡◌, sym, ap, ◌∙◌}
use Prim.Native.Nat.{ℕ, ◌-◌, ◌≤◌}
use native.Mathlib.Omega.{arith}
use lib.ListN.{length}
use mir.Syntax.{w64}
use mir.Val.{to_z, of_z}
use Rattle.schema.specs.Fields.{schema_of}
use Rattle.rules.specs.Book as rules-book
use Rattle.rules.specs.Step.{rolled}
use Rattle.rules.specs.Area.{view}
use Rattle.words.proofs.Signed.{back}
use Rattle.transactions.proofs.Turns as turn
use Rattle.transactions.proofs.Steps as step
use Rattle.transactions.proofs.rollback_to.Goals as goal

pub returns-then-not-is_open : goal.returns-then-not-is_open
returns-then-not-is_open c =
    let sc = schema_of c.args.schema.now.bytes in
    turn.turn_same c.requires.0.ready.fit (turn.back_refused sc (view sc c.args.area.now) c.args.a (sym c.is_open.ensures ∙ c.if-not-is_open.true))

pub nat_at-n-requires : goal.nat_at-n-requires
nat_at-n-requires c = omega (arith, step.area_long c.requires.0.ready.fit)

pub nat_at-used-requires : goal.nat_at-used-requires
nat_at-used-requires c = omega (arith, step.area_long c.requires.0.ready.fit)

pub overflow_mul-a : goal.overflow_mul-a
overflow_mul-a c =
    let is_open = c.is_open in
    omega (arith, step.few c.requires.0.ready.fit, (step.level_below c.requires.0.ready.fit c.args.a (sym is_open.ensures ∙ c.if-not-is_open.false)))

pub overflow_add-a : goal.overflow_add-a
overflow_add-a c =
    let is_open = c.is_open in
    omega (arith, step.few c.requires.0.ready.fit, (step.level_below c.requires.0.ready.fit c.args.a (sym is_open.ensures ∙ c.if-not-is_open.false)))

pub nat_at-base-requires : goal.nat_at-base-requires
nat_at-base-requires c =
    let is_open = c.is_open in
    omega (arith, step.few c.requires.0.ready.fit, (step.level_below c.requires.0.ready.fit c.args.a (sym is_open.ensures ∙ c.if-not-is_open.false)), step.area_long c.requires.0.ready.fit)

pub net_to-net-requires : goal.net_to-net-requires
net_to-net-requires c =
    let b = c.args.schema.now.bytes in
    let is_open = c.is_open in
    ((step.area_long c.requires.0.ready.fit, omega (arith, step.few c.requires.0.ready.fit, (step.level_below c.requires.0.ready.fit c.args.a (sym is_open.ensures ∙ c.if-not-is_open.false)))), (step.kept_bound b c.requires.0, step.saved_bound b c.requires.0 (c.args.a - 1) (omega (arith, c.requires.1, (step.level_below c.requires.0.ready.fit c.args.a (sym is_open.ensures ∙ c.if-not-is_open.false))))))

pub overflow_sub-n : goal.overflow_sub-n
overflow_sub-n c =
    let is_open = c.is_open in
    let nat_at = c.nat_at-n in
    omega (arith, (step.level_below c.requires.0.ready.fit c.args.a (sym is_open.ensures ∙ c.if-not-is_open.false)), step.count_is c.requires.0.ready.fit nat_at.ensures)

pub back_to-requires : goal.back_to-requires
back_to-requires c =
    let is_open = c.is_open in
    let nat_at = c.nat_at-n in
    let nat_at3 = c.nat_at-base in
    (c.requires.0, (omega (arith, c.requires.1, (step.level_below c.requires.0.ready.fit c.args.a (sym is_open.ensures ∙ c.if-not-is_open.false)), step.count_is c.requires.0.ready.fit nat_at.ensures), nat_at3.ensures))

pub overflow_sub-changed : goal.overflow_sub-changed
overflow_sub-changed c =
    let is_open = c.is_open in
    let nat_at2 = c.nat_at-used in
    let nat_at3 = c.nat_at-base in
    omega (arith, step.used_is c.requires.0.ready.fit nat_at2.ensures, nat_at3.ensures, step.base_bound c.args.schema.now.bytes c.requires.0 (c.args.a - 1) (omega (arith, c.requires.1, (step.level_below c.requires.0.ready.fit c.args.a (sym is_open.ensures ∙ c.if-not-is_open.false)))))

pub returns : goal.returns
returns c =
    let is_open = c.is_open in
    let nat_at = c.nat_at-n in
    let nat_at2 = c.nat_at-used in
    let nat_at3 = c.nat_at-base in
    let net_to = c.net_to-net in
    let back_to = c.back_to in
    let le : nat_at3.result ≤ nat_at2.result = omega (arith, step.used_is c.requires.0.ready.fit nat_at2.ensures, nat_at3.ensures, step.base_bound c.args.schema.now.bytes c.requires.0 (c.args.a - 1) (omega (arith, c.requires.1, (step.level_below c.requires.0.ready.fit c.args.a (sym is_open.ensures ∙ c.if-not-is_open.false))))) in
    let e : nat_at.result - c.args.a ≡ length (view (schema_of c.args.schema.now.bytes) c.args.area.now).levels - c.args.a = ap (λ (n : ℕ). n - c.args.a) (step.count_is c.requires.0.ready.fit nat_at.ensures) in
    turn.turn_words back_to.ensures
    (turn.back_rolls (schema_of c.args.schema.now.bytes) (view (schema_of c.args.schema.now.bytes) c.args.area.now) c.args.a (sym is_open.ensures ∙ c.if-not-is_open.false)
    ∙ ap (λ (k : ℕ). rolled (rules-book.back k (view (schema_of c.args.schema.now.bytes) c.args.area.now)) (view (schema_of c.args.schema.now.bytes) c.args.area.now)) (sym e)
    ∙ step.back_answer c.requires.0.ready.fit (c.args.a - 1) (nat_at.result - c.args.a) nat_at3.result (omega (arith, c.requires.1, (step.level_below c.requires.0.ready.fit c.args.a (sym is_open.ensures ∙ c.if-not-is_open.false)), step.count_is c.requires.0.ready.fit nat_at.ensures)) nat_at3.ensures nat_at2.result (to_z w64 (of_z w64 net_to.result)) (step.used_is c.requires.0.ready.fit nat_at2.ensures) le (back _ net_to.type_inv ∙ net_to.ensures))
