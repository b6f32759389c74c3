use mathlib.Core.Path.{sym, ap, ap₂, ◌∙◌}
use Prim.Native.Nat.{◌-◌}
use native.Mathlib.Omega.{arith}
use borrow.Author.Rules.{rules}
use Rattle.rules.specs.State.{uses_rise}
use Rattle.area_form.specs.Damage.{lowest_levels}
use Rattle.area_form.proofs.DamageLaws.{rise_none, rise_stop, rise_go}
use Rattle.area_form.proofs.uses_rise.Goals as goal

pub loop-i-init : goal.loop-i-init
loop-i-init c =
    let nat_at = c.nat_at-above in
    (omega (arith, c.nat_at-i.ensures, c.requires.1), sym (ap₂ (λ u n. uses_rise u (lowest_levels n c.args.area.now)) nat_at.ensures c.nat_at-i.ensures))

pub returns-then-above-base : goal.returns-then-above-base
returns-then-above-base c =
    let l = c.loop-i in
    let loop_test = c.loop-i-test in
    let nat_at3 = c.nat_at-base in
    let a = c.args.area.now in
    sym (l.invariant.1 ∙ rise_stop a l.above l.i loop_test.true l.invariant.0 c.requires.0 (rw nat_at3.ensures at c.if-above-base.true))

pub loop-i-preserved : goal.loop-i-preserved
loop-i-preserved c =
    let l = c.loop-i in
    let loop_test = c.loop-i-test in
    let nat_at3 = c.nat_at-base in
    let a = c.args.area.now in
    (search rules, l.invariant.1 ∙ rise_go a l.above l.i loop_test.true l.invariant.0 c.requires.0 (rw nat_at3.ensures at c.if-above-base.false) ∙ ap (λ u. uses_rise u (lowest_levels (l.i - 1) a)) (sym nat_at3.ensures))

pub returns : goal.returns
returns c =
    let a = c.args.area.now in
    let l = c.loop-i in
    rise_none a l.above l.i (omega (arith, c.loop-i-test.false)) ∙ sym l.invariant.1
