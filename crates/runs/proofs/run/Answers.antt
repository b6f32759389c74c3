use mathlib.Core.Path.{◌≡◌, refl, ◌∙◌, ap}
use Prim.Native.Nat.{◌-◌, ◌<◌}
use native.Mathlib.Omega.{arith}
use borrow.Author.Rules.{rules}
use lib.ListN.{length}
use Rattle.runs.proofs.RunLaws.{reached_one, run_from, run_start, run_step, run_none, run_all_lem, calls_begin, calls_room}
use Rattle.runs.proofs.run.Goals as goal

pub loop-i-init : goal.loop-i-init
loop-i-init c =
    let calls_run = c.calls_run-n in
    (refl, refl, run_start c.args.schema.now c.args.calls.now calls_run.result (c.args.area.now, c.args.answers.now), c.is_fresh-reached.ensures)

pub run_call-requires : goal.run_call-requires
run_call-requires c =
    let calls_run = c.calls_run-n in
    let l = c.loop-i in
    let below : l.i < calls_run.result = search rules in
    let room = calls_room (length c.args.calls.now) (length c.args.answers.now) in
    (calls_begin (length c.args.calls.now) (length c.args.answers.now) l.i (omega (arith, below, calls_run.ensures)), omega (arith, below, calls_run.ensures, room, l.invariant.1), l.invariant.3)

pub loop-i-preserved : goal.loop-i-preserved
loop-i-preserved c =
    let calls_run = c.calls_run-n in
    let run_call = c.run_call in
    let l = c.loop-i in
    let n = calls_run.result in
    let below : l.i < n = search rules in
    let turn = run_step c.args.schema.now c.args.calls.now n l.i (l.area, l.answers) below run_call.ensures in
    (search rules, search rules, l.invariant.2 ∙ turn, λ e. reached_one c.args.calls.now l.i (l.area, l.answers) (l.invariant.3 e) run_call.ensures)

pub returns : goal.returns
returns c =
    let calls_run = c.calls_run-n in
    let a = c.args in
    let l = c.loop-i in
    let n = calls_run.result in
    let none : n - l.i ≡ 0 = omega (arith, c.loop-i-test.false) in
    let done = l.invariant.2 ∙ ap (λ k. run_from a.schema.now a.calls.now k l.i (l.area, l.answers)) none ∙ run_none a.schema.now a.calls.now l.i (l.area, l.answers) in
    run_all_lem a.schema.now a.calls.now a.area.now a.answers.now calls_run.ensures done
