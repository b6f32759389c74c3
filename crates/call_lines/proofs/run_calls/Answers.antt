use borrow.Author.Rules.{rules}
use Rattle.std.proofs.Common.{◌≡◌, ◌-◌, ◌<◌, length, sym, ◌∙◌, ap, arith}
use Rattle.lines.proofs.TextLaws.{same_then}
use Rattle.call_lines.specs.Runs.{call_at, call_count, run_at}
use Rattle.call_lines.proofs.RunLaws.{count_up, one_call, reached_ran, run_from, run_none, run_step, run_all_lem}
use Rattle.call_lines.proofs.run_calls.Goals as goal

pub loop-i-init : goal.loop-i-init
loop-i-init c =
    let a = c.args in
    let bytes = a.bytes.now in
    let r = run_at a.area.now a.reporter.now in
    let all : c.div_ceil-i-end.result - 0 ≡ call_count (length bytes) = omega (arith, c.div_ceil-i-end.ensures, count_up (length bytes)) in
    record {
      led = ap (λ m. run_from a.schema.now bytes m 0 r) all ∙ run_all_lem a.schema.now bytes r;
      used = omega arith;
      same = search rules;
      reached = c.requires.0;
    }

pub report-requires : goal.report-requires
report-requires c =
    let l = c.loop-i in
    let below : l.i < call_count (length c.args.bytes.now) = omega (arith, c.loop-i-test.true, c.div_ceil-i-end.ensures, count_up (length c.args.bytes.now)) in
    omega (arith, below, l.invariant.used, l.invariant.same.size, c.requires.1)

pub loop-i-preserved : goal.loop-i-preserved
loop-i-preserved c =
    let s = c.args.schema.now in
    let bytes = c.args.bytes.now in
    let l = c.loop-i in
    let r = run_at l.area l.reporter in
    let told = one_call s (call_at bytes l.i) r c.call_at-answer.ensures c.report.ensures.counted c.report.ensures.put.written in
    record {
      led = run_step s bytes c.div_ceil-i-end.result l.i r c.loop-i-test.true told ∙ l.invariant.led;
      used = omega (arith, c.report.ensures.used, l.invariant.used);
      same = same_then l.invariant.same c.report.ensures.put.same;
      reached = reached_ran (call_at bytes l.i) r l.invariant.reached told;
    }

pub returns-clause-ran : goal.returns-clause-ran
returns-clause-ran c =
    let s = c.args.schema.now in
    let bytes = c.args.bytes.now in
    let l = c.loop-i in
    let r = run_at l.area l.reporter in
    let none : c.div_ceil-i-end.result - l.i ≡ 0 = omega (arith, c.loop-i-test.false) in
    sym (ap (λ m. run_from s bytes m l.i r) none ∙ run_none s bytes l.i r) ∙ l.invariant.led

pub returns-clause-used : goal.returns-clause-used
returns-clause-used c =
    let l = c.loop-i in
    omega (arith, l.auto.i-end, l.invariant.used, c.div_ceil-i-end.ensures, count_up (length c.args.bytes.now), c.requires.1)
