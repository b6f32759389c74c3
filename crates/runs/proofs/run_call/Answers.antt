use mathlib.Core.Path.{◌∙◌, ap}
use Prim.Native.Nat.{◌*◌, ◌-◌, ◌≤◌}
use native.Mathlib.Omega.{arith}
use borrow.Author.Rules.{rules}
use lib.ListN.{length, take, drop}
use Rattle.runs.proofs.RunLaws.{least_right, call_part, one_run_lem}
use Rattle.runs.proofs.run_call.Goals as goal

pub slice_bounds-call_once-end : goal.slice_bounds-call_once-end
slice_bounds-call_once-end c =
    let a = c.args in
    let short = least_right 12 (length a.calls.now - a.i * 12) in
    let end : c.call_end-to.result ≤ length a.calls.now = omega (arith, c.call_end-to.ensures, short, c.requires) in
    search rules

pub returns : goal.returns
returns c =
    let a = c.args in
    let end = c.call_end-to.ensures in
    let part = ap (λ n. take (n - a.i * 12) (drop (a.i * 12) a.calls.now)) end ∙ call_part a.calls.now (a.i * 12) in
    one_run_lem a.schema.now a.calls.now a.i a.area.now a.answers.now part c.call_once-answer.ensures c.put_answer.ensures
