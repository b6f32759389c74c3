use Rattle.std.proofs.Common.{◌≡◌, ◌+◌, ◌*◌, ◌-◌, ◌≤◌}
use Rattle.laws.specs.Reached.{Reached}
use Rattle.lines.specs.Text.{SameBuffer}
use Rattle.call_lines.specs.Runs.{run_at, ran}
use Rattle.call_lines.proofs.RunLaws.{run_from}
use Rattle.call_lines.proofs.run_calls.Given as goal

abbrev pub invariant-loop-i : goal.invariant-loop-i
invariant-loop-i l =
    record {
      led : run_from l.schema l.bytes (l.i-end - l.i) l.i (run_at l.area l.reporter) ≡ ran l.schema l.bytes (run_at l.initial.area l.initial.reporter);
      used : l.reporter.text.used ≤ l.initial.reporter.text.used + 64 * l.i;
      same : SameBuffer l.initial.reporter.text l.reporter.text;
      reached : Reached l.schema l.area;
    }
