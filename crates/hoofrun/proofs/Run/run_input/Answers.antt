use Rattle.std.proofs.Common.{arith}
use Rattle.call_lines.specs.Runs.{call_count}
use Rattle.hoofrun.proofs.Run.run_input.Goals as goal

pub run_piece-requires : goal.run_piece-requires
unfolding call_count
run_piece-requires g c = (c.loop.invariant.1, omega arith)
