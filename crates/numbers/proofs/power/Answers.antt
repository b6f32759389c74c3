use Prim.Native.Nat.{◌^◌, ◌<◌}
use native.Mathlib.Omega.{arith}
use lib.Pow.{pow-lt}
use Rattle.numbers.proofs.power.Goals as goal

pub returns : goal.returns
returns c = let h : 2 ^ c.args.i < 2 ^ 64 = pow-lt c.requires in omega arith
