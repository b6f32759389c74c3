use mathlib.Core.Path.{◌≡◌, ◌∙◌}
use mathlib.Core.List.{append-nil}
use Prim.Native.Nat.{◌-◌, ◌+◌}
use native.Mathlib.Omega.{arith}
use lib.ListN.{length, take, drop, length-drop}
use lib.Seq.{length-take-le}
use Rattle.words.proofs.numbers_at.Goals as goal

pub returns : goal.returns
returns c =
    let rest = drop c.args.p c.args.area.now in
    let width : c.args.p + 32 - c.args.p ≡ 32 = omega arith in
    let size : length (take 32 rest) ≡ 32 = length-take-le 32 rest (rw length-drop (omega arith)) in
    rw (width, size) at c.padded_to.ensures ∙ append-nil (take 32 rest)
