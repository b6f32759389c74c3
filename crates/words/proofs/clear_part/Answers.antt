use mathlib.Core.Path.{◌≡◌, ap, ◌∙◌}
use native.Mathlib.Omega.{arith}
use Prim.Native.Nat.{ℕ, ◌-◌, ◌+◌}
use lib.IntN.{pos}
use lib.ListN.{length, take, drop, replicate, length-drop, length-replicate}
use lib.Seq.{length-take-le}
use Rattle.words.proofs.Splice.{mid_sets}
use Rattle.words.proofs.clear_part.Goals as goal

pub returns : goal.returns
returns c =
    let a = c.args in
    let zeros = replicate a.count (pos 0) in
    let part : length (take (a.from + a.count - a.from) (drop a.from a.area.now)) ≡ a.count = length-take-le _ (drop a.from a.area.now) (rw length-drop (omega arith)) ∙ omega arith in
    let size : length zeros ≡ a.count = length-replicate a.count (pos 0) in
    mid_sets a.area.now a.from _ zeros (c.fill.ensures.after (λ y e. e) ∙ ap (λ (n : ℕ). replicate n (pos 0)) part) (omega arith) (omega arith)
