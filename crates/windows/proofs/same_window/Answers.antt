use mathlib.Core.Path.{ap, ◌∙◌}
use mathlib.Core.Bool.{false}
use Prim.Native.Nat.{ℕ}
use native.Mathlib.Numerals.{add-one}
use Rattle.bridge.proofs.Tests.{and_same}
use Rattle.rules.specs.Keys.{same_cell, same_window}
use Rattle.windows.proofs.same_window.Goals as goal

pub returns : goal.returns
unfolding same_window
returns c =
    let a = c.args in
    let end = c.same_cell.ensures ∙ ap (λ (i : ℕ). same_cell false a.x a.y i i) (add-one a.key.first) in
    and_same c.same_cell-first.ensures end
