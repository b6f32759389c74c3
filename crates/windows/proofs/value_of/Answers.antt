use mathlib.Core.Path.{ap, ◌∙◌}
use Prim.Native.Nat.{ℕ, ◌+◌}
use native.Mathlib.Numerals.{add-one}
use lib.ListN.{get_or}
use mir.Syntax.{w64}
use mir.Val.{SFits}
use mir.ValLaws.{to_z-of_z}
use borrow.Author.Rules.{rules}
use Rattle.rules.specs.Lists.{𝟘}
use Rattle.rules.specs.Rows.{value_at}
use Rattle.windows.proofs.value_of.Goals as goal

pub returns : goal.returns
unfolding value_at
returns c =
    let a = c.args in
    let fits : SFits w64 (get_or a.row.now (a.c + 1) 𝟘) = search rules in
    to_z-of_z w64 _ fits ∙ ap (λ (i : ℕ). get_or a.row.now i 𝟘) (add-one a.c)
