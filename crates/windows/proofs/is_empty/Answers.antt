use mathlib.Core.Path.{ap, ap₂, ◌∙◌}
use lib.Signed.{le_z}
use mir.Syntax.{w64}
use mir.Val.{SFits}
use mir.ValLaws.{to_z-of_z}
use borrow.Author.Rules.{rules}
use Rattle.rules.specs.Keys.{first_day, end_day}
use Rattle.windows.specs.declared.Interval.{Interval}
use Rattle.windows.proofs.is_empty.Goals as goal

pub returns : goal.returns
unfolding first_day end_day
returns c =
    let window = c.window_in-window in
    let first : SFits w64 window.result.first = search rules in
    let end : SFits w64 window.result.end = search rules in
    ap₂ le_z (to_z-of_z w64 _ end ∙ ap (λ (x : Interval). x.end) window.ensures) (to_z-of_z w64 _ first ∙ ap (λ (x : Interval). x.first) window.ensures)
