use mathlib.Core.Path.{sym, ap, ap₂, ◌∙◌}
use lib.Signed.{le_z}
use mir.Syntax.{w64}
use mir.Val.{SFits}
use mir.ValLaws.{to_z-of_z}
use borrow.Author.Rules.{rules}
use Rattle.rules.specs.Keys.{first_day, end_day}
use Rattle.bridge.proofs.Tests.{and_same}
use Rattle.windows.specs.declared.Interval.{Interval}
use Rattle.windows.proofs.WindowLaws.{days_gone, days_stay}
use Rattle.windows.proofs.keeps_days.Goals as goal

pub returns-then-not-keeps_pairs : goal.returns-then-not-keeps_pairs
returns-then-not-keeps_pairs c =
    let a = c.args in
    days_gone a.key a.old a.new (sym c.keeps_pairs.ensures ∙ c.if-not-keeps_pairs.true)

pub returns : goal.returns
unfolding first_day end_day
returns c =
    let a = c.args in
    let before = c.window_in-before in
    let after = c.window_in-after in
    let fits : SFits w64 before.result.first = search rules in
    let fits2 : SFits w64 before.result.end = search rules in
    let fits3 : SFits w64 after.result.first = search rules in
    let fits4 : SFits w64 after.result.end = search rules in
    let first = to_z-of_z w64 _ fits ∙ ap (λ (x : Interval). x.first) before.ensures in
    let end = to_z-of_z w64 _ fits2 ∙ ap (λ (x : Interval). x.end) before.ensures in
    let first2 = to_z-of_z w64 _ fits3 ∙ ap (λ (x : Interval). x.first) after.ensures in
    let end2 = to_z-of_z w64 _ fits4 ∙ ap (λ (x : Interval). x.end) after.ensures in
    and_same (ap₂ le_z first2 first) (ap₂ le_z end end2) ∙ days_stay a.key a.old a.new (sym c.keeps_pairs.ensures ∙ c.if-not-keeps_pairs.false)
