use mathlib.Core.Path.{sym, ap, ◌∙◌}
use Rattle.bridge.proofs.Tests.{and_same}
use Rattle.rules.specs.Keys.{is_within, shares_day}
use Rattle.windows.specs.declared.Days.{Days}
use Rattle.windows.specs.Days.{day_within, window_holds, window_shares, meets}
use Rattle.windows.proofs.DayLaws.{within_in, holding_in, sharing_in}
use mir.Syntax.{w64}
use mir.Val.{SFits}
use mir.ValLaws.{to_z-of_z}
use Rattle.words.proofs.Signed.{back}
use borrow.Author.Rules.{rules}
use Rattle.windows.proofs.meets.Goals as goal

pub is_filled-requires : goal.is_filled-requires
is_filled-requires c = (within_in c.requires.1 c.in-Within.is, c.requires.0)

pub value_of-requires : goal.value_of-requires
value_of-requires c = (within_in c.requires.1 c.in-Within.is, c.requires.0)

pub has_window-requires : goal.has_window-requires
has_window-requires c = (holding_in c.requires.1 c.in-Holding.is, c.requires.0)

pub window_in-requires : goal.window_in-requires
window_in-requires c = (holding_in c.requires.1 c.in-Holding.is, c.requires.0)

pub has_window-requires-in-Sharing : goal.has_window-requires-in-Sharing
has_window-requires-in-Sharing c = (sharing_in c.requires.1 c.in-Sharing.is, c.requires.0)

pub window_in-requires-in-Sharing : goal.window_in-requires-in-Sharing
window_in-requires-in-Sharing c = (sharing_in c.requires.1 c.in-Sharing.is, c.requires.0)

pub returns-in-Within : goal.returns-in-Within
unfolding meets day_within
returns-in-Within c =
    let window = c.in-Within.window in
    let day = back _ c.value_of.type_inv ∙ c.value_of.ensures in
    and_same c.is_filled.ensures (c.contains.ensures ∙ ap (is_within window.first window.end) day)
    ∙ sym (ap (λ (d : Days). meets d c.args.row.now) c.in-Within.is)

pub returns-in-Holding : goal.returns-in-Holding
unfolding meets window_holds
returns-in-Holding c =
    let window = c.window_in.ensures in
    let fits : SFits w64 c.in-Holding.day = search rules in
    let day = to_z-of_z w64 _ fits in
    and_same c.has_window.ensures (c.contains-in-Holding.ensures ∙ (λ i. is_within (window i).first (window i).end (day i)))
    ∙ sym (ap (λ (d : Days). meets d c.args.row.now) c.in-Holding.is)

pub returns-in-Sharing : goal.returns-in-Sharing
unfolding meets window_shares
returns-in-Sharing c =
    let window = c.window_in-in-Sharing.ensures in
    and_same c.has_window-in-Sharing.ensures (c.shares_day.ensures ∙ (λ i. shares_day (window i).first (window i).end c.in-Sharing.window.first c.in-Sharing.window.end))
    ∙ sym (ap (λ (d : Days). meets d c.args.row.now) c.in-Sharing.is)
