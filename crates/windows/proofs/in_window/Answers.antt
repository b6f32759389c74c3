use mathlib.Core.Path.{◌∙◌}
use Rattle.words.proofs.Signed.{back}
use Rattle.bridge.proofs.Tests.{and_same}
use Rattle.rules.specs.Keys.{first_day, end_day, is_within, in_window}
use Rattle.windows.proofs.in_window.Goals as goal

pub returns : goal.returns
unfolding in_window first_day end_day
returns c =
    let window = c.window_in-window.ensures in
    let day = back _ c.value_of.type_inv ∙ c.value_of.ensures in
    and_same (and_same c.is_filled.ensures c.has_window.ensures) (c.contains.ensures ∙ (λ i. is_within (window i).first (window i).end (day i)))
