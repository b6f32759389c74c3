use mathlib.Core.Path.{sym, ◌∙◌}
use Rattle.windows.specs.WindowKey.{pair_folds, parent_pairs}
use Rattle.windows.proofs.WindowLaws.{pairs_gone, pairs_stay}
use Rattle.windows.proofs.keeps_pairs.Goals as goal

pub returns-then-not-full_parent : goal.returns-then-not-full_parent
returns-then-not-full_parent c =
    let a = c.args in
    pairs_gone a.key a.old a.new (sym c.full_parent.ensures ∙ c.if-not-full_parent.true)

pub returns : goal.returns
unfolding pair_folds parent_pairs
returns c =
    let a = c.args in
    let full = sym c.full_parent.ensures ∙ c.if-not-full_parent.false in
    c.same_key.ensures ∙ pairs_stay a.key a.old a.new full
