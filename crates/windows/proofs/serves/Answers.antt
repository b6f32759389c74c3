use mathlib.Core.Path.{sym, ◌∙◌}
use Rattle.windows.specs.WindowKey.{pair_folds, child_pairs, parent_pairs}
use Rattle.windows.proofs.WindowLaws.{serves_gone, serves_none, serves_window}
use Rattle.windows.proofs.serves.Goals as goal

pub returns-then-not-image_live : goal.returns-then-not-image_live
returns-then-not-image_live c =
    let a = c.args in
    serves_gone a.key a.child a.parent (sym c.image_live.ensures ∙ c.if-not-image_live.true)

pub returns-then-not-same_key : goal.returns-then-not-same_key
unfolding pair_folds child_pairs parent_pairs
returns-then-not-same_key c =
    let a = c.args in
    let lives = sym c.image_live.ensures ∙ c.if-not-image_live.false in
    serves_none a.key a.child a.parent lives (sym c.same_key.ensures ∙ c.if-not-same_key.true)

pub returns : goal.returns
unfolding pair_folds child_pairs parent_pairs
returns c =
    let a = c.args in
    let lives = sym c.image_live.ensures ∙ c.if-not-image_live.false in
    let same = sym c.same_key.ensures ∙ c.if-not-same_key.false in
    c.in_window.ensures ∙ serves_window a.key a.child a.parent lives same
