use mathlib.Core.Path.{sym, ap, ◌∙◌}
use mathlib.Core.Bool.{not}
use Rattle.windows.specs.WindowKey.{pair_folds, parent_pairs}
use Rattle.windows.proofs.WindowLaws.{stays_null, changes_gone, changes_pairs, changes_window}
use Rattle.windows.proofs.key_changes.Goals as goal

pub returns-then-not-full_parent : goal.returns-then-not-full_parent
returns-then-not-full_parent c =
    let a = c.args in
    stays_null a.key a.old a.new (sym c.full_parent.ensures ∙ c.if-not-full_parent.true)

pub returns-then-not-image_live : goal.returns-then-not-image_live
returns-then-not-image_live c =
    let a = c.args in
    let full = sym c.full_parent.ensures ∙ c.if-not-full_parent.false in
    changes_gone a.key a.old a.new full (sym c.image_live.ensures ∙ c.if-not-image_live.true)

pub returns-then-not-same_key : goal.returns-then-not-same_key
unfolding pair_folds parent_pairs
returns-then-not-same_key c =
    let a = c.args in
    let full = sym c.full_parent.ensures ∙ c.if-not-full_parent.false in
    let lives = sym c.image_live.ensures ∙ c.if-not-image_live.false in
    changes_pairs a.key a.old a.new full lives (sym c.same_key.ensures ∙ c.if-not-same_key.true)

pub returns : goal.returns
unfolding pair_folds parent_pairs
returns c =
    let a = c.args in
    let full = sym c.full_parent.ensures ∙ c.if-not-full_parent.false in
    let lives = sym c.image_live.ensures ∙ c.if-not-image_live.false in
    let same = sym c.same_key.ensures ∙ c.if-not-same_key.false in
    ap not c.same_window.ensures ∙ changes_window a.key a.old a.new full lives same
