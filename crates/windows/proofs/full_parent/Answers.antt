use mathlib.Core.Path.{sym, ap, ◌∙◌}
use mathlib.Core.Bool.{Bool, not, ◌&&◌}
use Prim.Native.Nat.{suc}
use Rattle.rules.specs.Rows.{null_at}
use Rattle.windows.specs.WindowKey.{parent_pairs}
use Rattle.windows.proofs.WindowLaws.{parent_full}
use Rattle.windows.proofs.full_parent.Goals as goal

pub returns-then-image_full_key : goal.returns-then-image_full_key
unfolding parent_pairs
returns-then-image_full_key c =
    let a = c.args in
    let full = sym c.image_full_key.ensures ∙ c.if-image_full_key.true in
    c.has_window.ensures
    ∙ sym (parent_full a.key a.image ∙ ap (λ (b : Bool). (b && not (null_at a.image a.key.first)) && not (null_at a.image (suc a.key.first))) full)

pub returns-else-image_full_key : goal.returns-else-image_full_key
unfolding parent_pairs
returns-else-image_full_key c =
    let a = c.args in
    let full = sym c.image_full_key.ensures ∙ c.if-image_full_key.false in
    c.if-image_full_key.false
    ∙ sym (parent_full a.key a.image ∙ ap (λ (b : Bool). (b && not (null_at a.image a.key.first)) && not (null_at a.image (suc a.key.first))) full)
