use mathlib.Core.Path.{sym, ap, ◌∙◌}
use mathlib.Core.Bool.{Bool, not, ◌&&◌}
use Rattle.rules.specs.Rows.{null_at}
use Rattle.windows.specs.WindowKey.{child_pairs}
use Rattle.windows.proofs.WindowLaws.{child_full}
use Rattle.windows.proofs.full_child.Goals as goal

pub returns-then-image_full_key : goal.returns-then-image_full_key
unfolding child_pairs
returns-then-image_full_key c =
    let a = c.args in
    let full = sym c.image_full_key.ensures ∙ c.if-image_full_key.true in
    c.is_filled.ensures ∙ sym (child_full a.key a.image ∙ ap (λ (b : Bool). b && not (null_at a.image a.key.day)) full)

pub returns-else-image_full_key : goal.returns-else-image_full_key
unfolding child_pairs
returns-else-image_full_key c =
    let a = c.args in
    let full = sym c.image_full_key.ensures ∙ c.if-image_full_key.false in
    c.if-image_full_key.false ∙ sym (child_full a.key a.image ∙ ap (λ (b : Bool). b && not (null_at a.image a.key.day)) full)
