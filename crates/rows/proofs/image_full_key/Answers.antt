use mathlib.Core.Path.{sym, ap, ◌∙◌}
use mathlib.Core.Bool.{not}
use Rattle.words.proofs.Signed.{back}
use Rattle.rules.specs.Values.{nat_of}
use Rattle.rows.proofs.CellLaws.{full_vacant, full_live}
use Rattle.rows.proofs.image_full_key.Goals as goal

pub returns-else-is_live : goal.returns-else-is_live
returns-else-is_live c =
    let e = c.nat_of-state.ensures ∙ ap nat_of (back _ c.nat_of-arg-1.given) in
    c.if-is_live.false ∙ full_vacant _ e _ (sym c.is_live.ensures ∙ c.if-is_live.false)

pub returns-then-is_live : goal.returns-then-is_live
returns-then-is_live c =
    let e = c.nat_of-state.ensures ∙ ap nat_of (back _ c.nat_of-arg-1.given) in
    ap not c.some_null.ensures ∙ full_live _ e _ (sym c.is_live.ensures ∙ c.if-is_live.true)
