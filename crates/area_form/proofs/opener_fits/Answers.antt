use mathlib.Core.Path.{sym, ap, ◌∙◌}
use mathlib.Core.Bool.{◌&&◌}
use lib.Dec.{leb, eqb}
use Rattle.area_form.proofs.DamageLaws.{opener_none, opener_some}
use Rattle.area_form.proofs.opener_fits.Goals as goal

pub returns-then-nat_at-eq0 : goal.returns-then-nat_at-eq0
returns-then-nat_at-eq0 c = ap (λ o. eqb o 0) c.nat_at-opener.ensures ∙ opener_none _ _ (sym c.nat_at.ensures ∙ c.if-nat_at-eq0.true)

pub returns : goal.returns
returns c = ap (λ o. leb 1 o && leb o 2) c.nat_at-opener.ensures ∙ opener_some _ _ (λ e. c.if-nat_at-eq0.false (c.nat_at.ensures ∙ e))
