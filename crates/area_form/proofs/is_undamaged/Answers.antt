use mathlib.Core.Path.{◌≡◌, refl, sym, ap, ◌∙◌}
use mathlib.Core.Bool.{false}
use Prim.Native.Nat.{◌≤◌}
use native.Mathlib.Omega.{arith}
use lib.ListN.{length}
use Rattle.schema.specs.Fields.{schema_of}
use Rattle.rules.specs.Area.{legible}
use Rattle.rules.specs.State.{kept_in_range, undamaged}
use Rattle.bridge.specs.Fit.{Fit}
use Rattle.bridge.specs.Ready.{Ready}
use Rattle.bridge.proofs.LevelWords.{kept_at, levels_few}
use Rattle.bridge.proofs.Tests.{and_same}
use Rattle.area_form.proofs.DamageLaws.{opener_is, rise_is, fit_long}
use Rattle.area_form.proofs.is_undamaged.Goals as goal
use Rattle.area_form.proofs.is_undamaged.Goals.{Else-not-is_legible}

fit_here : (c : Else-not-is_legible) → Fit (schema_of c.args.schema.now.bytes) c.args.area.now
fit_here c = record { size = c.requires; legible_is = sym c.is_legible.ensures ∙ c.if-not-is_legible.false }

long_here : (c : Else-not-is_legible) → 333 ≤ length c.args.area.now
long_here c = fit_long (fit_here c)

ready_here : (c : Else-not-is_legible) → Ready c.args.schema.now.bytes c.args.area.now
ready_here c = record { accepted = c.args.schema.now.accepted; fit = fit_here c }

pub is_legible-requires : goal.is_legible-requires
is_legible-requires c = record { accepted = c.args.schema.now.accepted; size = c.requires }

pub returns-then-not-is_legible : goal.returns-then-not-is_legible
returns-then-not-is_legible c =
    let a = c.args in
    let e : legible (schema_of a.schema.now.bytes) a.area.now ≡ false = sym c.is_legible.ensures ∙ c.if-not-is_legible.true in
    rw e refl

pub opener_fits-requires : goal.opener_fits-requires
opener_fits-requires c = omega (arith, long_here (goal.at.opener_fits-requires c).Else-not-is_legible)

pub kept_in_range-requires : goal.kept_in_range-requires
kept_in_range-requires c = omega (arith, long_here (goal.at.kept_in_range-requires c).Else-not-is_legible)

pub saved_in_range-requires : goal.saved_in_range-requires
saved_in_range-requires c = ready_here (goal.at.saved_in_range-requires c).Else-not-is_legible

pub uses_rise-requires : goal.uses_rise-requires
uses_rise-requires c = (long_here (goal.at.uses_rise-requires c).Else-not-is_legible, levels_few (fit_here (goal.at.uses_rise-requires c).Else-not-is_legible))

pub places_fit-requires : goal.places_fit-requires
places_fit-requires c = ready_here (goal.at.places_fit-requires c).Else-not-is_legible

pub returns : goal.returns
unfolding undamaged
returns c =
    let opener_fits = c.opener_fits in
    let kept_in_range_lem = c.kept_in_range in
    let saved_in_range = c.saved_in_range in
    let uses_rise_lem = c.uses_rise in
    let f = fit_here (goal.at.returns c).Else-not-is_legible in
    let k = kept_in_range_lem.ensures in
    rw f.legible_is
    (and_same (and_same (and_same (and_same (opener_fits.ensures ∙ opener_is f) (k ∙ ap (kept_in_range _ _) (sym (kept_at _ _)))) saved_in_range.ensures) (uses_rise_lem.ensures ∙ rise_is f)) c.places_fit.ensures)
