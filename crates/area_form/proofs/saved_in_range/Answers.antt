use mathlib.Core.Path.{refl, sym, ap, ◌∙◌}
use Prim.Native.Nat.{◌≤◌}
use native.Mathlib.Omega.{arith}
use borrow.Author.Rules.{rules}
use borrow.Author.Tests.{tests}
use lib.ListN.{length}
use Rattle.std.proofs.iter.Serving.{serving}
use Rattle.schema.specs.Ranges.{all_from}
use Rattle.schema.specs.Fields.{schema_of}
use Rattle.schema.proofs.RangeChains.{all_in_range}
use Rattle.bridge.proofs.LevelWords.{levels_few}
use Rattle.area_form.proofs.DamageLaws.{saved_part, saved_is, fit_long}
use Rattle.area_form.proofs.saved_in_range.Goals as goal

pub nat_at-levels-requires : goal.nat_at-levels-requires
nat_at-levels-requires c = omega (arith, fit_long c.requires.fit)

pub all-requires-clause-callable : goal.all-requires-clause-callable
all-requires-clause-callable c =
    let few : c.nat_at-levels.result ≤ 9 = omega (arith, levels_few c.requires.fit, c.nat_at-levels.ensures) in
    let long : 333 ≤ length c.args.area.now = fit_long c.requires.fit in
    grind serving

pub returns : goal.returns
unfolding saved_part
returns c =
    let s = schema_of c.args.schema.now.bytes in
    let saved = saved_part s c.args.area.now in
    let levels = c.nat_at-levels.result in
    all_in_range saved _ _ _ 0 levels levels refl (omega arith) c.all.ensures.ran (λ x q k. search (rules, tests)) (λ x q k. search (rules, tests))
    ∙ ap (λ n. all_from saved n 0) c.nat_at-levels.ensures
    ∙ sym (saved_is c.requires.fit)
