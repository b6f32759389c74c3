use mathlib.Core.Path.{refl, ◌∙◌}
use borrow.Author.Rules.{rules}
use borrow.Author.Tests.{tests}
use Rattle.schema.proofs.RangeChains.{all_in_range}
use Rattle.call_form.proofs.WordLaws.{fits_at, values_are}
use Rattle.call_form.proofs.values_fit.Goals as goal

pub returns : goal.returns
returns c =
    let ws = c.args.call.now in
    all_in_range (fits_at ws c.args.m) _ _ _ 0 8 8 refl refl c.all.ensures.ran (λ x q k. search (rules, tests)) (λ x q k. search (rules, tests)) ∙ values_are ws c.args.m c.requires
