use mathlib.Core.Path.{refl, sym, ◌∙◌}
use borrow.Author.Rules.{rules}
use borrow.Author.Tests.{tests}
use Rattle.schema.specs.Fields.{schema_of}
use Rattle.schema.proofs.RangeChains.{all_in_range}
use Rattle.area_form.proofs.DamageLaws.{kept_part, kept_is}
use Rattle.area_form.proofs.kept_in_range.Goals as goal

pub returns : goal.returns
returns c =
    let a = c.args in
    let s = schema_of a.schema.now.bytes in
    all_in_range (kept_part s a.area.now a.at) _ _ _ 0 32 32 refl refl c.all.ensures.ran (λ x q k. search (rules, tests)) (λ x q k. search (rules, tests))
    ∙ sym (kept_is s a.area.now a.at c.requires)
