use mathlib.Core.Path.{refl}
use native.Mathlib.Omega.{arith}
use borrow.Author.Rules.{rules}
use borrow.Author.Tests.{tests}
use Rattle.schema.proofs.RangeChains.{all_in_range}
use Rattle.area_form.specs.Damage.{natural_part}
use Rattle.area_form.proofs.all_natural.Goals as goal

pub returns : goal.returns
unfolding natural_part
returns c =
    let a = c.args in
    all_in_range (natural_part a.area.now a.at a.stride) _ _ _ 0 a.n a.n refl (omega arith) c.all.ensures.ran (λ x q k. search (rules, tests)) (λ x q k. search (rules, tests))
