use mathlib.Core.Path.{refl, ◌∙◌}
use native.Mathlib.Nat.{sub-zero}
use Rattle.std.proofs.Common.{rules, tests}
use Rattle.schema.proofs.RangeChains.{all_in_range}
use Rattle.rows.proofs.ActionLaws.{same_at, key_same}
use Rattle.rows.proofs.same_key.Goals as goal

pub returns : goal.returns
returns c =
    let a = c.args in
    all_in_range (same_at a.x a.y a.folded a.n a.cs a.ds) _ _ _ 0 a.n a.n refl (sub-zero a.n) c.all.ensures.ran (λ x q k. search (rules, tests)) (λ x q k. search (rules, tests))
    ∙ key_same a.x a.y a.folded a.n a.cs a.ds c.requires.0 c.requires.1
