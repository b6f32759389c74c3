use mathlib.Core.Path.{refl, ◌∙◌}
use native.Mathlib.Nat.{sub-zero}
use Rattle.std.proofs.Common.{rules, tests}
use Rattle.schema.proofs.RangeChains.{all_in_range}
use Rattle.rows.proofs.SoughtLaws.{held_at, key_held}
use Rattle.rows.proofs.holds_key.Goals as goal

pub returns : goal.returns
returns c =
    let key = c.args.key.now in
    let row = c.args.row.now in
    all_in_range (held_at key.folded key.n key.cs key.vs row) _ _ _ 0 key.n key.n refl (sub-zero key.n) c.all.ensures.ran (λ x q k. search (rules, tests)) (λ x q k. search (rules, tests))
    ∙ key_held key.folded key.n key.cs key.vs row c.requires.1.columns c.requires.1.size
