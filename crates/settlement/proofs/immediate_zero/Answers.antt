use mathlib.Core.Path.{refl, ◌∙◌}
use Prim.Native.Nat.{◌≤◌}
use native.Mathlib.Omega.{arith}
use borrow.Author.Rules.{rules}
use borrow.Author.Tests.{tests}
use lib.ListN.{length}
use Rattle.schema.specs.Fields.{schema_of}
use Rattle.schema.proofs.RangeChains.{all_in_range}
use Rattle.settlement.proofs.SettleLaws.{passes_at, immediate_is}
use Rattle.settlement.proofs.immediate_zero.Goals as goal

pub returns : goal.returns
returns c =
    let ks = (schema_of c.args.schema.now.bytes).keys in
    let xs = c.args.kept in
    let few : length ks ≤ length xs = search rules in
    all_in_range (passes_at ks xs) _ _ _ 0 c.key_count-n.result (length ks) refl (omega (arith, c.key_count-n.ensures.0)) c.all.ensures.ran (λ x q k. search (rules, tests)) (λ x q k. search (rules, tests))
    ∙ immediate_is ks xs refl few
