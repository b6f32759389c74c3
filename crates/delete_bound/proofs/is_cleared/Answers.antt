use mathlib.Core.Path.{refl, ◌∙◌}
use native.Mathlib.Omega.{arith}
use borrow.Author.Rules.{rules}
use borrow.Author.Tests.{tests}
use lib.ListN.{length}
use Rattle.schema.specs.Records.{key_of, no_key}
use Rattle.schema.specs.Fields.{schema_of}
use Rattle.schema.proofs.RangeChains.{any_in_range}
use Rattle.rules.specs.DeleteBound.{clears}
use Rattle.bridge.proofs.CountLaws.{any_by_number}
use Rattle.delete_bound.proofs.is_cleared.Goals as goal

pub returns : goal.returns
returns c =
    let a = c.args in
    let s = schema_of a.schema.now.bytes in
    any_in_range (λ k. clears a.t a.c (key_of s k)) _ _ _ 0 c.key_count.result (length s.keys) refl (omega (arith, c.key_count.ensures.0)) c.any.ensures.ran (λ x q k. search (rules, tests)) (λ x q k. search (rules, tests))
    ∙ any_by_number (clears a.t a.c) no_key s.keys
