use mathlib.Core.Path.{refl, ◌∙◌}
use native.Mathlib.Omega.{arith}
use borrow.Author.Rules.{rules}
use borrow.Author.Tests.{tests}
use lib.ListN.{length}
use Rattle.schema.specs.Records.{key_of, no_key}
use Rattle.schema.specs.Fields.{schema_of}
use Rattle.schema.proofs.RangeChains.{any_in_range}
use Rattle.bridge.proofs.CountLaws.{any_by_number}
use Rattle.table_keys.specs.Touched.{broken_used}
use Rattle.table_keys.proofs.uses_broken.Goals as goal

pub returns : goal.returns
returns c =
    let a = c.args in
    let keys = (schema_of a.schema.now.bytes).keys in
    let used = broken_used a.lives a.t a.lived in
    any_in_range (λ k. used (key_of (schema_of a.schema.now.bytes) k)) _ _ _ 0 c.key_count.result (length keys) refl (omega (arith, c.key_count.ensures.0)) c.any.ensures.ran (λ x q k. search (rules, tests)) (λ x q k. search (rules, tests))
    ∙ any_by_number used no_key keys
