use mathlib.Core.Path.{refl, sym, ap, ◌∙◌}
use Prim.Native.Nat.{ℕ}
use native.Mathlib.Omega.{arith}
use borrow.Author.Rules.{rules}
use borrow.Author.Tests.{tests}
use lib.Dec.{eqb}
use lib.ListN.{get_or}
use Rattle.schema.specs.Fields.{schema_of}
use Rattle.schema.specs.Records.{table_of}
use Rattle.schema.proofs.RangeLaws.{any_same}
use Rattle.schema.proofs.RangeChains.{any_in_range}
use Rattle.schema.proofs.FieldLaws.{read_unique}
use Rattle.fields.proofs.Schema.has_unique.Goals as goal

pub returns : goal.returns
returns c =
    let bs = c.args.self.now.bytes in
    let t = c.args.t in
    let m = c.args.m in
    any_in_range (λ i. eqb (get_or (table_of (schema_of bs) t).uniques i 0) m) _ _ _ 0 4 _ refl refl c.any.ensures.ran (λ x q k. search (rules, tests)) (λ x q k. search (rules, tests))
    ∙ any_same _ _ 4 0 (λ i h. ap (λ (u : ℕ). eqb u m) (sym (read_unique bs c.args.self.now.accepted t c.requires.0 i (omega arith) refl)))
