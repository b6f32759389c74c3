use mathlib.Core.Path.{◌≡◌, refl, ◌∙◌}
use mathlib.Core.Bool.{Bool}
use Prim.Native.Nat.{ℕ}
use native.Mathlib.Omega.{arith}
use Rattle.std.proofs.Common.{rules, tests}
use Rattle.std.specs.List.{count_by, range_with_len}
use Rattle.std.proofs.lemmas.Iterator.{YieldsList-from_range}
use Rattle.std.proofs.lemmas.Iterator.Consumers.{YieldsList-from_filter, count_from_yields_List}
use Rattle.std.proofs.lemmas.List.Sums.{length-filter, count_by-le-length}
use Rattle.schema.specs.Bytes.{bit}
use Rattle.rules.specs.Keys.{mask_columns}
use Rattle.rows.proofs.ChainLaws.{count_mask}
use Rattle.rows.proofs.mask_count.Goals as goal

pub returns : goal.returns
unfolding mask_columns
returns c =
    let in_mask : ℕ → Bool = λ i. bit i c.args.m in
    let e : c.count.result ≡ count_by in_mask (range_with_len 0 8) =
    count_from_yields_List c.filter.result _ c.count.ensures.ran
    (YieldsList-from_filter _ in_mask (YieldsList-from_range 0 8 8 (search rules) refl) c.filter.ensures.closure (λ x b q k. search (rules, tests)))
    ∙ length-filter in_mask (range_with_len 0 8) in
    (e ∙ count_mask c.args.m 8 0, omega (arith, e, count_by-le-length in_mask (range_with_len 0 8)))
