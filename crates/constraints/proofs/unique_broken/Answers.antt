use mathlib.Core.Path.{refl, sym, ap, ◌∙◌}
use mathlib.Core.Bool.{Bool}
use mathlib.Core.List.{List}
use Prim.Native.Nat.{ℕ}
use native.Mathlib.Omega.{arith}
use lib.ListN.{get_or}
use Rattle.std.proofs.Common.{rules, tests}
use Rattle.schema.specs.Records.{table_of}
use Rattle.schema.specs.Fields.{schema_of}
use Rattle.schema.proofs.RangeChains.{any_in_range}
use Rattle.rules.specs.Lists.{any}
use Rattle.rules.specs.Rows.{Row}
use Rattle.rules.specs.Change.{mask_broken}
use Rattle.rows.specs.Standing.{rows_in}
use Rattle.rows.proofs.ChainLaws.{any_places}
use Rattle.rows.proofs.MaskLaws.{masks_four, unique_masks}
use Rattle.rows.proofs.TableLaws.{rows_are}
use Rattle.constraints.proofs.unique_broken.Goals as goal

pub returns : goal.returns
returns c =
    let a = c.args in
    let T = table_of (schema_of a.schema.now.bytes) a.t in
    let table = c.rows_of-table.result in
    let broken : ℕ → Bool = mask_broken T.folded a.r a.image (rows_in a.area.now table) in
    let four = masks_four a.schema.now.bytes c.requires.ready.accepted a.t c.requires.table in
    let rows = rows_are a.schema.now.bytes a.area.now c.requires.ready a.t c.requires.table table c.rows_of-table.ensures in
    any_in_range (λ u. broken (get_or T.uniques u 0)) _ _ _ 0 4 4 refl refl c.any.ensures.ran (λ x q k. search (rules, tests)) (λ x q k. search (rules, tests))
    ∙ any_places broken 0 T.uniques 4 0 (omega (arith, four))
    ∙ ap (λ (l : List Row). any (mask_broken T.folded a.r a.image l) T.uniques) rows
    ∙ sym (unique_masks T _ _ _)
