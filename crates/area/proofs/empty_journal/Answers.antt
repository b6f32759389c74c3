use mathlib.Core.Path.{ap, ◌∙◌}
use mathlib.Core.List.{List}
use Prim.Native.Nat.{◌+◌}
use native.Mathlib.Omega.{arith}
use native.Mathlib.Nat.{add-zero}
use lib.IntN.{ℤ, pos}
use lib.ListN.{set}
use Rattle.schema.specs.Fields.{schema_of}
use Rattle.schema.specs.Sizes.{rows_start, rows_size}
use Rattle.bridge.proofs.ClearWords.{emptied_is}
use Rattle.area.proofs.SpareLaws.{part_cleared}
use Rattle.area.proofs.empty_journal.Goals as goal

pub returns : goal.returns
returns c =
    let record_at = c.record_at-at in
    let dirty_end = c.dirty_end-end in
    emptied_is c.requires.0.fit record_at.result (record_at.ensures ∙ add-zero (rows_start + rows_size (schema_of c.args.schema.now.bytes).tables)) (ap (λ (l : List ℤ). set l 2 (pos 0)) (part_cleared dirty_end.ensures record_at.result (omega (arith, dirty_end.ensures.after, record_at.ensures)) c.clear_from.ensures))
