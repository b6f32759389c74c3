use mathlib.Core.Path.{◌∙◌}
use native.Mathlib.Omega.{arith}
use Rattle.schema.proofs.SchemaLaws.{accepted_valid}
use Rattle.orphan_scan.proofs.ScanLaws.{key_more, left_next}
use Rattle.orphan_scan.proofs.next_orphan.Goals as goal

pub overflow_add-k : goal.overflow_add-k
overflow_add-k c = omega (arith, c.loop-row.invariant.0.key, (accepted_valid _ c.requires.ready.accepted).few)

pub searched_rows-key-requires : goal.searched_rows-key-requires
searched_rows-key-requires c = key_more _ _ c.loop-row.k (c.loop-row.invariant.1 ∙ c.in_default.ensures) c.requires.some

pub loop-row-preserved : goal.loop-row-preserved
loop-row-preserved c =
    let searched = c.searched_rows-key.ensures in
    (searched, c.loop-row.invariant.1 ∙ c.in_default.ensures ∙ left_next _ _ c.loop-row.k searched.key)
