use mathlib.Core.Path.{sym, ◌∙◌}
use Rattle.rows.specs.Sought.{has_sought}
use Rattle.scans.proofs.ScanLaws.{before_ready, after_ready, any_before, any_after}
use Rattle.scans.proofs.other_with_key.Goals as goal

pub any_with_key-requires : goal.any_with_key-requires
any_with_key-requires c =
    before_ready c.args.area.now c.args.table c.args.r c.requires.0.1 c.requires.0.0 c.requires.1 c.rows_before-before.ensures

pub returns-then-any_with_key : goal.returns-then-any_with_key
returns-then-any_with_key c =
    let a = c.args in
    let P = has_sought a.key in
    let hit = sym c.any_with_key.ensures ∙ c.if-any_with_key.true in
    sym (any_before a.area.now a.table a.r c.requires.0.1 P c.rows_before-before.ensures hit)

pub any_with_key-requires-2 : goal.any_with_key-requires-2
any_with_key-requires-2 c =
    after_ready c.args.area.now c.args.table c.args.r c.requires.0.1 c.requires.0.0 c.requires.1 c.rows_after-after.ensures

pub returns : goal.returns
returns c =
    let a = c.args in
    let P = has_sought a.key in
    let miss = sym c.any_with_key.ensures ∙ c.if-any_with_key.false in
    c.any_with_key-2.ensures ∙ any_after a.area.now a.table a.r c.requires.0.1 P c.rows_before-before.ensures c.rows_after-after.ensures miss
