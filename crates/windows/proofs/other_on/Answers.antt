use mathlib.Core.Path.{sym, ◌∙◌}
use Rattle.scans.proofs.ScanLaws.{any_before, any_after}
use Rattle.windows.specs.Days.{is_on}
use Rattle.windows.proofs.DayLaws.{searched_before, searched_after}
use borrow.Author.Rules.{rules}
use Rattle.windows.proofs.other_on.Goals as goal

pub any_on-requires : goal.any_on-requires
any_on-requires c =
    let below = searched_before c.args.area.now c.args.table c.args.r c.requires.0.1 c.args.sought.key c.args.sought.days (c.requires.0.0, c.requires.1) c.rows_before-before.ensures in
    search (rules, below)

pub returns-then-any_on : goal.returns-then-any_on
returns-then-any_on c =
    let a = c.args in
    let P = is_on a.sought.key a.sought.days in
    let hit = sym c.any_on.ensures ∙ c.if-any_on.true in
    sym (any_before a.area.now a.table a.r c.requires.0.1 P c.rows_before-before.ensures hit)

pub any_on-requires-2 : goal.any_on-requires-2
any_on-requires-2 c =
    searched_after c.args.area.now c.args.table c.args.r c.requires.0.1 c.args.sought.key c.args.sought.days (c.requires.0.0, c.requires.1) c.rows_after-after.ensures

pub returns : goal.returns
returns c =
    let a = c.args in
    let P = is_on a.sought.key a.sought.days in
    let miss = sym c.any_on.ensures ∙ c.if-any_on.false in
    c.any_on-2.ensures ∙ any_after a.area.now a.table a.r c.requires.0.1 P c.rows_before-before.ensures c.rows_after-after.ensures miss
