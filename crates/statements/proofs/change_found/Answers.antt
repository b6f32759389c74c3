use mathlib.Core.Path.{◌∙◌}
use native.Mathlib.Omega.{arith}
use Rattle.schema.specs.Fields.{schema_of}
use Rattle.found.specs.Sought.{found_changes}
use Rattle.found.proofs.SoughtLaws.{changes_sought}
use Rattle.bridge.proofs.HoldLaws.{area_long}
use Rattle.statements.proofs.TallyEnds.{tally_begins}
use Rattle.statements.proofs.Ends as ends
use Rattle.statements.proofs.change_found.Goals as goal

pub nat_at-used-requires : goal.nat_at-used-requires
nat_at-used-requires c = omega (arith, area_long c.requires.0.ready.fit)

pub seeking_of-x-requires : goal.seeking_of-x-requires
seeking_of-x-requires c = (c.requires.1.0.table, c.requires.1.0.column)

pub found_walk-made-requires : goal.found_walk-made-requires
found_walk-made-requires c =
    (tally_begins c.args.schema.now.bytes c.requires.0.ready, (c.seeking_of-x.ensures.seeks, c.requires.1.0.set))

pub conclude-requires : goal.conclude-requires
conclude-requires c =
    let b = c.args.schema.now.bytes in
    let body = found_changes (schema_of b) c.args.t c.args.sought c.args.given in
    let fine = ends.found_fine b c.requires.0 c.args.t c.args.sought c.args.given in
    let walk = c.found_walk-made in
    let seeking = c.seeking_of-x.ensures in
    ends.changed_ending b c.requires.0 body fine walk.result (walk.ensures.0 ∙ changes_sought seeking c.args.given _, walk.ensures.1) c.nat_at-used.ensures c.requires.1.1

pub returns : goal.returns
returns c =
    let b = c.args.schema.now.bytes in
    let body = found_changes (schema_of b) c.args.t c.args.sought c.args.given in
    let fine = ends.found_fine b c.requires.0 c.args.t c.args.sought c.args.given in
    let walk = c.found_walk-made in
    let seeking = c.seeking_of-x.ensures in
    ends.statement_ended b c.requires.0 body fine walk.result (walk.ensures.0 ∙ changes_sought seeking c.args.given _, walk.ensures.1) c.nat_at-used.ensures _ _ c.conclude.ensures
