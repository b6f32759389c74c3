use native.Mathlib.Omega.{arith}
use Rattle.schema.specs.Fields.{schema_of}
use Rattle.rules.specs.Change.{change}
use Rattle.bridge.proofs.HoldLaws.{area_long}
use Rattle.statements.proofs.TallyEnds.{tally_begins}
use Rattle.statements.proofs.Ends as ends
use Rattle.statements.proofs.change_row.Goals as goal

pub nat_at-used-requires : goal.nat_at-used-requires
nat_at-used-requires c = omega (arith, area_long c.requires.0.ready.fit)

pub row_change-made-requires : goal.row_change-made-requires
row_change-made-requires c =
    record { tallied = tally_begins c.args.schema.now.bytes c.requires.0.ready; table = c.requires.1.0; row = c.requires.1.1.0 }

pub conclude-requires : goal.conclude-requires
conclude-requires c =
    let b = c.args.schema.now.bytes in
    let body = change 16 (schema_of b) c.args.t c.args.r c.args.image in
    let fine = ends.change_fine b c.requires.0 c.args.t c.args.r c.args.image c.requires.1.1.0 in
    ends.changed_ending b c.requires.0 body fine c.row_change-made.result c.row_change-made.ensures c.nat_at-used.ensures c.requires.1.1.1

pub returns : goal.returns
returns c =
    let b = c.args.schema.now.bytes in
    let body = change 16 (schema_of b) c.args.t c.args.r c.args.image in
    let fine = ends.change_fine b c.requires.0 c.args.t c.args.r c.args.image c.requires.1.1.0 in
    ends.statement_ended b c.requires.0 body fine c.row_change-made.result c.row_change-made.ensures c.nat_at-used.ensures _ _ c.conclude.ensures
