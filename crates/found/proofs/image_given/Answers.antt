use native.Mathlib.Omega.{arith}
use Rattle.schema.specs.Fields.{schema_of}
use Rattle.schema.specs.Records.{table_of}
use Rattle.found.proofs.SoughtLaws.{given_deleted, given_set, set_within}
use Rattle.found.proofs.image_given.Goals as goal

pub row_set-requires : goal.row_set-requires
row_set-requires c =
    let columns = c.columns.ensures in
    let within = set_within (table_of (schema_of c.args.schema.now.bytes) c.args.t).columns c.in-Set.is c.requires.1 in
    (columns.1.high, omega (arith, within, columns.0, columns.1.high))

pub returns-in-Deleted : goal.returns-in-Deleted
returns-in-Deleted c = given_deleted _ _ c.in-Deleted.is

pub returns-in-Set : goal.returns-in-Set
returns-in-Set c = given_set _ c.in-Set.is _ c.columns.ensures.0 c.image_of-x.ensures c.row_set.ensures
