use native.Mathlib.Omega.{arith}
use Rattle.schema.proofs.FieldLaws.{tables_few}
use Rattle.area.proofs.Places.{place_is, row_small}
use Rattle.area.proofs.place_of.Goals as goal

pub overflow_mul-result : goal.overflow_mul-result
overflow_mul-result c = omega (arith, row_small c.requires c.columns-c.result c.columns-c.ensures.1.high)

pub overflow_add-result-2 : goal.overflow_add-result-2
overflow_add-result-2 c = omega (arith, row_small c.requires c.columns-c.result c.columns-c.ensures.1.high, tables_few _ c.requires.accepted, c.requires.table)

pub returns : goal.returns
returns c = place_is _ c.args.t c.args.r c.start_of-start.ensures.0 c.columns-c.ensures.0
