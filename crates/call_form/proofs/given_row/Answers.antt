use mathlib.Core.Path.{◌≡◌}
use mathlib.Core.Bool.{true}
use Rattle.std.proofs.Common.{arith}
use Rattle.std.proofs.lemmas.Grind.{common_steps}
use Rattle.schema.specs.Fields.{schema_of}
use Rattle.call_form.specs.Requests.{names_row, gives_row}
use Rattle.call_form.proofs.ReadLaws.{names_table}
use Rattle.call_form.proofs.given_row.Goals as goal
use Rattle.call_form.proofs.given_row.Goals.{After-is_natural_at}

pub returns-in_err-place : goal.returns-in_err-place
unfolding gives_row
returns-in_err-place c = grind (arith, common_steps)

named : (c : After-is_natural_at) → names_row (schema_of c.args.schema.now.bytes) c.args.call.now ≡ true
named c = grind (arith, common_steps)

pub row_fits-requires : goal.row_fits-requires
row_fits-requires c = (c.requires, grind (arith, names_table (schema_of c.args.schema.now.bytes) c.args.call.now (named c)))

pub returns : goal.returns
unfolding gives_row
returns c = grind (arith, common_steps)
