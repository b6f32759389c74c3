use Rattle.std.proofs.Common.{arith}
use Rattle.std.proofs.lemmas.Grind.{common_steps}
use Rattle.rules.specs.Calls.{formed_if}
use Rattle.schema.specs.Fields.{schema_of}
use Rattle.call_form.proofs.ReadLaws.{delete_is}
use Rattle.call_form.proofs.read_delete.Goals as goal

pub returns-in_err-place : goal.returns-in_err-place
unfolding formed_if
returns-in_err-place c = let h = delete_is (schema_of c.args.schema.now.bytes) c.args.call.now in grind (arith, common_steps)

pub returns : goal.returns
unfolding formed_if
returns c = let h = delete_is (schema_of c.args.schema.now.bytes) c.args.call.now in grind (arith, common_steps)
