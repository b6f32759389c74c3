use Rattle.std.proofs.Common.{arith}
use Rattle.schema.specs.Fields.{schema_of}
use Rattle.call_form.proofs.ReadLaws.{asked_if, delete_where_is}
use Rattle.call_form.proofs.read_delete_where.Goals as goal

pub returns : goal.returns
returns c = let h = delete_where_is (schema_of c.args.schema.now.bytes) c.args.call.now in grind (arith, asked_if)
