use mathlib.Core.Path.{sym, ap, ◌∙◌}
use native.Mathlib.Omega.{arith}
use borrow.Author.Tests.{le-ltb}
use lib.Dec.{ltb}
use Rattle.schema.specs.Fields.{schema_of}
use Rattle.rules.specs.Calls.{in_columns}
use Rattle.call_form.proofs.Requested.{no_column}
use Rattle.call_form.proofs.is_in_columns.Goals as goal

pub returns-then-t-table_count : goal.returns-then-t-table_count
unfolding in_columns
returns-then-t-table_count c = ap (ltb _) c.columns.ensures.0

pub returns-else-t-table_count : goal.returns-else-t-table_count
unfolding in_columns
returns-else-t-table_count c =
    let a = c.args in
    let s = schema_of a.schema.now.bytes in
    le-ltb a.t _ (omega arith) ∙ sym (ap (ltb a.c) (no_column s a.t (omega arith)) ∙ le-ltb a.c 0 (omega arith))
