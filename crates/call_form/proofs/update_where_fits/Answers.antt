use mathlib.Core.Path.{ap, ◌∙◌}
use lib.Dec.{ltb}
use lib.IntN.{pos}
use lib.ListN.{get_or}
use Rattle.schema.specs.Bytes.{bit}
use Rattle.schema.specs.Fields.{schema_of}
use Rattle.rules.specs.Calls.{in_columns, seeks_null, sets_null, value_fits, allowed}
use Rattle.bridge.proofs.Tests.{and_same}
use Rattle.call_form.specs.Requests.{call_of}
use Rattle.call_form.proofs.update_where_fits.Goals as goal

pub returns : goal.returns
unfolding call_of allowed seeks_null sets_null
returns c =
    let a = c.args in
    let ws = a.call.now in
    let m = c.nat_at-m.ensures in
    let d = c.nat_at-d.ensures in
    let columns = and_same c.is_in_columns.ensures (c.is_in_columns-2.ensures ∙ ap (in_columns (schema_of a.schema.now.bytes) a.place.table) d) in
    let sought = c.value_fits.ensures ∙ ap (λ n. value_fits (bit 0 n) (get_or ws 4 (pos 0))) m in
    let set = c.value_fits-2.ensures ∙ ap (λ n. value_fits (bit 1 n) (get_or ws 6 (pos 0))) m in
    and_same (and_same (and_same columns (ap (λ n. ltb n 4) m)) sought) set
