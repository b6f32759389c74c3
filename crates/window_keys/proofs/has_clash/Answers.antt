use mathlib.Core.Path.{sym, ap, ◌∙◌}
use Prim.Native.Nat.{ℕ, suc}
use native.Mathlib.Omega.{arith}
use Rattle.schema.specs.Records.{table_of}
use Rattle.schema.specs.Fields.{schema_of}
use Rattle.rows.proofs.SoughtLaws.{sought_ready}
use Rattle.rows.proofs.TableLaws.{rows_are, standing, parent_in}
use Rattle.windows.specs.WindowKey.{parent_pairs}
use Rattle.windows.proofs.KeyDays.{window_in, some_pairs, parent_pairs_full}
use Rattle.window_keys.proofs.ClashLaws.{clash_in, clash_any}
use Rattle.window_keys.proofs.has_clash.Goals as goal

pub sought_key-requires : goal.sought_key-requires
unfolding parent_pairs
sought_key-requires c =
    let columns = c.requires.0.1 in
    ((window_in _ _ _ columns).parent, parent_pairs_full _ _ _ columns c.args.image c.requires.1.1)

pub clash_days-requires : goal.clash_days-requires
clash_days-requires c =
    window_in _ _ _ c.requires.0.1

pub other_on-requires : goal.other_on-requires
other_on-requires c =
    let b = c.args.schema.now.bytes in
    let placed = c.requires.0.0 in
    let columns = c.requires.0.1 in
    let rows = c.rows_of-parents in
    let stands = standing b c.args.area.now placed.ready c.args.t placed.table rows.result rows.ensures in
    let parents = parent_in b c.args.k _ _ columns.columns.columns.parents (sym c.requires.1.0) rows.ensures in
    let wide = rows.ensures.width_is ∙ ap (λ (t : ℕ). suc (table_of (schema_of b) t).columns) (sym c.requires.1.0) in
    ((stands, omega (arith, placed.row, rows.ensures.count_is)), (sought_ready c.sought_key.ensures (some_pairs _ _ _ columns) parents, clash_in _ _ _ columns c.args.image c.clash_days.ensures wide))

pub returns : goal.returns
returns c =
    let placed = c.requires.0.0 in
    let rows = c.rows_of-parents in
    let are = rows_are c.args.schema.now.bytes c.args.area.now placed.ready c.args.t placed.table rows.result rows.ensures in
    c.other_on.ensures ∙ clash_any _ _ _ c.requires.0.1 c.args.image c.clash_days.ensures c.sought_key.ensures c.args.r are
