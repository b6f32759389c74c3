use mathlib.Core.Path.{sym, ap, ap₂, ◌∙◌}
use mathlib.Core.Bool.{not}
use mathlib.Core.List.{List, []}
use Prim.Native.Nat.{◌+◌}
use native.Mathlib.Omega.{arith}
use lib.ListN.{get_or}
use Rattle.schema.specs.Records.{key_of}
use Rattle.schema.specs.Fields.{schema_of}
use Rattle.rules.specs.Lists.{count, except}
use Rattle.rules.specs.Rows.{Row}
use Rattle.rules.specs.Keys.{takes}
use Rattle.bridge.specs.Fit.{work_of}
use Rattle.scans.proofs.ScanLaws.{count_parts, parts_few}
use Rattle.windows.proofs.KeyDays.{window_in}
use Rattle.windows.proofs.LeftDays.{kept_served}
use Rattle.window_keys.proofs.LeftLaws.{left_row, parents_there, children_stand, children_are, fires_full, stranded_none, left_all, left_besides, before_there, after_there, own_row}
use Rattle.window_keys.proofs.left_rows.Goals as goal

pub keeps_days-requires : goal.keeps_days-requires
keeps_days-requires c = window_in _ _ _ c.requires.0.1

pub returns-then-keeps_days : goal.returns-then-keeps_days
returns-then-keeps_days c =
    let a = c.args in
    let kept = sym c.keeps_days.ensures ∙ c.if-keeps_days.true in
    (stranded_none _ _ _ c.requires.0.1 a.t a.x a.y c.requires.1.1 a.r _ (λ row taken. kept_served _ _ _ c.requires.0.1 a.x a.y row taken kept), omega arith)

pub has_clash-clear-requires : goal.has_clash-clear-requires
has_clash-clear-requires c =
    (c.requires.0, (c.requires.1.0, fires_full _ _ _ c.requires.0.1 _ _ _ c.requires.1.1))

pub count_left-requires : goal.count_left-requires
count_left-requires c =
    let s = c in
    let columns = s.requires.0.1 in
    let placed = s.requires.0.0 in
    let parents = parents_there _ _ _ columns s.requires.1.0 placed.row c.rows_of.ensures in
    let children = children_stand _ _ _ columns s.args.area.now placed.ready c.child-child.ensures.0 c.rows_of-children.ensures in
    ((placed.ready, columns), ((children, parents), fires_full _ _ _ columns _ _ _ s.requires.1.1))

pub returns-then-child-t : goal.returns-then-child-t
returns-then-child-t c =
    let s = c in
    let a = s.args in
    let columns = s.requires.0.1 in
    let ready = s.requires.0.0.ready in
    let K = key_of (schema_of a.schema.now.bytes) a.k in
    let tabs = (work_of (schema_of a.schema.now.bytes) a.area.now).tabs in
    let clash = c.has_clash-clear in
    let P = left_row (takes K a.x) (not clash.result) K a.y (except a.r (get_or tabs K.parent [])) in
    let rows = children_are _ _ _ columns a.area.now ready c.child-child.ensures.0 c.rows_of-children.ensures in
    let stands = children_stand _ _ _ columns a.area.now ready c.child-child.ensures.0 c.rows_of-children.ensures in
    let stranded = left_all _ _ _ columns a.t a.x a.y s.requires.1.1 a.r tabs s.requires.1.0 clash.ensures c.child-child.ensures.0 c.if-child-t.true in
    (c.count_left.ensures.0 ∙ ap (count P) rows ∙ stranded, omega (arith, c.count_left.ensures.1, stands.0.few))

pub count_left-m-requires : goal.count_left-m-requires
count_left-m-requires c =
    let child = c in
    let s = child in
    let columns = s.requires.0.1 in
    let placed = s.requires.0.0 in
    let parents = parents_there _ _ _ columns s.requires.1.0 placed.row child.rows_of.ensures in
    let children = children_stand _ _ _ columns s.args.area.now placed.ready child.child-child.ensures.0 c.rows_of-children.ensures in
    let below = own_row _ c.rows_of-children.ensures placed.row c.if-child-t.false in
    ((placed.ready, columns), ((before_there _ _ s.args.r below children c.rows_before-before.ensures, parents), fires_full _ _ _ columns _ _ _ s.requires.1.1))

pub rows_after-after-requires : goal.rows_after-after-requires
rows_after-after-requires c =
    let child = c in
    let s = child in
    let placed = s.requires.0.0 in
    let children = children_stand _ _ _ s.requires.0.1 s.args.area.now placed.ready child.child-child.ensures.0 c.rows_of-children.ensures in
    (children.0, own_row _ c.rows_of-children.ensures placed.row c.if-child-t.false)

pub count_left-requires-2 : goal.count_left-requires-2
count_left-requires-2 c =
    let child = c in
    let s = child in
    let columns = s.requires.0.1 in
    let placed = s.requires.0.0 in
    let parents = parents_there _ _ _ columns s.requires.1.0 placed.row child.rows_of.ensures in
    let children = children_stand _ _ _ columns s.args.area.now placed.ready child.child-child.ensures.0 c.rows_of-children.ensures in
    let below = own_row _ c.rows_of-children.ensures placed.row c.if-child-t.false in
    ((placed.ready, columns), ((after_there _ _ s.args.r below children c.rows_after-after.ensures, parents), fires_full _ _ _ columns _ _ _ s.requires.1.1))

pub overflow_add-result : goal.overflow_add-result
overflow_add-result c =
    let rows = c in
    let child = rows in
    let s = child in
    let placed = s.requires.0.0 in
    let children = children_stand _ _ _ s.requires.0.1 s.args.area.now placed.ready child.child-child.ensures.0 rows.rows_of-children.ensures in
    let below = own_row _ rows.rows_of-children.ensures placed.row c.if-child-t.false in
    let few = parts_few rows.rows_of-children.result s.args.r below c.rows_before-before.ensures c.rows_after-after.ensures c.count_left-m.ensures.1 c.count_left-2.ensures.1 in
    omega (arith, few, children.0.few)

pub returns : goal.returns
returns c =
    let rows = c in
    let child = rows in
    let s = child in
    let a = s.args in
    let columns = s.requires.0.1 in
    let placed = s.requires.0.0 in
    let K = key_of (schema_of a.schema.now.bytes) a.k in
    let tabs = (work_of (schema_of a.schema.now.bytes) a.area.now).tabs in
    let clash = child.has_clash-clear in
    let P = left_row (takes K a.x) (not clash.result) K a.y (except a.r (get_or tabs K.parent [])) in
    let stands = children_stand _ _ _ columns a.area.now placed.ready child.child-child.ensures.0 rows.rows_of-children.ensures in
    let are = children_are _ _ _ columns a.area.now placed.ready child.child-child.ensures.0 rows.rows_of-children.ensures in
    let below = own_row _ rows.rows_of-children.ensures placed.row c.if-child-t.false in
    let parts = count_parts a.area.now rows.rows_of-children.result a.r below P c.rows_before-before.ensures c.rows_after-after.ensures in
    let few = parts_few rows.rows_of-children.result a.r below c.rows_before-before.ensures c.rows_after-after.ensures c.count_left-m.ensures.1 c.count_left-2.ensures.1 in
    let stranded = left_besides _ _ _ columns a.t a.x a.y s.requires.1.1 a.r tabs s.requires.1.0 clash.ensures child.child-child.ensures.0 c.if-child-t.false in
    (ap₂ (λ m n. m + n) c.count_left-m.ensures.0 c.count_left-2.ensures.0 ∙ parts ∙ ap (λ (rows : List Row). count P (except a.r rows)) are ∙ stranded, omega (arith, few, stands.0.few))
