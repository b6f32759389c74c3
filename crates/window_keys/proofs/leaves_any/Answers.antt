use mathlib.Core.Path.{subst, sym, ap, ◌∙◌}
use mathlib.Core.Bool.{not, ◌&&◌}
use mathlib.Core.List.{[]}
use Prim.Native.Nat.{ℕ}
use lib.ListN.{get_or}
use Rattle.schema.specs.Records.{key_of}
use Rattle.schema.specs.Fields.{schema_of}
use Rattle.rules.specs.Lists.{any, except}
use Rattle.rules.specs.Keys.{serves, takes}
use Rattle.bridge.specs.Fit.{work_of}
use Rattle.rows.specs.Standing.{RowsOf}
use Rattle.rows.proofs.TableLaws.{parent_table}
use Rattle.windows.proofs.KeyDays.{window_in}
use Rattle.windows.proofs.LeftDays.{kept_served}
use Rattle.window_keys.proofs.OrphanLaws.{whole}
use Rattle.window_keys.proofs.LeftLaws.{parents_some, children_stand, children_are, some_left, none_left}
use Rattle.window_keys.proofs.leaves_any.Goals as goal

pub keeps_days-requires : goal.keeps_days-requires
keeps_days-requires c = window_in _ _ _ c.requires.0.1

pub returns-then-keeps_days : goal.returns-then-keeps_days
returns-then-keeps_days c =
    let a = c.args in
    let kept = sym c.keeps_days.ensures ∙ c.if-keeps_days.true in
    none_left _ _ _ c.requires.0.1 a.old a.new (λ row taken. kept_served _ _ _ c.requires.0.1 a.old a.new row taken kept) _

pub rows_of-parents-requires : goal.rows_of-parents-requires
rows_of-parents-requires c =
    let w = whole _ _ _ c.requires.0.1 in
    rw c.parent.ensures (parent_table _ _ w)

pub count_left-requires : goal.count_left-requires
count_left-requires c =
    let s = c in
    let columns = s.requires.0.1 in
    let children = children_stand _ _ _ columns s.args.area.now s.requires.0.0 c.child.ensures.0 c.rows_of-children.ensures in
    let parents = subst (λ (t : ℕ). RowsOf s.args.schema.now.bytes t c.rows_of-parents.result) c.parent.ensures c.rows_of-parents.ensures in
    (s.requires.0, ((children, (parents, parents_some _ _ _ columns parents)), s.requires.1))

pub returns : goal.returns
returns c =
    let s = c in
    let a = s.args in
    let columns = s.requires.0.1 in
    let K = key_of (schema_of a.schema.now.bytes) a.k in
    let others = except 0 (get_or (work_of (schema_of a.schema.now.bytes) a.area.now).tabs K.parent []) in
    let rows = children_are _ _ _ columns a.area.now s.requires.0.0 c.child.ensures.0 c.rows_of-children.ensures in
    some_left _ _ _ columns a.old a.new others _ c.count_left.ensures.0
    ∙ ap (any (λ row. takes K a.old row && not (serves K row a.new))) rows
