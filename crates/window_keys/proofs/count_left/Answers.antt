use mathlib.Core.Path.{◌≡◌, ap, ◌∙◌}
use mathlib.Core.List.{[]}
use native.Mathlib.Omega.{arith}
use lib.ListN.{get_or}
use Rattle.schema.specs.Records.{key_of}
use Rattle.schema.specs.Fields.{schema_of}
use Rattle.rules.specs.Lists.{count, one}
use Rattle.rows.specs.Standing.{rows_in}
use Rattle.rows.proofs.TableLaws.{row_at_lem}
use Rattle.scans.proofs.FirstLaws.{count_next, count_none_left}
use Rattle.windows.specs.Days.{is_on}
use Rattle.windows.proofs.KeyDays.{window_in}
use Rattle.window_keys.proofs.OrphanLaws.{same_count, parent_pairs_lem}
use Rattle.window_keys.proofs.LeftLaws.{left_row, found_full, found_left, passed_over, taken_ready, found_taken, count_found}
use Rattle.window_keys.proofs.count_left.Invariants.{others_of}
use Rattle.window_keys.proofs.count_left.Goals as goal
use Rattle.window_keys.proofs.count_left.Goals.{then-is_left, else-is_left}

pub sought_key-requires : goal.sought_key-requires
sought_key-requires c =
    parent_pairs_lem _ _ _ c.requires.0.1 _ c.requires.1.1

pub left_days-requires : goal.left_days-requires
left_days-requires c =
    window_in _ _ _ c.requires.0.1

pub first_on-requires : goal.first_on-requires
first_on-requires c =
    let stands = c.requires.1.0.0 in
    ((stands.0, c.loop-i.invariant.0), taken_ready _ _ _ c.requires.0.1 _ _ c.sought_key.ensures c.left_days.ensures c.args.children stands.1)

pub overflow_mul-p : goal.overflow_mul-p
overflow_mul-p c =
    let next = rw c.in-Some.is at c.first_on.ensures in
    let here = row_at_lem c.args.area.now c.args.children c.in-Some.i next.0 c.requires.1.0.0.0 in
    omega (arith, here.within)

pub overflow_add-p : goal.overflow_add-p
overflow_add-p c =
    let next = rw c.in-Some.is at c.first_on.ensures in
    let here = row_at_lem c.args.area.now c.args.children c.in-Some.i next.0 c.requires.1.0.0.0 in
    omega (arith, here.within)

pub image_at-child-requires : goal.image_at-child-requires
image_at-child-requires c =
    let next = rw c.in-Some.is at c.first_on.ensures in
    let here = row_at_lem c.args.area.now c.args.children c.in-Some.i next.0 c.requires.1.0.0.0 in
    (here.within, here.narrow)

pub is_left-requires : goal.is_left-requires
is_left-requires c =
    let a = c.args in
    let i = c.in-Some.i in
    let next = rw c.in-Some.is at c.first_on.ensures in
    let columns = c.requires.0.1 in
    let found = found_taken _ _ _ columns a.turn.old a.turn.new c.sought_key.ensures c.left_days.ensures c.requires.1.1 (get_or (rows_in a.area.now a.children) i []) (next.1.found next.0) in
    (c.requires.0, (c.requires.1.0.1, found_full a.area.now a.children i next.0 c.image_at-child.ensures (key_of (schema_of a.schema.now.bytes) a.k) a.turn.old found (same_count _ _ _ columns)))

pub overflow_add-m : goal.overflow_add-m
overflow_add-m c =
    let next = rw c.in-Some.is at c.first_on.ensures in
    omega (arith, c.requires.1.0.0.0.few, c.loop-i.invariant.1, next.1.low, next.0)

pub overflow_add-j : goal.overflow_add-j
overflow_add-j c =
    let next = rw c.in-Some.is at c.first_on.ensures in
    omega (arith, c.requires.1.0.0.0.few, next.0)

pub loop-i-smaller : goal.loop-i-smaller
loop-i-smaller c =
    let next = rw c.in-Some.is at c.first_on.ensures in
    omega (arith, next.1.low, next.0)

pub loop-i-preserved : goal.loop-i-preserved
unfolding one
loop-i-preserved c =
    let a = c.args in
    let l = c.loop-i in
    let next = rw c.in-Some.is at c.first_on.ensures in
    let K = key_of (schema_of a.schema.now.bytes) a.k in
    let others = others_of a.schema.now.bytes a.area.now a.k a.turn.r in
    let on = is_on c.sought_key.result c.left_days.result in
    let judged = found_left a.area.now a.children c.in-Some.i next.0 c.image_at-child.ensures on (next.1.found next.0) a.turn.clear K a.turn.new others c.is_left.ensures in
    let more = count_next (left_row on a.turn.clear K a.turn.new others) a.area.now a.children (passed_over on a.turn.clear K a.turn.new others) next judged in
    elim c.if-is_left.branch [
      | then-is_left w ↦
          let hit = ap one w.if-is_left.true in
          (omega (arith, next.0), omega (arith, l.invariant.1, next.1.low, w.m-is), omega (arith, l.invariant.2, more, hit, w.m-is))
      | else-is_left w ↦
          let miss = ap one w.if-is_left.false in
          (omega (arith, next.0), omega (arith, l.invariant.1, next.1.low, w.m-is), omega (arith, l.invariant.2, more, miss, w.m-is))
    ]

pub returns : goal.returns
returns c =
    let a = c.args in
    let l = c.loop-i in
    let K = key_of (schema_of a.schema.now.bytes) a.k in
    let others = others_of a.schema.now.bytes a.area.now a.k a.turn.r in
    let on = is_on c.sought_key.result c.left_days.result in
    let none = count_none_left (left_row on a.turn.clear K a.turn.new others) a.area.now a.children (passed_over on a.turn.clear K a.turn.new others) (rw c.in_default.is at c.first_on.ensures) in
    let all : l.m ≡ count (left_row on a.turn.clear K a.turn.new others) (rows_in a.area.now a.children) = omega (arith, l.invariant.2, none) in
    let found = count_found _ _ _ c.requires.0.1 a.turn.old a.turn.new c.sought_key.ensures c.left_days.ensures c.requires.1.1 a.turn.clear others (rows_in a.area.now a.children) in
    (all ∙ found, omega (arith, l.invariant.1, l.invariant.0))
