use mathlib.Core.Path.{sym, ap, subst, ◌∙◌}
use Prim.Native.Nat.{ℕ, ◌+◌, ◌*◌}
use native.Mathlib.Omega.{arith}
use Rattle.rows.proofs.TableLaws.{row_at_lem}
use Rattle.scans.proofs.FirstLaws.{tested, none_join, none_more, first_stop, first_none}
use Rattle.windows.specs.Days.{meets, DaysIn}
use Rattle.windows.proofs.DayLaws.{part_row, part_length, on_key, keys_passed}
use Rattle.windows.proofs.first_on.Goals as goal

pub first_with_key-requires : goal.first_with_key-requires
first_with_key-requires c = ((c.requires.0.0, c.loop-i.invariant.1), c.requires.1.0)

pub overflow_mul-p : goal.overflow_mul-p
overflow_mul-p c =
    let next = rw c.in-Some.is at c.first_with_key.ensures in
    let h = row_at_lem c.args.area.now c.args.table c.in-Some.i next.0 c.requires.0.0 in
    omega (arith, h.within)

pub overflow_add-p : goal.overflow_add-p
overflow_add-p c =
    let next = rw c.in-Some.is at c.first_with_key.ensures in
    let h = row_at_lem c.args.area.now c.args.table c.in-Some.i next.0 c.requires.0.0 in
    omega (arith, h.within)

pub meets-requires : goal.meets-requires
meets-requires c =
    let t = c.args.table in
    let i = c.in-Some.i in
    let next = rw c.in-Some.is at c.first_with_key.ensures in
    let h = row_at_lem c.args.area.now t i next.0 c.requires.0.0 in
    let e = part_length c.args.area.now (t.start + i * t.width) t.width h.within in
    (omega (arith, e, h.narrow), subst (λ (n : ℕ). DaysIn n c.args.sought.days) (sym e) c.requires.1.1)

pub returns-then-meets : goal.returns-then-meets
returns-then-meets c =
    let a = c.args in
    let l = c.loop-i in
    let i = c.in-Some.i in
    let next = rw c.in-Some.is at c.first_with_key.ensures in
    let row = part_row a.area.now (a.table.start + i * a.table.width) a.table.width in
    let met = tested (meets a.sought.days) a.area.now a.table i next.0 (c.meets.ensures ∙ ap (meets a.sought.days) row) c.if-meets.true in
    let past = none_join l.j i l.invariant.2 (keys_passed a.sought.key a.sought.days a.area.now a.table next.1) in
    (next.0, first_stop i (omega (arith, l.invariant.0, next.1.low)) next.0 past (on_key a.sought.key a.sought.days _ (next.1.found next.0) met))

pub loop-i-smaller : goal.loop-i-smaller
loop-i-smaller c =
    let next = rw c.in-Some.is at c.first_with_key.ensures in
    omega (arith, next.0, next.1.low)

pub loop-i-preserved : goal.loop-i-preserved
loop-i-preserved c =
    let a = c.args in
    let l = c.loop-i in
    let i = c.in-Some.i in
    let next = rw c.in-Some.is at c.first_with_key.ensures in
    let row = part_row a.area.now (a.table.start + i * a.table.width) a.table.width in
    let unmet = tested (meets a.sought.days) a.area.now a.table i next.0 (c.meets.ensures ∙ ap (meets a.sought.days) row) c.if-meets.false in
    let past = none_join l.j i l.invariant.2 (keys_passed a.sought.key a.sought.days a.area.now a.table next.1) in
    let miss = on_key a.sought.key a.sought.days _ (next.1.found next.0) unmet in
    (omega (arith, l.invariant.0, next.1.low), omega (arith, next.0), none_more i _ past miss (λ m k n. absurd (omega (arith, k, n))))

pub returns : goal.returns
returns c =
    let a = c.args in
    let l = c.loop-i in
    let none = rw c.in_default.is at c.first_with_key.ensures in
    first_none a.table.count c.requires.0.1 (omega arith) (none_join l.j a.table.count l.invariant.2 (keys_passed a.sought.key a.sought.days a.area.now a.table none))
