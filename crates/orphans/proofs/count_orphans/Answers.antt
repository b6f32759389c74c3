use mathlib.Core.Path.{◌≡◌, refl, sym, ◌∙◌}
use mathlib.Core.Bool.{Bool, true, false}
use Prim.Native.Nat.{◌≤◌}
use native.Mathlib.Nat.{zero-add}
use native.Mathlib.Omega.{arith}
use mir.Val.{bool_byte}
use Rattle.rules.specs.Lists.{one}
use Rattle.orphans.proofs.OrphanLaws.{orphans_are, one_less, children_few, none_left, rows_there, none_alone}
use Rattle.orphans.proofs.count_orphans.Goals as goal

byte_is : (b : Bool) → bool_byte b ≡ one b
unfolding one
byte_is true = refl
byte_is false = refl

byte_few : (b : Bool) → bool_byte b ≤ 1
byte_few true = omega arith
byte_few false = omega arith

pub returns-in_default : goal.returns-in_default
returns-in_default c =
    let b = c.args.schema.now.bytes in
    let a = c.args.area.now in
    let none = none_alone b a c.args.k c.searched_rows.ensures c.in_default.is 0 in
    (sym none ∙ orphans_are b a c.args.k, omega arith)

pub loop-j-init : goal.loop-j-init
loop-j-init c = (omega arith, zero-add _)

pub is_orphan-requires : goal.is_orphan-requires
is_orphan-requires c =
    (c.requires.0, (rows_there _ c.args.area.now _ c.searched_rows.ensures c.in-Some.is, c.loop-j-test.true))

pub overflow_add-m : goal.overflow_add-m
overflow_add-m c =
    let whole = rows_there _ c.args.area.now _ c.searched_rows.ensures c.in-Some.is in
    let few = children_few _ _ _ c.requires.0 _ whole in
    omega (arith, few, c.loop-j.invariant.0, c.loop-j-test.true, c.from-m.ensures, byte_few c.is_orphan.result)

pub loop-j-preserved : goal.loop-j-preserved
loop-j-preserved c =
    let whole = rows_there _ c.args.area.now _ c.searched_rows.ensures c.in-Some.is in
    let loop = c.loop-j in
    let less = one_less _ _ _ c.requires.0 _ whole loop.j c.loop-j-test.true c.is_orphan.ensures in
    let byte = c.from-m.ensures ∙ byte_is c.is_orphan.result in
    (omega (arith, loop.invariant.0, c.from-m.ensures, byte_few c.is_orphan.result), omega (arith, less, byte, loop.invariant.1))

pub returns : goal.returns
returns c =
    let whole = rows_there _ c.args.area.now _ c.searched_rows.ensures c.in-Some.is in
    let few = children_few _ _ _ c.requires.0 _ whole in
    let none = none_left _ _ _ c.requires.0 _ whole c.loop-j.j (omega (arith, c.loop-j-test.false)) in
    let are = orphans_are c.args.schema.now.bytes c.args.area.now c.args.k in
    (omega (arith, none, are, c.loop-j.invariant.1), omega (arith, few, c.loop-j.invariant.0, c.loop-j.auto.j-end))
