use mathlib.Core.Path.{◌∙◌, ap₂}
use Prim.Native.Nat.{◌+◌}
use native.Mathlib.Omega.{arith}
use Rattle.rows.specs.Sought.{has_sought}
use Rattle.scans.proofs.ScanLaws.{before_ready, after_ready, count_parts, parts_few}
use Rattle.scans.proofs.count_others_with_key.Goals as goal

pub count_with_key-m-requires : goal.count_with_key-m-requires
count_with_key-m-requires c =
    before_ready c.args.area.now c.args.table c.args.r c.requires.0.1 c.requires.0.0 c.requires.1 c.rows_before-before.ensures

pub count_with_key-requires : goal.count_with_key-requires
count_with_key-requires c =
    after_ready c.args.area.now c.args.table c.args.r c.requires.0.1 c.requires.0.0 c.requires.1 c.rows_after-after.ensures

pub overflow_add-result : goal.overflow_add-result
overflow_add-result c =
    let before = c.count_with_key-m.ensures in
    let after = c.count_with_key.ensures in
    let few = parts_few c.args.table c.args.r c.requires.0.1 c.rows_before-before.ensures c.rows_after-after.ensures before.1 after.1 in
    omega (arith, few, c.requires.0.0.few)

pub returns : goal.returns
returns c =
    let rows_before = c.rows_before-before in
    let count_with_key = c.count_with_key-m in
    let rows_after = c.rows_after-after in
    let a = c.args in
    let P = has_sought a.key in
    let before = count_with_key.ensures in
    let after = c.count_with_key.ensures in
    let all = count_parts a.area.now a.table a.r c.requires.0.1 P rows_before.ensures rows_after.ensures in
    (ap₂ (λ m n. m + n) before.0 after.0 ∙ all, parts_few a.table a.r c.requires.0.1 rows_before.ensures rows_after.ensures before.1 after.1)
