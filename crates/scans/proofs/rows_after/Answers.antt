use mathlib.Core.Path.{◌≡◌, refl}
use Prim.Native.Nat.{suc, ◌+◌}
use native.Mathlib.Omega.{arith}
use Rattle.rows.proofs.TableLaws.{row_at_lem}
use Rattle.scans.specs.Parts.{rows_after}
use Rattle.scans.proofs.rows_after.Goals as goal

pub overflow_mul-result : goal.overflow_mul-result
overflow_mul-result c = let h = row_at_lem c.args.area.now c.args.table c.args.r c.requires.1 c.requires.0 in omega (arith, h.within)

pub overflow_add-result-2 : goal.overflow_add-result-2
overflow_add-result-2 c = let h = row_at_lem c.args.area.now c.args.table c.args.r c.requires.1 c.requires.0 in omega (arith, h.within)

pub returns : goal.returns
unfolding rows_after
returns c = let next : c.args.r + 1 ≡ suc c.args.r = omega arith in rw next refl
