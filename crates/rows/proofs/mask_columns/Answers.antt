use mathlib.Core.Path.{refl, sym, ap, ◌∙◌}
use mathlib.Core.List.{[], ◌∷◌, ◌++◌}
use Prim.Native.Nat.{ℕ, ◌+◌, ◌-◌}
use native.Mathlib.Omega.{arith}
use borrow.Author.Rules.{rules}
use lib.ListN.{set, take, length-set}
use Rattle.rules.specs.Keys.{mask_columns_from}
use Rattle.rows.proofs.MaskLaws.{list_start, list_step, list_end}
use Rattle.rows.proofs.mask_columns.Goals as goal

pub loop-i-init : goal.loop-i-init
loop-i-init c = (search rules, (refl, list_start c.args.m (0 ∷ 0 ∷ 0 ∷ 0 ∷ 0 ∷ 0 ∷ 0 ∷ 0 ∷ [])))

pub loop-i-preserved : goal.loop-i-preserved
loop-i-preserved c =
    let l = c.loop-i in
    let m = c.args.m in
    let e = c.bit_number-n.ensures.0 in
    let s = list_step m l.i l.n l.list c.loop-i-test.true (omega arith) in
    let f = ap (λ (k : ℕ). take (l.n + k) (set l.list l.n l.i) ++ mask_columns_from m (l.i + 1) (8 - (l.i + 1))) (sym e) in
    (omega arith, (simp length-set l.invariant.1.0, l.invariant.1.1 ∙ s ∙ f))

pub returns : goal.returns
returns c =
    let l = c.loop-i in
    list_end c.args.m l.i l.n l.list c.loop-i-test.false (omega arith) l.invariant.1.1
