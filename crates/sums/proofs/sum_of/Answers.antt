use mathlib.Core.Path.{◌≡◌, sym, ◌∙◌}
use mathlib.Core.List.{List}
use Prim.Native.Nat.{ℕ, ◌+◌, ◌*◌, ◌≤◌, ◌<◌}
use native.Mathlib.Omega.{arith}
use borrow.Author.Rules.{rules}
use lib.IntN.{ℤ, pos, nat_abs, ◌+ℤ◌}
use lib.ListN.{length, get_or}
use Rattle.std.proofs.lemmas.Int.{ints}
use mir.Syntax.{w64}
use mir.Val.{SFits, to_z, of_z}
use mir.ValLaws.{to_z-of_z}
use Rattle.sums.proofs.Magnitudes.{fits_abs}
use Rattle.sums.proofs.SumLaws.{sum_more, sum_end}
use Rattle.sums.proofs.sum_of.Goals as goal

pub loop-number-preserved : goal.loop-number-preserved
loop-number-preserved c =
    let loop = c.loop-number in
    let t : List ℤ = c.args.numbers in
    let k : ℕ = loop.number-index in
    let s : ℤ = to_z w64 loop.sum-bits in
    let v : ℤ = get_or t k (pos 0) in
    let n : length t ≡ 32 = search rules in
    let lt : k < length t = omega arith in
    let fits : SFits w64 v = search rules in
    let most : nat_abs (s +ℤ v) ≤ (k + 1) * 4096 = omega (arith, ints, c.requires.small k, loop.invariant.0) in
    let e : to_z w64 (of_z w64 (s +ℤ v)) ≡ s +ℤ v = to_z-of_z w64 (s +ℤ v) (fits_abs (s +ℤ v) (omega arith)) in
    rw (to_z-of_z w64 v fits, e) (most, sum_more t k s lt ∙ loop.invariant.1)

pub returns : goal.returns
returns c =
    let n : length c.args.numbers ≡ 32 = search rules in
    sym (sum_end c.args.numbers c.loop-number.number-index (to_z w64 c.loop-number.sum-bits) (omega arith)) ∙ c.loop-number.invariant.1
