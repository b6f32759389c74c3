use mathlib.Core.Path.{◌≡◌, sym, ◌∙◌}
use borrow.Author.Rules.{rules}
use lib.IntN.{ℤ, pos, ◌+ℤ◌}
use lib.ListN.{length, get_or}
use mir.Syntax.{w64}
use mir.Val.{to_z, of_z}
use Rattle.rules.specs.Lists.{plus}
use Rattle.sums.proofs.Magnitudes.{sum_back}
use Rattle.sums.proofs.SumLaws.{filled_is, get_plus, length_plus}
use Rattle.sums.proofs.plus_of.Goals as goal

pub returns : goal.returns
returns c =
    let a = c.args.a in
    let b = c.args.b in
    let na : length a ≡ 32 = search rules in
    let nb : length b ≡ 32 = search rules in
    filled_is _ _ _ (plus a b) (pos 0) 32 (length_plus a b ∙ na)
    (λ k y q call.
    let x : ℤ = get_or a k (pos 0) in
    let z : ℤ = get_or b k (pos 0) in
    let bits : y ≡ to_z w64 (of_z w64 (to_z w64 (of_z w64 x) +ℤ to_z w64 (of_z w64 z))) = search rules in
    (search rules, bits ∙ sum_back x z (c.requires.0.small k) (c.requires.1.small k) ∙ sym (get_plus a b k (nb ∙ sym na))))
    c.from_fn.ensures.items
