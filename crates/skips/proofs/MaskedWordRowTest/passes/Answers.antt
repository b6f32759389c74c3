use mathlib.Core.Path.{◌∙◌, ap₂}
use Prim.Native.Nat.{◌+◌}
use mir.Syntax.{w64}
use mir.Val.{SFits}
use mir.ValLaws.{to_z-of_z}
use lib.ListN.{get_or}
use Rattle.words.proofs.Signed.{back}
use Rattle.rules.specs.Lists.{𝟘}
use Rattle.rules.specs.Values.{same_word}
use Rattle.folding.specs.Masks.{masked}
use Rattle.skips.proofs.SkipLaws.{masked_is}
use borrow.Author.Rules.{rules}
use Rattle.skips.proofs.MaskedWordRowTest.passes.Goals as goal

pub returns : goal.returns
returns c =
    let a = c.args in
    let s = a.self.now in
    let m : SFits w64 s.mask = search rules in
    let v : SFits w64 s.value = search rules in
    let u = back _ c.under_mask.type_inv ∙ c.under_mask.ensures ∙ ap₂ masked (to_z-of_z w64 s.mask m) (back (get_or a.area.now (a.p + s.place) 𝟘) c.under_mask-arg-1.given) in
    c.same_word.ensures ∙ ap₂ same_word u (to_z-of_z w64 s.value v) ∙ masked_is a.area.now a.p a.w s c.requires.1
