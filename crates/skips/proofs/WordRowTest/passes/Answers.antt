use mathlib.Core.Path.{◌∙◌, ap₂}
use mir.Syntax.{w64}
use mir.Val.{SFits}
use mir.ValLaws.{to_z-of_z}
use Rattle.rules.specs.Values.{same_word}
use Rattle.words.proofs.Signed.{back}
use Rattle.skips.proofs.SkipLaws.{word_is}
use borrow.Author.Rules.{rules}
use Rattle.skips.proofs.WordRowTest.passes.Goals as goal

pub returns : goal.returns
returns c =
    let a = c.args in
    let v : SFits w64 a.self.now.value = search rules in
    c.same_word.ensures ∙ ap₂ same_word (back _ c.same_word-arg-1.given) (to_z-of_z w64 a.self.now.value v) ∙ word_is a.area.now a.p a.w a.self.now c.requires.1
