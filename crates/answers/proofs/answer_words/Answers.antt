use mathlib.Core.Path.{◌∙◌}
use Prim.Native.Nat.{◌≤◌}
use native.Mathlib.Omega.{arith}
use borrow.Author.Rules.{rules}
use Rattle.words.proofs.Signed.{back}
use Rattle.answers.proofs.AnswerLaws.{done_few, done_words, refused_words}
use Rattle.answers.proofs.answer_words.Goals as goal

pub word_of-requires : goal.word_of-requires
word_of-requires c =
    let d = c.in-Ok.done in
    let few : d.changed ≤ 4096 = done_few d.changed d.net c.in-Ok.is c.requires in
    omega (arith, few)

pub returns-in-Err : goal.returns-in-Err
returns-in-Err c =
    refused_words c.in-Err.refusal c.in-Err.is (back _ c.refusal_number.type_inv ∙ c.refusal_number.ensures)

pub returns-in-Ok : goal.returns-in-Ok
returns-in-Ok c =
    let d = c.in-Ok.done in
    done_words d.changed d.net c.in-Ok.is (back _ c.word_of.type_inv ∙ c.word_of.ensures) (search rules)
