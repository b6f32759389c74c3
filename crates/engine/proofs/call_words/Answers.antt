use Rattle.engine.proofs.CallLaws.{answer_few, answer_is}
use Rattle.engine.proofs.call_words.Goals as goal

pub answer_words-requires : goal.answer_words-requires
answer_words-requires c =
    let a = c.args in
    answer_few a.schema.now a.numbers.now a.area.now c.call-answer.ensures

pub returns : goal.returns
returns c =
    let a = c.args in
    answer_is a.schema.now a.numbers.now a.area.now c.call-answer.ensures c.answer_words.ensures
