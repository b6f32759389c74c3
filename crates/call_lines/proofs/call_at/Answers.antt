use mathlib.Core.Path.{◌∙◌, ap}
use native.Mathlib.Omega.{arith}
use Rattle.rules.specs.Engine.{call_on}
use Rattle.call_lines.proofs.RunLaws.{call_whole, call_short}
use Rattle.call_lines.proofs.call_at.Goals as goal

pub returns-then-bytes-at-ge96 : goal.returns-then-bytes-at-ge96
returns-then-bytes-at-ge96 c =
    let a = c.args in
    let words = c.words_at-words.ensures ∙ call_whole a.bytes.now a.i (omega arith) in
    c.next.ensures ∙ ap (λ w. call_on a.schema.now w a.area.now) words

pub returns : goal.returns
returns c =
    let a = c.args in
    c.next-2.ensures ∙ ap (λ w. call_on a.schema.now w a.area.now) (call_short a.bytes.now a.i (omega arith))
