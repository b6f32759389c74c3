use mathlib.Core.Path.{◌≡◌, ◌∙◌, ap}
use borrow.Author.Rules.{rules}
use lib.IntN.{pos}
use lib.ListN.{length, get_or}
use Rattle.words.proofs.Signed.{back}
use Rattle.capi.proofs.ShownLaws.{three}
use Rattle.capi.proofs.hoofbook_call.Goals as goal

pub returns : goal.returns
returns c =
    let call = c.call_words-answer in
    let size : length call.result ≡ 3 = search rules in
    let code = back (get_or call.result 0 (pos 0)) c.result-1.given in
    let changed = back (get_or call.result 1 (pos 0)) c.result-2-1.given in
    let net = back (get_or call.result 2 (pos 0)) c.result-3-1.given in
    ap (λ ws. (ws, call.new.area)) (three call.result size code changed net) ∙ call.ensures
