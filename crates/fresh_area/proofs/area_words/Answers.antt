use native.Mathlib.Omega.{arith}
use Rattle.fresh_area.proofs.FreshLaws.{words_accepted, words_malformed}
use Rattle.fresh_area.proofs.area_words.Goals as goal

pub returns-in-Ok : goal.returns-in-Ok
returns-in-Ok c =
    let s = c.in-Ok.schema in
    let e = c.in-Ok.ensures in
    (words_accepted _ (rw e at s.accepted) (rw e at c.area_length.ensures.0), c.area_length.ensures.1)

pub returns-in-Err : goal.returns-in-Err
returns-in-Err c = (words_malformed _ c.in-Err.ensures, omega arith)
