use mathlib.Core.Path.{◌∙◌}
use Rattle.words.proofs.Signed.{back}
use Rattle.capi.proofs.ShownLaws.{fresh_code_lem}
use Rattle.capi.proofs.hoofbook_make_fresh.Goals as goal

pub returns : goal.returns
returns c =
    let a = c.args in
    fresh_code_lem a.schema.now a.area.now c.make_fresh-answer.ensures (back _ c.code_of.type_inv ∙ c.code_of.ensures)
