use mathlib.Core.Path.{◌∙◌, ap}
use lib.IntN.{pos}
use Rattle.words.proofs.Signed.{back}
use Rattle.capi.proofs.hoofbook_area_words.Goals as goal

pub returns : goal.returns
returns c = back _ c.word_of.type_inv ∙ c.word_of.ensures ∙ ap pos c.area_words.ensures.0
