use mathlib.Core.Path.{refl, ◌∙◌}
use mir.Syntax.{w64}
use mir.Val.{SFits}
use borrow.Author.Rules.{rules}
use lib.IntN.{pos}
use Rattle.rules.specs.Values.{same_word}
use Rattle.std.proofs.lemmas.Iterator.{YieldsList-from_slice}
use Rattle.std.proofs.lemmas.Iterator.Search.{all_from_yields_List}
use Rattle.words.proofs.Zeros.{zero_bits, zero_rest}
use Rattle.words.proofs.all_zero_from.Goals as goal

pub returns : goal.returns
returns c =
    all_from_yields_List (same_word (pos 0)) _ _ _ c.all.ensures.ran (YieldsList-from_slice _ c.iter.ensures.rest) (λ x b q k. (refl, let f : SFits w64 x.now = search rules in search (rules, zero_bits x.now f)))
    ∙ zero_rest c.args.area.now c.args.from c.min.result c.min.ensures
