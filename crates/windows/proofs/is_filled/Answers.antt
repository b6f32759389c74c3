use mathlib.Core.Path.{ap, ◌∙◌}
use mathlib.Core.Bool.{not}
use lib.ListN.{get_or}
use mir.Syntax.{w64}
use mir.Val.{SFits}
use mir.ValLaws.{to_z-of_z}
use borrow.Author.Rules.{rules}
use Rattle.schema.specs.Bytes.{bit}
use Rattle.rules.specs.Lists.{𝟘}
use Rattle.rules.specs.Values.{nat_of}
use Rattle.rules.specs.Rows.{null_at}
use Rattle.windows.proofs.is_filled.Goals as goal

pub returns : goal.returns
unfolding null_at
returns c =
    let a = c.args in
    let fits : SFits w64 (get_or a.row.now 0 𝟘) = search rules in
    ap not (c.bit_of.ensures ∙ ap (bit a.c) (c.nat_of.ensures ∙ ap nat_of (to_z-of_z w64 _ fits)))
