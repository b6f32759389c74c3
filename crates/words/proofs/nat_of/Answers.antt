use mathlib.Core.Path.{ap, ◌∙◌}
use borrow.Author.Rules.{rules}
use lib.IntN.{nat_abs}
use mir.Syntax.{w64}
use mir.Val.{SFits}
use mir.ValLaws.{to_z-of_z}
use Rattle.words.proofs.Signed.{max_nat}
use Rattle.words.proofs.nat_of.Goals as goal

pub returns : goal.returns
returns c =
    let fits : SFits w64 c.max.result = search rules in
    rw (to_z-of_z w64 c.max.result fits) (ap nat_abs (rw (to_z-of_z w64 c.args.w c.ranges.w) at c.max.ensures.value ∙ max_nat c.args.w))
