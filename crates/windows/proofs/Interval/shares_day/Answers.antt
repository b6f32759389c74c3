use mathlib.Core.Path.{ap₂}
use lib.Signed.{lt_z}
use mir.Syntax.{w64}
use mir.Val.{SFits}
use mir.ValLaws.{to_z-of_z}
use borrow.Author.Rules.{rules}
use Rattle.bridge.proofs.Tests.{and_same}
use Rattle.rules.specs.Keys.{shares_day}
use Rattle.windows.proofs.Interval.shares_day.Goals as goal

pub returns : goal.returns
unfolding shares_day
returns c =
    let fits : SFits w64 c.args.self.first = search rules in
    let fits2 : SFits w64 c.args.self.end = search rules in
    let fits3 : SFits w64 c.args.other.first = search rules in
    let fits4 : SFits w64 c.args.other.end = search rules in
    let first = to_z-of_z w64 _ fits in
    let end = to_z-of_z w64 _ fits2 in
    let first2 = to_z-of_z w64 _ fits3 in
    let end2 = to_z-of_z w64 _ fits4 in
    and_same (and_same (ap₂ lt_z first end) (ap₂ lt_z first end2)) (and_same (ap₂ lt_z first2 end) (ap₂ lt_z first2 end2))
