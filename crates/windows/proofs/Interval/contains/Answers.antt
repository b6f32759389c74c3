use mathlib.Core.Path.{ap₂}
use lib.Signed.{le_z, lt_z}
use mir.Syntax.{w64}
use mir.Val.{SFits}
use mir.ValLaws.{to_z-of_z}
use borrow.Author.Rules.{rules}
use Rattle.bridge.proofs.Tests.{and_same}
use Rattle.rules.specs.Keys.{is_within}
use Rattle.windows.proofs.Interval.contains.Goals as goal

pub returns : goal.returns
unfolding is_within
returns c =
    let first : SFits w64 c.args.self.first = search rules in
    let end : SFits w64 c.args.self.end = search rules in
    let day = to_z-of_z w64 c.args.day c.ranges.day in
    and_same (ap₂ le_z (to_z-of_z w64 _ first) day) (ap₂ lt_z day (to_z-of_z w64 _ end))
