use mir.Syntax.{w64}
use mir.Val.{SFits}
use mir.ValLaws.{to_z-of_z}
use lib.ListN.{get_or}
use borrow.Author.Rules.{rules}
use Rattle.rules.specs.Lists.{𝟘}
use Rattle.calls.proofs.CallLaws as law
use Rattle.calls.proofs.cell_of.Goals as goal

pub returns-then-null : goal.returns-then-null
returns-then-null c = law.cell_null c.args.call.now c.args.c c.args.i c.args.k c.nat_at.ensures c.bit_of-null.ensures c.if-null.true

pub returns-else-null : goal.returns-else-null
returns-else-null c =
    let v : SFits w64 (get_or c.args.call.now c.args.k 𝟘) = search rules in
    law.cell_value c.args.call.now c.args.c c.args.i c.args.k c.nat_at.ensures c.bit_of-null.ensures c.if-null.false (to_z-of_z w64 (get_or c.args.call.now c.args.k 𝟘) v)
