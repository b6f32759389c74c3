use mathlib.Core.Path.{ap, ◌∙◌}
use native.Mathlib.Omega.{arith}
use lib.IntN.{ℤ}
use lib.ListN.{set}
use Rattle.words.proofs.Signed.{back}
use Rattle.transactions.proofs.Steps as step
use Rattle.transactions.proofs.open_next.Goals as goal

pub open_level-requires : goal.open_level-requires
open_level-requires c =
    (step.area_long c.requires.0.fit, (omega (arith, step.closed_below c.requires.0.fit c.requires.1.0), omega (arith, step.use_small c.args.schema.now.bytes c.requires.0)))

pub bounds-area-1 : goal.bounds-area-1
bounds-area-1 c = omega (arith, step.area_long c.requires.0.fit, c.open_level.auto.area)

pub returns : goal.returns
returns c =
    let open_level = c.open_level in
    step.open_holds c.requires.0.fit c.requires.1.0 c.args.opener open_level.ensures (ap (λ (z : ℤ). set open_level.new.area 1 z) (back _ c.word_of.type_inv ∙ c.word_of.ensures))
