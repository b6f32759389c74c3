use mathlib.Core.Path.{◌∙◌}
use native.Mathlib.Omega.{arith}
use Rattle.schema.specs.Fields.{schema_of}
use Rattle.rules.specs.Area.{view}
use Rattle.transactions.proofs.Turns as turn
use Rattle.transactions.proofs.Steps as step
use Rattle.transactions.proofs.is_open.Goals as goal

pub nat_at-n-requires : goal.nat_at-n-requires
nat_at-n-requires c = omega (arith, step.area_long c.requires.0.fit)

pub nat_at-opener-requires : goal.nat_at-opener-requires
nat_at-opener-requires c = omega (arith, step.area_long c.requires.0.fit)

pub returns : goal.returns
returns c =
    let sc = schema_of c.args.schema.now.bytes in
    let a = c.args.area.now in
    let nat_at = c.nat_at-n in
    turn.open_is (view sc a) c.args.a nat_at.result c.nat_at-opener.result c.requires.1 (step.count_is c.requires.0.fit nat_at.ensures) (c.nat_at-opener.ensures ∙ step.opener_word sc a)
