use Rattle.std.proofs.Common.{ap}
use Rattle.rules.specs.Refusals.{accepted}
use Rattle.fresh_area.proofs.FreshLaws.{fresh_reached}
use Rattle.hoofrun.proofs.run_area.Goals as goal

pub run_input-requires : goal.run_input-requires
unfolding accepted
run_input-requires g c =
    fresh_reached c.args.schema.now c.args.area.now c.make_fresh-answer.ensures (ap accepted c.in-Ok.is)
