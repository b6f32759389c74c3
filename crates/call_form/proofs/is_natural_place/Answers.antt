use Rattle.bridge.proofs.Tests.{and_same}
use Rattle.call_form.specs.Requests.{natural_place}
use Rattle.call_form.proofs.is_natural_place.Goals as goal

pub returns : goal.returns
unfolding natural_place
returns c = and_same (and_same c.is_natural_at.ensures c.is_natural_at-2.ensures) c.is_natural_at-3.ensures
