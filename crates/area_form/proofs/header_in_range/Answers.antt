use mathlib.Core.Path.{ap, ◌∙◌}
use native.Mathlib.Omega.{arith}
use lib.IntN.{pos}
use lib.ListN.{get_or}
use Rattle.rules.specs.Values.{in_range}
use Rattle.bridge.proofs.Tests.{and_same}
use Rattle.area_form.specs.Damage.{header_in_range}
use Rattle.area_form.proofs.DamageLaws.{sized_long}
use Rattle.area_form.proofs.header_in_range.Goals as goal

pub is_in_range_at-requires : goal.is_in_range_at-requires
is_in_range_at-requires c = omega (arith, sized_long c.requires)

pub is_natural_at-requires : goal.is_natural_at-requires
is_natural_at-requires c = omega (arith, sized_long c.requires)

pub is_in_range_at-requires-2 : goal.is_in_range_at-requires-2
is_in_range_at-requires-2 c = omega (arith, sized_long c.requires)

pub is_zero_at-requires : goal.is_zero_at-requires
is_zero_at-requires c = omega (arith, sized_long c.requires)

pub returns : goal.returns
unfolding header_in_range
returns c =
    let room = c.room-room in
    let is_in_range_at = c.is_in_range_at in
    let is_natural_at = c.is_natural_at in
    let is_in_range_at2 = c.is_in_range_at-2 in
    let a = c.args.area.now in
    and_same
    (and_same (and_same is_in_range_at.ensures is_natural_at.ensures) (is_in_range_at2.ensures ∙ ap (λ n. in_range n (get_or a 2 (pos 0))) room.ensures.0))
    c.is_zero_at.ensures
