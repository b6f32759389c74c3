use mathlib.Core.Path.{refl}
use native.Mathlib.Omega.{arith}
use Rattle.schema.specs.Fields.{schema_of}
use Rattle.transactions.proofs.Steps as step
use Rattle.area.proofs.SpareLaws.{spare_same}
use Rattle.transactions.proofs.end.Goals as goal

pub nat_at-n-requires : goal.nat_at-n-requires
nat_at-n-requires c = omega (arith, step.area_long c.requires.0.fit)

pub close_levels-requires : goal.close_levels-requires
close_levels-requires c =
    (step.area_long c.requires.0.fit, (omega (arith, c.nat_at-n.ensures), step.levels_at_most c.requires.0.fit))

pub slice_set_of-area : goal.slice_set_of-area
slice_set_of-area c = omega (arith, step.area_long c.requires.0.fit, c.close_levels.auto.area)

pub empty_journal-requires : goal.empty_journal-requires
empty_journal-requires c =
    let nat_at = c.nat_at-n in
    let close_levels = c.close_levels in
    let mid = step.end_mid c.requires.0.fit (step.closed_is c.args.area.now close_levels.new.area nat_at.result close_levels.ensures nat_at.ensures) refl in
    (record { accepted = c.requires.0.accepted; fit = mid.fit }, spare_same (schema_of c.args.schema.now.bytes) c.args.area.now _ c.requires.1 (step.end_work c.requires.0.fit (step.closed_is c.args.area.now close_levels.new.area nat_at.result close_levels.ensures nat_at.ensures) refl))

pub returns : goal.returns
returns c =
    let nat_at = c.nat_at-n in
    let close_levels = c.close_levels in
    step.end_holds c.requires.0.fit (step.closed_is c.args.area.now close_levels.new.area nat_at.result close_levels.ensures nat_at.ensures) refl c.empty_journal.ensures
