use native.Mathlib.Omega.{arith}
use Rattle.schema.specs.Fields.{schema_of}
use Rattle.bridge.proofs.HoldLaws.{area_long}
use Rattle.settlement.proofs.KeptLaws as law
use Rattle.area.proofs.SpareLaws.{spare_same}
use borrow.Author.Rules.{rules}
use Rattle.settlement.proofs.write_kept.Goals as goal

pub put_numbers-requires : goal.put_numbers-requires
put_numbers-requires c = omega (arith, area_long c.requires.0.fit)

pub nat_at-requires : goal.nat_at-requires
nat_at-requires c = omega (arith, area_long c.requires.0.fit, c.put_numbers.auto.area)

pub returns-else-nat_at-eq0 : goal.returns-else-nat_at-eq0
returns-else-nat_at-eq0 c =
    law.written_inside c.requires.0.fit c.args.kept (search rules) c.put_numbers.ensures c.nat_at.ensures (omega (arith, c.if-nat_at-eq0.false))

pub empty_journal-requires : goal.empty_journal-requires
empty_journal-requires c =
    let put_numbers = c.put_numbers in
    (record { accepted = c.requires.0.accepted; fit = (law.kept_holds c.requires.0.fit c.args.kept (search rules) put_numbers.ensures).fit }, spare_same (schema_of c.args.schema.now.bytes) c.args.area.now _ c.requires.1 (law.kept_work c.requires.0.fit c.args.kept (search rules) put_numbers.ensures))

pub returns-then-nat_at-eq0 : goal.returns-then-nat_at-eq0
returns-then-nat_at-eq0 c =
    let put_numbers = c.put_numbers in
    let nat_at = c.nat_at in
    let empty_journal = c.empty_journal in
    law.written_outside c.requires.0.fit c.args.kept (search rules) put_numbers.ensures nat_at.ensures (omega (arith, c.if-nat_at-eq0.true)) empty_journal.ensures
