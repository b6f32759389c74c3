use mathlib.Core.Path.{ap₂}
use Prim.Native.Nat.{◌+◌}
use native.Mathlib.Omega.{arith}
use Rattle.schema.proofs.SchemaLaws.{accepted_valid}
use Rattle.schema.specs.Records.{key_of}
use Rattle.schema.specs.Fields.{schema_of}
use Rattle.bridge.specs.Fit.{work_of}
use Rattle.row_orphans.specs.RowOrphans.{row_orphans}
use Rattle.row_orphans.proofs.MaskLaws.{not_whole, kind_of}
use Rattle.row_orphans.proofs.CountLaws.{others_none}
use Rattle.row_orphans.proofs.key_orphans.Goals as goal

pub bit_of-requires : goal.bit_of-requires
bit_of-requires c = omega (arith, (accepted_valid _ c.requires.0.ready.accepted).few, c.requires.1.1)

pub returns-then-not-bit_of : goal.returns-then-not-bit_of
returns-then-not-bit_of c =
    let a = c.args in
    let miss = not_whole c.requires.1.0 a.k c.requires.1.1 c.bit_of.ensures c.if-not-bit_of.true in
    (others_none a.turn.now.t a.turn.now.r a.turn.now.new a.turn.now.old (work_of (schema_of a.schema.now.bytes) a.area.now).tabs (key_of (schema_of a.schema.now.bytes) a.k) miss, omega arith)

pub bit_of-windowed-requires : goal.bit_of-windowed-requires
bit_of-windowed-requires c = omega (arith, (accepted_valid _ c.requires.0.ready.accepted).few, c.requires.1.1)

pub own_orphan-own-requires : goal.own_orphan-own-requires
own_orphan-own-requires c =
    (c.requires.0.ready, kind_of c.requires.1.0 c.args.k c.requires.1.1 c.requires.0.ready.accepted c.bit_of.ensures c.if-not-bit_of.false c.bit_of-windowed.ensures)

pub stranded_rows-requires : goal.stranded_rows-requires
stranded_rows-requires c =
    (c.requires.0, kind_of c.requires.1.0 c.args.k c.requires.1.1 c.requires.0.ready.accepted c.bit_of.ensures c.if-not-bit_of.false c.bit_of-windowed.ensures)

pub returns : goal.returns
unfolding row_orphans
returns c =
    let stranded = c.stranded_rows.ensures in
    let own = c.own_orphan-own.ensures in
    (ap₂ (λ m n. m + n) stranded.0 own.0, omega (arith, stranded.1, own.1))
