use native.Mathlib.Omega.{arith}
use borrow.Author.Rules.{rules}
use Rattle.schema.specs.Records.{table_of}
use Rattle.schema.specs.Fields.{schema_of}
use Rattle.images.proofs.AlikeLaws.{alike_self, filled_alike, filled_cell, fill_next, fill_end, written_alike}
use Rattle.images.proofs.refilled.Goals as goal

pub loop-i-init : goal.loop-i-init
loop-i-init c =
    let a = c.args in
    (search rules, filled_alike a.action (table_of (schema_of a.schema.now.bytes) a.t) a.new a.cs.now a.ps.now c.requires.1.0.0 (alike_self a.image (search rules)))

pub filling-value-requires : goal.filling-value-requires
filling-value-requires c =
    let l = c.loop-i in
    let h = c.requires.1.0.0 l.i c.loop-i-test.true in
    let k = c.requires.1.0.1 l.i (omega (arith, c.requires.1.1, c.loop-i-test.true)) in
    (c.requires.0, (omega (arith, h), omega (arith, k)))

pub loop-i-preserved : goal.loop-i-preserved
loop-i-preserved c =
    let a = c.args in
    let l = c.loop-i in
    let h = c.requires.1.0.0 l.i c.loop-i-test.true in
    let T = table_of (schema_of a.schema.now.bytes) a.t in
    let filled = filled_cell a.action T a.new _ _ h l.x c.set_cell-y.result l.invariant.0 c.filling-value.result c.filling-value.ensures c.set_cell-y.ensures in
    (filled.long, fill_next a.action T a.new a.cs.now a.ps.now c.requires.1.0.0 c.requires.1.1 l.i l.x c.loop-i-test.true c.set_cell-y.result filled l.invariant.1)

pub returns : goal.returns
returns c =
    let a = c.args in
    let l = c.loop-i in
    let T = table_of (schema_of a.schema.now.bytes) a.t in
    λ columns few. written_alike columns (fill_end a.action T a.new a.cs.now a.ps.now c.requires.1.0.0 c.requires.1.1 l.i l.x c.loop-i-test.false l.invariant.1)
