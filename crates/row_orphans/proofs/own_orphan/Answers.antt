use mathlib.Core.Path.{sym, ◌∙◌}
use native.Mathlib.Omega.{arith}
use Rattle.schema.specs.Records.{key_of}
use Rattle.schema.specs.Fields.{schema_of}
use Rattle.bridge.specs.Fit.{work_of}
use Rattle.row_orphans.proofs.KeyLaws.{byte_is, byte_few, own_other, own_is}
use Rattle.row_orphans.proofs.own_orphan.Goals as goal

pub returns-then-child-t : goal.returns-then-child-t
returns-then-child-t c =
    let a = c.args in
    let k = key_of (schema_of a.schema.now.bytes) a.k in
    let tabs = (work_of (schema_of a.schema.now.bytes) a.area.now).tabs in
    (own_other k a.t a.image tabs (λ e. c.if-child-t.true (c.child.ensures.0 ∙ e)), omega arith)

pub returns : goal.returns
returns c =
    let a = c.args in
    let k = key_of (schema_of a.schema.now.bytes) a.k in
    let tabs = (work_of (schema_of a.schema.now.bytes) a.area.now).tabs in
    let own = own_is k a.t a.image tabs (sym c.child.ensures.0 ∙ c.if-child-t.false) (sym c.is_orphan.ensures) in
    (c.from.ensures ∙ byte_is c.is_orphan.result ∙ own, omega (arith, c.from.ensures, byte_few c.is_orphan.result))
