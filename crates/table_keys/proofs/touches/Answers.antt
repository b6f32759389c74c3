use mathlib.Core.Path.{sym, ap, ◌∙◌}
use Prim.Native.Nat.{ℕ}
use lib.Dec.{eqb}
use Rattle.schema.specs.Fields.{schema_of}
use Rattle.schema.specs.Records.{ForeignKey, key_of}
use Rattle.table_keys.proofs.TouchLaws.{touches_child, touches_parent}
use Rattle.table_keys.proofs.touches.Goals as goal

pub returns-then-child-t : goal.returns-then-child-t
returns-then-child-t c =
    let a = c.args in
    let k : ForeignKey = key_of (schema_of a.schema.now.bytes) a.k in
    let e = c.child-child.ensures.0 in
    ap (λ (p : ℕ). eqb p a.t) e ∙ touches_child a.t k (sym e ∙ c.if-child-t.true)

pub returns-else-child-t : goal.returns-else-child-t
returns-else-child-t c =
    let a = c.args in
    let k : ForeignKey = key_of (schema_of a.schema.now.bytes) a.k in
    ap (λ (p : ℕ). eqb p a.t) c.parent-parent.ensures ∙ touches_parent a.t k (λ e. c.if-child-t.false (c.child-child.ensures.0 ∙ e))
