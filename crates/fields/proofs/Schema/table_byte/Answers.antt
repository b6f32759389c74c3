use mathlib.Core.Path.{◌≡◌, ap}
use Rattle.fields.specs.Accepted.{AcceptedBytes}
use native.Mathlib.Omega.{arith}
use Rattle.schema.proofs.FieldLaws.{table_within}
use Rattle.fields.proofs.Schema.table_byte.Goals as goal

pub overflow_mul-t : goal.overflow_mul-t
overflow_mul-t c =
    let e : c.self.inside.bytes.now ≡ c.args.self.now.bytes = ap (λ (x : AcceptedBytes). x.bytes) c.self.view_is in
    omega (arith, table_within c.self.inside.bytes.now c.self.inside.accepted c.args.t (rw e c.requires.0))

pub overflow_add-t : goal.overflow_add-t
overflow_add-t c =
    let e : c.self.inside.bytes.now ≡ c.args.self.now.bytes = ap (λ (x : AcceptedBytes). x.bytes) c.self.view_is in
    omega (arith, table_within c.self.inside.bytes.now c.self.inside.accepted c.args.t (rw e c.requires.0))

pub overflow_add-t-2 : goal.overflow_add-t-2
overflow_add-t-2 c =
    let e : c.self.inside.bytes.now ≡ c.args.self.now.bytes = ap (λ (x : AcceptedBytes). x.bytes) c.self.view_is in
    omega (arith, table_within c.self.inside.bytes.now c.self.inside.accepted c.args.t (rw e c.requires.0))

pub byte_at-requires : goal.byte_at-requires
byte_at-requires c =
    let e : c.self.inside.bytes.now ≡ c.args.self.now.bytes = ap (λ (x : AcceptedBytes). x.bytes) c.self.view_is in
    rw e (omega (arith, table_within c.args.self.now.bytes c.args.self.now.accepted c.args.t c.requires.0))
