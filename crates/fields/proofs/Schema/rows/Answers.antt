use mathlib.Core.Path.{◌≡◌, ap}
use Rattle.fields.specs.Accepted.{AcceptedBytes}
use native.Mathlib.Omega.{arith}
use Rattle.schema.proofs.FieldLaws.{table_within, read_rows}
use Rattle.fields.proofs.Schema.rows.Goals as goal

pub overflow_mul-t : goal.overflow_mul-t
overflow_mul-t c =
    let e : c.self.inside.bytes.now ≡ c.args.self.now.bytes = ap (λ (x : AcceptedBytes). x.bytes) c.self.view_is in
    omega (arith, table_within c.self.inside.bytes.now c.self.inside.accepted c.args.t (rw e c.requires))

pub overflow_add-t : goal.overflow_add-t
overflow_add-t c =
    let e : c.self.inside.bytes.now ≡ c.args.self.now.bytes = ap (λ (x : AcceptedBytes). x.bytes) c.self.view_is in
    omega (arith, table_within c.self.inside.bytes.now c.self.inside.accepted c.args.t (rw e c.requires))

pub half_at-requires : goal.half_at-requires
half_at-requires c =
    let e : c.self.inside.bytes.now ≡ c.args.self.now.bytes = ap (λ (x : AcceptedBytes). x.bytes) c.self.view_is in
    rw e (omega (arith, table_within c.args.self.now.bytes c.args.self.now.accepted c.args.t c.requires))

pub returns : goal.returns
returns c =
    let e : c.self.inside.bytes.now ≡ c.args.self.now.bytes = ap (λ (x : AcceptedBytes). x.bytes) c.self.view_is in
    read_rows c.args.self.now.bytes c.args.self.now.accepted c.args.t c.requires (rw e at c.half_at.ensures.0)
