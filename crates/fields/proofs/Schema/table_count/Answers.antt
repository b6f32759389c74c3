use mathlib.Core.Path.{◌≡◌, ap}
use Rattle.fields.specs.Accepted.{AcceptedBytes}
use native.Mathlib.Omega.{arith}
use Rattle.schema.proofs.FieldLaws.{header_within, count_tables}
use Rattle.fields.proofs.Schema.table_count.Goals as goal

pub half_at-requires : goal.half_at-requires
half_at-requires c =
    let e : c.self.inside.bytes.now ≡ c.args.self.now.bytes = ap (λ (x : AcceptedBytes). x.bytes) c.self.view_is in
    rw e (omega (arith, header_within c.args.self.now.bytes c.args.self.now.accepted))

pub returns : goal.returns
returns c =
    let e : c.self.inside.bytes.now ≡ c.args.self.now.bytes = ap (λ (x : AcceptedBytes). x.bytes) c.self.view_is in
    count_tables c.args.self.now.bytes c.args.self.now.accepted (rw e at c.half_at.ensures.0)
