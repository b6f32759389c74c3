use mathlib.Core.Path.{◌≡◌, ap, ◌∙◌}
use Rattle.fields.specs.Accepted.{AcceptedBytes}
use Prim.Native.Nat.{ℕ, ◌+◌}
use native.Mathlib.Omega.{arith}
use Rattle.schema.specs.Bytes
use Rattle.schema.proofs.FieldLaws.{header_within, key_within, read_child_columns}
use Rattle.fields.proofs.Schema.child_columns.Goals as goal

pub key_start-requires : goal.key_start-requires
key_start-requires c =
    let e : c.self.inside.bytes.now ≡ c.args.self.now.bytes = ap (λ (x : AcceptedBytes). x.bytes) c.self.view_is in
    rw e ((header_within _ c.args.self.now.accepted, key_within _ c.args.self.now.accepted _ c.requires))

pub columns_at-requires : goal.columns_at-requires
columns_at-requires c =
    let e : c.self.inside.bytes.now ≡ c.args.self.now.bytes = ap (λ (x : AcceptedBytes). x.bytes) c.self.view_is in
    rw e (omega (arith, key_within c.args.self.now.bytes c.args.self.now.accepted c.args.k c.requires, (rw e at c.key_start.ensures)))

pub returns : goal.returns
returns c =
    let e : c.self.inside.bytes.now ≡ c.args.self.now.bytes = ap (λ (x : AcceptedBytes). x.bytes) c.self.view_is in
    read_child_columns _ c.args.self.now.accepted _ c.requires (rw e at c.columns_at.ensures ∙ ap (λ (p : ℕ). Bytes.four c.args.self.now.bytes (p + 6)) (rw e at c.key_start.ensures))
