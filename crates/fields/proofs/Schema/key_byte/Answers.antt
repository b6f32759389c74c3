use mathlib.Core.Path.{◌≡◌, ap, ◌∙◌}
use Rattle.fields.specs.Accepted.{AcceptedBytes}
use Prim.Native.Nat.{ℕ, ◌+◌}
use native.Mathlib.Omega.{arith}
use Rattle.schema.specs.Bytes
use Rattle.schema.proofs.FieldLaws.{header_within, key_within}
use Rattle.fields.proofs.Schema.key_byte.Goals as goal

pub key_start-requires : goal.key_start-requires
key_start-requires c =
    let e : c.self.inside.bytes.now ≡ c.args.self.now.bytes = ap (λ (x : AcceptedBytes). x.bytes) c.self.view_is in
    rw e ((header_within _ c.args.self.now.accepted, key_within _ c.args.self.now.accepted _ c.requires.0))

pub byte_at-requires : goal.byte_at-requires
byte_at-requires c =
    let e : c.self.inside.bytes.now ≡ c.args.self.now.bytes = ap (λ (x : AcceptedBytes). x.bytes) c.self.view_is in
    rw e (omega (arith, key_within c.args.self.now.bytes c.args.self.now.accepted c.args.k c.requires.0, (rw e at c.key_start.ensures)))

pub returns : goal.returns
returns c =
    let e : c.self.inside.bytes.now ≡ c.args.self.now.bytes = ap (λ (x : AcceptedBytes). x.bytes) c.self.view_is in
    (rw e at c.byte_at.ensures.0 ∙ ap (λ (at : ℕ). Bytes.byte c.args.self.now.bytes (at + c.args.i)) (rw e at c.key_start.ensures), c.byte_at.ensures.1)
