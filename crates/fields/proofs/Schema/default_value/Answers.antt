use mathlib.Core.Path.{◌≡◌, ap, ◌∙◌}
use Rattle.fields.specs.Accepted.{AcceptedBytes}
use native.Mathlib.Omega.{arith}
use mir.Syntax.{w64}
use mir.ValLaws.{to_z-of_z}
use Rattle.schema.proofs.FieldLaws.{table_within, read_default}
use Rattle.fields.proofs.Schema.default_value.Goals as goal

pub overflow_mul-t : goal.overflow_mul-t
overflow_mul-t c =
    let e : c.self.inside.bytes.now ≡ c.args.self.now.bytes = ap (λ (x : AcceptedBytes). x.bytes) c.self.view_is in
    omega (arith, table_within c.self.inside.bytes.now c.self.inside.accepted c.args.t (rw e c.requires.0))

pub overflow_add-t : goal.overflow_add-t
overflow_add-t c =
    let e : c.self.inside.bytes.now ≡ c.args.self.now.bytes = ap (λ (x : AcceptedBytes). x.bytes) c.self.view_is in
    omega (arith, table_within c.self.inside.bytes.now c.self.inside.accepted c.args.t (rw e c.requires.0))

pub overflow_add-t-2 : goal.overflow_add-t-2
overflow_add-t-2 c =
    let e : c.self.inside.bytes.now ≡ c.args.self.now.bytes = ap (λ (x : AcceptedBytes). x.bytes) c.self.view_is in
    omega (arith, table_within c.self.inside.bytes.now c.self.inside.accepted c.args.t (rw e c.requires.0))

pub overflow_add-t-3 : goal.overflow_add-t-3
overflow_add-t-3 c =
    let e : c.self.inside.bytes.now ≡ c.args.self.now.bytes = ap (λ (x : AcceptedBytes). x.bytes) c.self.view_is in
    omega (arith, table_within c.self.inside.bytes.now c.self.inside.accepted c.args.t (rw e c.requires.0))

pub signed_at-requires : goal.signed_at-requires
signed_at-requires c =
    let e : c.self.inside.bytes.now ≡ c.args.self.now.bytes = ap (λ (x : AcceptedBytes). x.bytes) c.self.view_is in
    rw e (omega (arith, table_within c.args.self.now.bytes c.args.self.now.accepted c.args.t c.requires.0))

pub returns : goal.returns
returns c =
    let e : c.self.inside.bytes.now ≡ c.args.self.now.bytes = ap (λ (x : AcceptedBytes). x.bytes) c.self.view_is in
    to_z-of_z w64 _ (record { sfits = c.signed_at.type_inv }) ∙ read_default c.args.self.now.bytes c.args.self.now.accepted c.args.t c.requires.0 c.args.c c.requires.1 (rw e at c.signed_at.ensures)
