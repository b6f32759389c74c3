use mathlib.Core.Path.{ap}
use Prim.Native.Nat.{ℕ}
use lib.Dec.{eqb}
use Rattle.schema.proofs.FieldLaws.{read_deferred}
use Rattle.fields.proofs.Schema.is_deferred.Goals as goal

pub returns : goal.returns
returns c = read_deferred c.args.self.now.bytes c.args.self.now.accepted c.args.k c.requires (ap (λ (x : ℕ). eqb x 1) c.key_byte.ensures.0)
