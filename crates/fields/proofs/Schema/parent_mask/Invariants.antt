use mathlib.Core.Path.{◌≡◌}
use Prim.Native.Nat.{◌*◌, ◌≤◌}
use Rattle.schema.specs.Bytes.{column_mask}
use Rattle.schema.specs.Fields
use Rattle.fields.proofs.Schema.parent_mask.Given as goal

abbrev pub invariant-loop-i : goal.invariant-loop-i
invariant-loop-i l =
    record {
      few : l.n ≤ 4;
      all : l.n ≡ Fields.width_of l.self.bytes l.k;
      small : l.mask ≤ 128 * l.i;
      part : l.mask ≡ column_mask (Fields.parent_column_of l.self.bytes l.k) l.i;
    }
