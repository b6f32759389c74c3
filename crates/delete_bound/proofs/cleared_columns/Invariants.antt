use Prim.Native.Nat.{ℕ}
use Rattle.schema.specs.Marks.{Marks}
use Rattle.schema.specs.Fields.{schema_of}
use Rattle.rules.specs.Lists.{any}
use Rattle.rules.specs.DeleteBound.{clears}
use Rattle.delete_bound.proofs.cleared_columns.Given as goal

abbrev pub invariant-loop-c : goal.invariant-loop-c
invariant-loop-c l = Marks (λ (i : ℕ). any (clears l.t i) (schema_of l.schema.bytes).keys) l.c l.cleared
