use mathlib.Core.Path.{◌≡◌}
use lib.IntN.{pos}
use lib.ListN.{take, replicate}
use lib.Seq.{sets}
use Rattle.schema.specs.Fields.{schema_of}
use Rattle.bridge.specs.Fit.{work_of}
use Rattle.row_orphans.proofs.CountLaws.{row_list}
use Rattle.row_orphans.proofs.row_counts.Given as goal

abbrev pub invariant-loop-k : goal.invariant-loop-k
invariant-loop-k l = l.counts ≡ sets (replicate 32 (pos 0)) 0 (take l.k (row_list (schema_of l.schema.bytes) l.t l.r l.fn.x l.fn.y (work_of (schema_of l.schema.bytes) l.area).tabs))
