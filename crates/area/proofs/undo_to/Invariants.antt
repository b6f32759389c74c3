use mathlib.Core.Path.{◌≡◌}
use lib.IntN.{pos}
use lib.ListN.{get_or}
use Rattle.schema.specs.Fields.{schema_of}
use Rattle.rules.specs.Book.{undo_to}
use Rattle.rules.specs.Values.{nat_of}
use Rattle.bridge.specs.Fit.{work_of, Keeps}
use Rattle.bridge.specs.Ready.{Undoable}
use Rattle.area.proofs.undo_to.Given as goal

abbrev pub invariant-loop-used : goal.invariant-loop-used
invariant-loop-used l = record {
  keeps : Keeps (schema_of l.schema.bytes) l.initial.area l.area;
  undoable : Undoable l.schema.bytes l.area;
  use_is : l.used ≡ nat_of (get_or l.area 2 (pos 0));
  rest : undo_to l.to (work_of (schema_of l.schema.bytes) l.initial.area) ≡ undo_to l.to (work_of (schema_of l.schema.bytes) l.area);
}
