-- A good book is the view of its words.
-- Assumes nothing.
use mathlib.Core.Path.{◌≡◌, ◌∙◌, ap}
use mathlib.Core.Bool.{true}
use Prim.Native.Nat.{◌<◌}
use native.Mathlib.Omega.{arith}
use lib.Dec.{ltb, ltb→lt, lt→ltb}
use lib.ListN.{length}
use Rattle.schema.specs.Records.{Schema, table_of}
use Rattle.schema.proofs.SchemaLaws.{Valid}
use Rattle.rules.specs.Lists.{𝟘}
use Rattle.rules.specs.Book.{Entry, Book}
use Rattle.rules.specs.Calls.{in_table}
use Rattle.rules.specs.State.{placed}
use Rattle.bridge.proofs.Tests.{holds, passes}
use Rattle.bridge.proofs.Shapes.{rows_short}
use Rattle.bridge.proofs.Counts.{length_counts_32}
use Rattle.bridge.proofs.RoundTrip.{Formed, short_row, all_zeros, all_weaker}
use Rattle.laws.proofs.Back.{Good}

placed_short : {s : Schema} → Valid s → (e : Entry) → placed s e ≡ true → short_row e ≡ true
unfolding placed in_table short_row
placed_short {s} v e h =
    let r : e.row < (table_of s e.table).rows = ltb→lt e.row (table_of s e.table).rows (holds h) in
    passes (ltb e.row 1024) (lt→ltb e.row 1024 (omega (arith, rows_short v e.table)))

pub good_formed : {s : Schema} {b : Book} → Valid s → Good s b → Formed s b
good_formed {s} {b} v g =
    record {
      kept_length = ap length g.counted ∙ length_counts_32 s v.few b.work.tabs;
      sizes = g.sizes;
      shuts = rw g.closed_zero (all_zeros 33 𝟘 (length b.closed));
      levels_nine = g.levels_nine;
      shaped = g.shaped;
      olds = g.olds;
      places = all_weaker (placed s) short_row (placed_short v) b.work.used g.places;
      spares = rw g.clean (all_zeros 10 𝟘 (length b.work.spare));
      room = g.room;
    }
