-- Undo: undoing the records of a row change, newest first, gives back the rows; whether it was accepted or refused half way.
-- Assumes nothing.
use mathlib.Core.Path.{◌≡◌, ap}
use mathlib.Core.Bool.{Bool, true}
use Prim.Native.Nat.{ℕ}
use lib.ListN.{length}
use Rattle.schema.specs.Records.{Schema}
use Rattle.schema.proofs.SchemaLaws.{Valid}
use Rattle.rules.specs.Rows.{Row}
use Rattle.rules.specs.Book.{Work, undo_to}
use Rattle.rules.specs.Calls.{in_table}
use Rattle.rules.specs.Change.{change}
use Rattle.rules.specs.Found.{rows_found}
use Rattle.bridge.proofs.Shapes.{Shaped}
use Rattle.bridge.proofs.Undo.{fine_change, fine_found, put_back_all}
use Rattle.bridge.proofs.ClearWords.{work_in, undoes_in}

module _ {s : Schema} (valid : Valid s) (levels t r : ℕ) (new : Row) (there : in_table s t r ≡ true) (w : Work) (shaped : Shaped s w.tabs) where
  pub rows_back : (undo_to (length w.used) (work_in (change levels s t r new w))).tabs ≡ w.tabs
  rows_back = ap (λ (v : Work). v.tabs) (put_back_all (undoes_in (fine_change valid levels t r new there w shaped)))

  pub records_back : (undo_to (length w.used) (work_in (change levels s t r new w))).used ≡ w.used
  records_back = ap (λ (v : Work). v.used) (put_back_all (undoes_in (fine_change valid levels t r new there w shaped)))

-- the rows of kinds 10 and 11
module _ {s : Schema} (valid : Valid s) (t : ℕ) (found : Row → Bool) (new : Row → Row) (w : Work) (shaped : Shaped s w.tabs) where
  pub found_rows_back : (undo_to (length w.used) (work_in (rows_found s t found new w))).tabs ≡ w.tabs
  found_rows_back = ap (λ (v : Work). v.tabs) (put_back_all (undoes_in (fine_found valid t found new w shaped)))

  pub found_records_back : (undo_to (length w.used) (work_in (rows_found s t found new w))).used ≡ w.used
  found_records_back = ap (λ (v : Work). v.used) (put_back_all (undoes_in (fine_found valid t found new w shaped)))
