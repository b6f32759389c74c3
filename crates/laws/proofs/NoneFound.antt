-- "Finding no row is no cause to refuse: 0 are changed": where no row is found, kinds 10 and 11 write nothing.
-- Assumes nothing.
use mathlib.Core.Path.{◌≡◌, ap, refl, ◌∙◌}
use mathlib.Core.Bool.{Bool, false}
use Prim.Native.Nat.{ℕ, ◌<◌}
use native.Mathlib.Omega.{arith}
use Rattle.schema.specs.Records.{Schema, table_of}
use Rattle.rules.specs.Rows.{Row, row_at, image}
use Rattle.rules.specs.Book.{Work}
use Rattle.rules.specs.Change.{go, given, change}
use Rattle.rules.specs.Found.{found_turn, rows_found}
use Rattle.bridge.specs.Ready.{result_of}
use Rattle.bridge.proofs.TurnLaws.{turns_start, turns_past}

pub none_found : (s : Schema) (t : ℕ) (found : Row → Bool) (new : Row → Row) (w : Work) → ((i : ℕ) → i < (table_of s t).rows → found (row_at t i w.tabs) ≡ false) → rows_found s t found new w ≡ go w
unfolding rows_found found_turn given result_of
none_found s t found new w none =
    let n : ℕ = (table_of s t).rows in
    turns_start (found_turn s t found new) n w refl
    ∙ turns_past (found_turn s t found new) n 0 n w (omega arith) (omega arith) (λ i low high. ap (λ b. given b (change 16 s t i (new (image t i w.tabs))) w) (none i high)) (omega arith)
