-- What is found before the orphan list is written.
-- Assumes nothing.
use Rattle.std.specs.Prelude.{◌≡◌, List, ℕ, ◌≤◌, ◌<◌, ℤ, pos, Result, Ok, Err, IfOk}
use Rattle.schema.specs.Fields.{schema_of}
use Rattle.rules.specs.declared.Refusal.{Refusal}
use Rattle.rules.specs.declared.Listed.{Listed}
use Rattle.rules.specs.declared.Orphan.{Orphan}
use Rattle.rules.specs.Lists.{𝟘}
use Rattle.rules.specs.Refusals.{number}
use Rattle.rules.specs.OrphanList.{orphan_list, list_answer}
use Rattle.bridge.specs.Fit.{work_of}
use Rattle.bridge.specs.Ready.{Ready}
use Rattle.orphans.specs.KeyRows.{Searched}
use Rattle.orphan_scan.specs.declared.Cursor.{Cursor}
use Rattle.orphan_scan.specs.Scan.{orphans_at}
use Rattle.orphan_plan.specs.declared.Plan.{Plan}

-- the cursor x stands before the orphans l
pub record Stands (bs : List ℕ) (ws : List ℤ) (l : List Orphan) (x : Cursor) : Type 0 where
  pub ready : Ready bs ws
  pub key_is : Searched bs x.orphan.key x.key
  pub left : l ≡ orphans_at bs ws x

-- the answer that a plan leads to: code 0 and the number of orphans; refused, the code and 0
abbrev pub answer_of : Result Plan Refusal → Listed
answer_of (Ok p) = record { code = 𝟘; count = p.total }
answer_of (Err r) = record { code = pos (number r); count = 0 }

-- the plan of a list: the answer; where it has orphans, they fit in the lent list, and the cursor stands before all of them
pub record Planned (bs : List ℕ) (ws : List ℤ) (room : ℕ) (x : Result Plan Refusal) : Type 0 where
  pub answer_is : answer_of x ≡ list_answer bs ws room
  pub fits : IfOk x (λ (p : Plan). p.total ≤ room)
  pub begun : IfOk x (λ (p : Plan). 0 < p.total → Stands bs ws (orphan_list (schema_of bs) (work_of (schema_of bs) ws).tabs) p.at)
