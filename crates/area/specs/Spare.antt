-- The journal's words past the records in use.
-- Assumes nothing.
use Rattle.std.specs.Prelude.{◌≡◌, Bool, true, List, ℕ, ◌+◌, ◌-◌, ◌≤◌, ℤ, length, drop, replicate}
use Rattle.schema.specs.Records.{Schema}
use Rattle.schema.specs.Sizes.{rows_size, rows_start}
use Rattle.rules.specs.Lists.{𝟘}
use Rattle.rules.specs.Book.{zero_records}
use Rattle.bridge.specs.Fit.{work_of}

-- where `clean` says so, they are zero; else nothing is known of them
abbrev pub Spare : Bool → Schema → List ℤ → Type 0
Spare clean s a = clean ≡ true → (work_of s a).spare ≡ zero_records (length (work_of s a).spare)

-- no word from p on is other than zero, and p is not before the journal
pub record DirtyEnd (s : Schema) (a : List ℤ) (p : ℕ) : Type 0 where
  pub after : rows_start + rows_size s.tables ≤ p
  pub inside : p ≤ length a
  pub zeros : drop p a ≡ replicate (length a - p) 𝟘
