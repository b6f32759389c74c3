-- The kept numbers settled.
-- Assumes nothing.
use Rattle.std.specs.Prelude.{◌≡◌, Bool, not, List, ℕ, ℤ, take, drop, Ok, Err}
use Rattle.schema.specs.Records.{Schema}
use Rattle.rules.specs.declared.Refusal.TheVariants.{KeptOutOfRange, OrphansLeft}
use Rattle.rules.specs.Lists.{plus}
use Rattle.rules.specs.Refusals.{Verdict, failing}
use Rattle.rules.specs.State.{in_transaction, kept_in_range}
use Rattle.rules.specs.Statement.{enforced, after_statement}
use Rattle.rules.specs.Area.{view}
use Rattle.bridge.specs.Fit.{work_of, Holds}
use Rattle.bridge.specs.Ready.{Ready}
use Rattle.sums.specs.Small.{Small}

-- 19, then 20: whether the kept numbers may be these, inside a transaction or outside
unfoldable pub settle_verdict : Schema → Bool → List ℤ → Verdict
settle_verdict s inside kept =
    failing (not (kept_in_range s s.keys kept)) KeptOutOfRange
    (failing (not (enforced inside s kept)) OrphansLeft (Ok tt))

-- the area settled by a verdict: an accepted statement's book, or nothing written
unfoldable pub After : Schema → Verdict → List ℤ → List ℤ → List ℤ → Type 0
After s (Ok tt) kept a a' = Holds s a' (after_statement (work_of s a) kept (view s a))
After s (Err c) kept a a' = a' ≡ a

-- what settling requires
pub record Settling (b : List ℕ) (a tally : List ℤ) : Type 0 where
  pub ready : Ready b a
  pub kept_small : Small 1024 (take 32 (drop 4 a))
  pub tally_small : Small 1024 tally

-- the verdict on the area's kept numbers, each moved by the tally
abbrev pub settled : Schema → List ℤ → List ℤ → Verdict
settled s tally a = settle_verdict s (in_transaction (view s a).levels) (plus (view s a).kept tally)
