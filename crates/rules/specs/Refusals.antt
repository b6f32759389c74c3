-- The answer: "code (0 or a refusal), rows changed, and the net change in all kept orphans".
-- Assumes nothing.
use Rattle.std.specs.Prelude.{Bool, true, false, ℕ, ℤ, Result, Ok, Err}
use Rattle.rules.specs.Lists.{𝟘}
use Rattle.rules.specs.declared.Refusal.{Refusal}
use Rattle.rules.specs.declared.Refusal.TheVariants.{SchemaMalformed, WrongLength, BadCall, Damaged, RowState, LevelState, LevelsFull, TooDeep, JournalFull, NotNull, NotUnique, Restricted, KeptOutOfRange, OrphansLeft, CommitWithOrphans, ListTooShort, BrokenKey, BadWindow}
use Rattle.rules.specs.declared.Done.{Done}

-- whether checks pass, or which one refuses
abbrev pub Verdict : Type 0
Verdict = Result (Unit {0}) Refusal

-- the answer to a call
abbrev pub Answer : Type 0
Answer = Result Done Refusal

-- accepted: rows changed, and net change in all kept orphans
abbrev pub did : ℕ → ℤ → Answer
did changed net = Ok (record { changed = changed; net = net })

-- the paper's number of a refusal
unfoldable pub number : Refusal → ℕ
number SchemaMalformed = 1
number WrongLength = 3
number BadCall = 4
number Damaged = 10
number RowState = 11
number LevelState = 12
number LevelsFull = 13
number TooDeep = 14
number JournalFull = 15
number NotNull = 16
number NotUnique = 17
number Restricted = 18
number KeptOutOfRange = 19
number OrphansLeft = 20
number CommitWithOrphans = 21
number ListTooShort = 22
number BrokenKey = 23
number BadWindow = 24

-- code, rows changed, net. "Refused: code, 0, 0."
unfoldable pub shown : Answer → ℕ × ℕ × ℤ
shown (Ok d) = (0, d.changed, d.net)
shown (Err r) = (number r, 0, 𝟘)

unfoldable pub accepted : Answer → Bool
accepted (Ok d) = true
accepted (Err r) = false

-- checks in an order: the first that fails refuses
unfoldable pub failing : Bool → Refusal → Verdict → Verdict
failing true c v = Err c
failing false c v = v
