-- Striking out: which calls are left when the refused ones, and rollbacks with what they undid, are struck out.
-- Assumes nothing.
use Rattle.std.specs.Prelude.{◌≡◌, ◌⊎◌, List, [], ◌∷◌, ◌++◌, map, ℕ, suc, pred, ◌-◌, ◌<◌, ℤ, pos, length, get_or, take, drop, replicate, Ok, Err}
use Rattle.schema.specs.Records.{Schema}
use Rattle.schema.specs.Fields.{schema_of}
use Rattle.rules.specs.Lists.{𝟘}
use Rattle.rules.specs.Values.{all_zero}
use Rattle.rules.specs.Refusals.{Answer, accepted}
use Rattle.rules.specs.Keys.{counts}
use Rattle.rules.specs.Calls.{Call, malformed, insert, update, delete, begin, savepoint, release, rollback_to, rollback, commit, delete_where, update_where, parse}
use Rattle.rules.specs.Step.{Logged}
use Rattle.rules.specs.Area.{view}
use Rattle.rules.specs.Engine.{call_on, run_on}

-- "There is a line of calls and a pile of marks". The calls stand with their answers; the marks newest first, so mark a is number (length pile - a)
pub record Struck : Type 0 where
  pub line : List Logged
  pub pile : List ℕ

abbrev pub joined : Logged → List Logged → List Logged
joined x line = line ++ (x ∷ [])

-- an accepted call, by kind. "Striking out and the kept counts cover these two kinds like kinds 1 to 3": kinds 10 and 11 join the line
unfoldable pub place : Call → Logged → Struck → Struck
place malformed x k = k
place (insert t r m vs) x k = record { line = joined x k.line; pile = k.pile }
place (update t r m vs) x k = record { line = joined x k.line; pile = k.pile }
place (delete t r) x k = record { line = joined x k.line; pile = k.pile }
place begin x k = record { line = joined x k.line; pile = length (joined x k.line) ∷ k.pile }
place savepoint x k = record { line = joined x k.line; pile = length (joined x k.line) ∷ k.pile }
place (release a) x k = record { line = joined x k.line; pile = drop (suc (length k.pile) - a) k.pile }
place (rollback_to a) x k =
    let pile : List ℕ = drop (length k.pile - a) k.pile in
    record { line = take (get_or pile 0 0) k.line; pile = pile }
place rollback x k = record { line = take (pred (get_or k.pile (pred (length k.pile)) 0)) k.line; pile = [] }
place commit x k = record { line = joined x k.line; pile = [] }
place (delete_where t c m v) x k = record { line = joined x k.line; pile = k.pile }
place (update_where t c m v d y) x k = record { line = joined x k.line; pile = k.pile }

-- "Refused, of any kind: nothing alters."
unfoldable pub mark : Call → List ℤ → Answer → Struck → Struck
mark c ws (Err r) k = k
mark c ws (Ok d) k = place c (ws, Ok d) k

unfoldable pub marks : List Logged → Struck → Struck
marks [] k = k
marks (x ∷ xs) k = marks xs (mark (parse x.0) x.0 x.1 k)

-- "both empty at first"
unfoldable pub strike : List Logged → Struck
strike log = marks log (record { line = []; pile = [] })

unfoldable pub calls_of : List Logged → List (List ℤ)
calls_of log = map (λ x. x.0) log

-- ---- demand 3

-- "The commit sent next has the form that 'A call' gives it, unused words 0; a release that is a commit counts as one."
abbrev pub commit_words : List ℤ
commit_words = pos 9 ∷ replicate 11 𝟘

abbrev pub release_words : List ℤ
release_words = pos 6 ∷ pos 1 ∷ replicate 10 𝟘

abbrev pub IsCommit : List ℤ → List ℤ → Type 0
IsCommit area c = (c ≡ commit_words) ⊎ ((get_or area 1 𝟘 ≡ pos 2) × (c ≡ release_words))

-- the kept numbers, and the numbers counted from the rows
abbrev pub kept_words : List ℤ → List ℤ
kept_words area = take 32 (drop 4 area)

abbrev pub counted_words : Schema → List ℤ → List ℤ
counted_words s area = counts s (view s area).work.tabs

-- of a list of calls from an area `start`: the calls with their answers, the last area, what is left
module _ (bs : List ℕ) (start : List ℤ) (cs : List (List ℤ)) where
  abbrev pub log_of : List Logged
  log_of = (run_on bs cs start).0

  abbrev pub end_of : List ℤ
  end_of = (run_on bs cs start).1

  abbrev pub left_of : List Logged
  left_of = (strike log_of).line

  -- "A transaction is open while the pile has a mark."
  abbrev pub Open : Type 0
  Open = 0 < length (strike log_of).pile

-- the demand, a single claim about the whole list
pub record Demand3 (bs : List ℕ) (start : List ℤ) (cs : List (List ℤ)) : Type 0 where
  -- what is left, run on another area equal to the start, gets the same answers and ends equal in every word
  pub same : run_on bs (calls_of (left_of bs start cs)) start ≡ (left_of bs start cs, end_of bs start cs)
  -- "The kept orphan numbers are those counted from the rows"
  pub counted : kept_words (end_of bs start cs) ≡ counted_words (schema_of bs) (end_of bs start cs)
  -- "and a commit sent next is accepted exactly when all are zero"
  pub commit_next : Open bs start cs → (c : List ℤ) → IsCommit (end_of bs start cs) c → accepted (call_on bs c (end_of bs start cs)).0 ≡ all_zero (counted_words (schema_of bs) (end_of bs start cs))
