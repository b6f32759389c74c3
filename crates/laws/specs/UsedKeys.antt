-- The row changes of a call, and the foreign keys that they use.
-- Assumes nothing.
use Rattle.std.specs.Prelude.{◌≡◌, Bool, true, false, ℕ, ℤ, Err}
use Rattle.schema.specs.Records.{Schema}
use Rattle.rules.specs.declared.Refusal.{Refusal}
use Rattle.rules.specs.Refusals.{did}
use Rattle.rules.specs.Lists.{any}
use Rattle.rules.specs.Rows.{Row, row_at}
use Rattle.rules.specs.Keys.{uses_broken}
use Rattle.rules.specs.Book.{Work, Book, write}
use Rattle.rules.specs.Calls.{Call, malformed, insert, update, delete, begin, savepoint, release, rollback_to, rollback, commit, delete_where, update_where}
use Rattle.rules.specs.Statement.{Turn}

-- from the first to the second by row changes, none of which uses a broken key
pub data Unbroken (s : Schema) : Work → Work → Type 0 where
  done : {w : Work} → Unbroken s w w
  next : {w v : Work} (t r : ℕ) (new : Row) → any (uses_broken new t (row_at t r w.tabs)) s.keys ≡ false → Unbroken s (write t r new w) v → Unbroken s w v

-- a turn that is accepted wrote such row changes, or nothing
pub data WroteUnbroken (s : Schema) (b : Book) : Turn → Type 0 where
  refused : {r : Refusal} {b' : Book} → WroteUnbroken s b (Err r, b')
  wrote : {n : ℕ} {m : ℤ} {b' : Book} {w : Work} → Unbroken s b.work w → b'.work.tabs ≡ w.tabs → WroteUnbroken s b (did n m, b')

-- the calls that undo row changes and make none
unfoldable pub rolls_back : Call → Bool
rolls_back malformed = false
rolls_back (insert t r m vs) = false
rolls_back (update t r m vs) = false
rolls_back (delete t r) = false
rolls_back begin = false
rolls_back savepoint = false
rolls_back (release a) = false
rolls_back (rollback_to a) = true
rolls_back rollback = true
rolls_back commit = false
rolls_back (delete_where t c m v) = false
rolls_back (update_where t c m v d y) = false
