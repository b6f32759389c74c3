-- Refusal 4: the call that a request is, and what the call's words must give.
-- Assumes nothing.
use Rattle.std.specs.Prelude.{◌≡◌, Bool, ◌&&◌, List, ℕ, ℤ, Option, Some, None, Result, Ok, Err, length, get_or, drop}
use Rattle.schema.specs.Check.{Accepted, check_schema}
use Rattle.schema.specs.Records.{Schema, table_of}
use Rattle.rules.specs.Lists.{𝟘}
use Rattle.rules.specs.Values.{nat_of, natural, all_zero}
use Rattle.rules.specs.declared.Refusal.{Refusal}
use Rattle.rules.specs.Calls.{Call, malformed, insert, update, delete, begin, savepoint, release, rollback_to, rollback, commit, delete_where, update_where, formed_if, in_table, row_fits, level_number, allowed}
use Rattle.call_form.specs.declared.RowPlace.{RowPlace}
use Rattle.call_form.specs.declared.ColumnPlace.{ColumnPlace}
use Rattle.call_form.specs.declared.Request.{Request}
use Rattle.call_form.specs.declared.Request.TheVariants.{Insert, Update, Delete, Begin, Savepoint, Release, RollbackTo, Rollback, Commit, DeleteWhere, UpdateWhere}

-- the call that a request is, with masks and values of the call's words
unfoldable pub call_of : Request → List ℤ → Call
call_of (Insert p) ws = insert p.table p.row (nat_of (get_or ws 3 𝟘)) (drop 4 ws)
call_of (Update p) ws = update p.table p.row (nat_of (get_or ws 3 𝟘)) (drop 4 ws)
call_of (Delete p) ws = delete p.table p.row
call_of Begin ws = begin
call_of Savepoint ws = savepoint
call_of (Release a) ws = release a
call_of (RollbackTo a) ws = rollback_to a
call_of Rollback ws = rollback
call_of Commit ws = commit
call_of (DeleteWhere p) ws = delete_where p.table p.column (nat_of (get_or ws 3 𝟘)) (get_or ws 4 𝟘)
call_of (UpdateWhere p) ws = update_where p.table p.column (nat_of (get_or ws 3 𝟘)) (get_or ws 4 𝟘) (nat_of (get_or ws 5 𝟘)) (get_or ws 6 𝟘)

-- the call that was asked for; where there is no request, refusal 4 refuses the call
abbrev pub asked : Option Request → List ℤ → Call
asked (Some r) ws = call_of r ws
asked None ws = malformed

-- the call as it was read; where it could not be, refusal 4 refuses it
abbrev pub call_read : Result Request Refusal → List ℤ → Call
call_read (Ok r) ws = call_of r ws
call_read (Err e) ws = malformed

-- the call, where refusal 4 does not refuse it
unfoldable pub judged : Schema → Call → Call
judged s c = formed_if (allowed s c) c

-- the schema's bytes are accepted, and the call has twelve words
pub record TwelveWords (b : List ℕ) (ws : List ℤ) : Type 0 where
  pub accepted : check_schema b ≡ Accepted
  pub size : length ws ≡ 12

-- the row, or the column, that words 1 and 2 are, by the table's number and its own
abbrev pub row_place : List ℤ → RowPlace
row_place ws = record { table = nat_of (get_or ws 1 𝟘); row = nat_of (get_or ws 2 𝟘) }

abbrev pub column_place : List ℤ → ColumnPlace
column_place ws = record { table = nat_of (get_or ws 1 𝟘); column = nat_of (get_or ws 2 𝟘) }

-- words 1 and 2 are a table and a row of it
unfoldable pub names_row : Schema → List ℤ → Bool
names_row s ws = natural (get_or ws 1 𝟘) && natural (get_or ws 2 𝟘) && in_table s (nat_of (get_or ws 1 𝟘)) (nat_of (get_or ws 2 𝟘))

-- and words 3 to 11 a mask and values for it
unfoldable pub gives_row : Schema → List ℤ → Bool
gives_row s ws = names_row s ws && natural (get_or ws 3 𝟘) && row_fits (table_of s (nat_of (get_or ws 1 𝟘))) (nat_of (get_or ws 3 𝟘)) (drop 4 ws)

-- word 1 is a level, and the words past it are 0
unfoldable pub names_level : List ℤ → Bool
names_level ws = natural (get_or ws 1 𝟘) && all_zero (drop 2 ws) && level_number (nat_of (get_or ws 1 𝟘))

-- words 1, 2 and 3 are not negative
unfoldable pub natural_place : List ℤ → Bool
natural_place ws = natural (get_or ws 1 𝟘) && natural (get_or ws 2 𝟘) && natural (get_or ws 3 𝟘)
