-- How much one delete can touch: "an accepted delete changes at most as many rows as the sum, over all live rows, of 1 plus that row's columns that are not NULL and are child columns of a key with SET NULL on delete, each column once."
-- Assumes nothing.
use Rattle.std.specs.Prelude.{Bool, true, false, not, ◌&&◌, List, [], ◌∷◌, ◌≢◌, ℕ, suc, ◌+◌, ◌-◌, ◌≤◌, eqb, ℤ, get_or, Ok, Err}
use Rattle.schema.specs.declared.Action.{Action}
use Rattle.schema.specs.declared.Action.TheVariants.{NoAction, Restrict, SetNull, SetDefault, Cascade}
use Rattle.schema.specs.Ranges.{all}
use Rattle.schema.specs.Records.{ForeignKey, Schema, table_of, child_key, parent_key}
use Rattle.schema.specs.Fields.{schema_of}
use Rattle.rules.specs.declared.Refusal.TheVariants.{JournalFull}
use Rattle.rules.specs.declared.Numbered.{Numbered}
use Rattle.rules.specs.Lists.{𝟘, any, count, up_from}
use Rattle.rules.specs.Values.{nat_of}
use Rattle.rules.specs.Refusals.{Answer, shown}
use Rattle.rules.specs.Rows.{Row, Tables, live, null_at}
use Rattle.rules.specs.Calls.{Call, delete, delete_where, parse}
use Rattle.rules.specs.Area.{view}
use Rattle.rules.specs.Engine.{call_on}
use Rattle.rules.specs.Questions.{area_verdict, number_answer}

-- ---- the sum

unfoldable pub is_set_null : Action → Bool
is_set_null NoAction = false
is_set_null Restrict = false
is_set_null SetNull = true
is_set_null SetDefault = false
is_set_null Cascade = false

-- column c of table t is a child column of foreign key k, which has SET NULL on delete
unfoldable pub clears : ℕ → ℕ → ForeignKey → Bool
clears t c k = is_set_null k.on_delete && (eqb k.child t && any (eqb c) (child_key k))

-- column c of row x, of table t, is "not NULL", and one of "child columns of a key with SET NULL on delete": "each column once", whatever the number of such keys
unfoldable pub clearable : Schema → ℕ → Row → ℕ → Bool
clearable s t x c = not (null_at x c) && any (clears t c) s.keys

-- a row of table t: if it is live, "1 plus that row's columns"
unfoldable pub row_bound : Schema → ℕ → Row → ℕ
row_bound s t x = elim (live x) [ true ↦ suc (count (clearable s t x) (up_from 0 (table_of s t).columns)) | false ↦ 0 ]

-- some rows of table t
unfoldable pub rows_bound : Schema → ℕ → List Row → ℕ
rows_bound s t [] = 0
rows_bound s t (x ∷ xs) = row_bound s t x + rows_bound s t xs

-- some tables, where the first has number t
unfoldable pub tables_bound : Schema → ℕ → Tables → ℕ
tables_bound s t [] = 0
tables_bound s t (rows ∷ tabs) = rows_bound s t rows + tables_bound s (suc t) tabs

-- "the sum, over all live rows"
unfoldable pub delete_bound : Schema → Tables → ℕ
delete_bound s tabs = tables_bound s 0 tabs

-- ---- the schemas that the claim is about

-- column c of table t "belongs to a parent key or a window": of a foreign key with that parent table. A broken key has no parent key
unfoldable pub in_parent_key : Schema → ℕ → ℕ → Bool
in_parent_key s t c = any (λ p. not p.broken && (eqb p.parent t && any (eqb c) (parent_key p))) s.keys

-- "on-delete actions are all NO ACTION, RESTRICT, SET NULL or CASCADE, and .. no SET NULL child column belongs to a parent key or a window"
unfoldable pub bounded_key : Schema → ForeignKey → Action → Bool
bounded_key s k NoAction = true
bounded_key s k Restrict = true
bounded_key s k SetNull = not (any (in_parent_key s k.child) (child_key k))
bounded_key s k SetDefault = false
bounded_key s k Cascade = true

unfoldable pub bounded : Schema → Bool
bounded s = all (λ k. bounded_key s k k.on_delete) s.keys

-- ---- the claim

-- a delete: of one row (kind 3), or of every row found (kind 10)
pub data Deletes : Call → Type 0 where
  one_row : {t r : ℕ} → Deletes (delete t r)
  found_rows : {t c m : ℕ} {v : ℤ} → Deletes (delete_where t c m v)

-- the sum over the rows of an area
unfoldable pub area_bound : Schema → List ℤ → ℕ
area_bound s ws = delete_bound s (view s ws).work.tabs

-- the journal records of an area that are free
unfoldable pub free_records : Schema → List ℤ → ℕ
free_records s ws = s.room - nat_of (get_or ws 2 𝟘)

-- the answer to a delete, where the sum is n: it "changes at most as many rows" (refused, none), and where so many records are free it "is never refused 15"
pub record WithinBound (n free : ℕ) (a : Answer) : Type 0 where
  pub few : (shown a).1 ≤ n
  pub never_full : n ≤ free → a ≢ Err JournalFull

-- "Show it": of every delete, on every area, damaged ones too
abbrev pub BoundsDeletes : List ℕ → Type 0
BoundsDeletes bs = (c ws : List ℤ) → Deletes (parse c) → WithinBound (area_bound (schema_of bs) ws) (free_records (schema_of bs) ws) (call_on bs c ws).0

-- ---- the answer

-- "Provide the sum as an answer, for every schema; it is refused by 1, 3 and 10 only, with the code and 0"
unfoldable pub bound_answer : List ℕ → List ℤ → Numbered
bound_answer bs ws = number_answer (area_verdict bs ws (Ok tt)) (area_bound (schema_of bs) ws)
