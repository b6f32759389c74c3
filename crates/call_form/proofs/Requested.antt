-- What a request that was read says of its call.
-- Assumes nothing.
use mathlib.Core.Path.{◌≡◌, refl, sym, ◌∙◌, ap}
use mathlib.Core.Bool.{Bool, true, false, ◌&&◌}
use mathlib.Core.List.{List}
use Prim.Native.Nat.{ℕ, ◌≤◌, ◌<◌}
use native.Mathlib.Omega.{arith}
use borrow.Author.Tests.{leb-true, ltb-true, ltb-false, eqb-true}
use lib.Dec.{leb, ltb, eqb}
use lib.IntN.{ℤ}
use lib.ListN.{length, get_or, get_or-eq_default}
use Rattle.schema.specs.Bounds.{Within}
use Rattle.schema.specs.Records.{Table, Schema, no_table, table_of}
use Rattle.schema.proofs.RangeLaws.{and_left, and_right}
use Rattle.schema.proofs.Formed.{and3}
use Rattle.rules.specs.Lists.{𝟘}
use Rattle.rules.specs.Values.{nat_of, natural}
use Rattle.rules.specs.Calls.{Call, malformed, insert, update, delete, begin, savepoint, release, rollback_to, rollback, commit, delete_where, update_where, formed_if, parsed, parse, in_table, in_columns, seeks_null, sets_null, value_fits, level_number, allowed}
use Rattle.bridge.proofs.UndoWords.{in_tables}
use Rattle.call_form.specs.declared.RowPlace.{RowPlace}
use Rattle.call_form.specs.declared.ColumnPlace.{ColumnPlace}
use Rattle.call_form.specs.declared.Request.{Request}
use Rattle.call_form.specs.declared.Request.TheVariants.{Insert, Update, Delete, Begin, Savepoint, Release, RollbackTo, Rollback, Commit, DeleteWhere, UpdateWhere}
use Rattle.call_form.specs.Requests.{call_of, judged}

-- a table past the last has no column
pub no_column : (s : Schema) (t : ℕ) → length s.tables ≤ t → (table_of s t).columns ≡ 0
no_column s t h = ap (λ (x : Table). x.columns) (get_or-eq_default s.tables no_table h)

column_table : (s : Schema) (t c : ℕ) → c < (table_of s t).columns → t < length s.tables
column_table s t c h = by (ltb t (length s.tables)) refl
  where
    by : (b : Bool) → ltb t (length s.tables) ≡ b → t < length s.tables
    by true e = ltb-true t (length s.tables) e
    by false e = absurd (omega (arith, h, no_column s t (ltb-false t (length s.tables) e)))

-- a row request: its row is in its table, and the call has twelve words
pub record RowRequest (s : Schema) (ws : List ℤ) (p : RowPlace) : Type 0 where
  pub table : p.table < length s.tables
  pub row : p.row < (table_of s p.table).rows
  pub size : length ws ≡ 12

-- a request for the rows found: the column that is searched is in its table, and the call has twelve words
pub record FoundRequest (s : Schema) (ws : List ℤ) (p : ColumnPlace) : Type 0 where
  pub table : p.table < length s.tables
  pub column : p.column < (table_of s p.table).columns
  pub size : length ws ≡ 12

-- a call that is not refused
unfoldable is_call : Call → Bool
is_call malformed = false
is_call (insert t r m vs) = true
is_call (update t r m vs) = true
is_call (delete t r) = true
is_call begin = true
is_call savepoint = true
is_call (release a) = true
is_call (rollback_to a) = true
is_call rollback = true
is_call commit = true
is_call (delete_where t c m v) = true
is_call (update_where t c m v d y) = true

-- a request's call is not refused
request_call : (r : Request) (ws : List ℤ) → is_call (call_of r ws) ≡ true
unfolding is_call call_of
request_call (Insert p) ws = refl
request_call (Update p) ws = refl
request_call (Delete p) ws = refl
request_call Begin ws = refl
request_call Savepoint ws = refl
request_call (Release a) ws = refl
request_call (RollbackTo a) ws = refl
request_call Rollback ws = refl
request_call Commit ws = refl
request_call (DeleteWhere p) ws = refl
request_call (UpdateWhere p) ws = refl

-- refusal 4 does not refuse it, and it is the call that was read
pub record Read (s : Schema) (ws : List ℤ) (c : Call) : Type 0 where
  pub allowed_is : allowed s (parse ws) ≡ true
  pub parsed_is : parse ws ≡ c

read_allowed : {s : Schema} {ws : List ℤ} {c : Call} → Read s ws c → allowed s c ≡ true
read_allowed {s} q = ap (allowed s) (sym q.parsed_is) ∙ q.allowed_is

no_call : (c : Call) → c ≡ malformed → is_call c ≡ true → ⊥
unfolding is_call
no_call c e h = let z : true ≡ false = sym h ∙ ap is_call e in let y : ◌≡◌ {A = ℕ} 0 1 = cc in omega arith

module _ (s : Schema) (ws : List ℤ) where
  read_is : (c : Call) → is_call c ≡ true → c ≡ judged s (parse ws) → Read s ws c
  unfolding judged formed_if
  read_is c h e = go (allowed s (parse ws)) refl
    where
      go : (t : Bool) → allowed s (parse ws) ≡ t → Read s ws c
      go true q = record { allowed_is = q; parsed_is = sym (e ∙ ap (λ t. formed_if t (parse ws)) q) }
      go false q = absurd (no_call c (e ∙ ap (λ t. formed_if t (parse ws)) q) h)

  -- where no request was read, refusal 4 refuses the call
  pub refused_is : malformed ≡ judged s (parse ws) → allowed s (parse ws) ≡ false
  unfolding judged formed_if allowed
  refused_is e = go (allowed s (parse ws)) refl
    where
      go : (t : Bool) → allowed s (parse ws) ≡ t → t ≡ false
      go false q = refl
      go true q = sym q ∙ ap (allowed s) (sym (e ∙ ap (λ t. formed_if t (parse ws)) q))

  size_is : (c : Call) → is_call c ≡ true → parse ws ≡ c → length ws ≡ 12
  unfolding parse formed_if
  size_is c h e = go (eqb (length ws) 12) refl
    where
      go : (t : Bool) → eqb (length ws) 12 ≡ t → length ws ≡ 12
      go true q = eqb-true (length ws) 12 q
      go false q = absurd (no_call c (sym e ∙ ap (λ t. formed_if (t && natural (get_or ws 0 𝟘)) (parsed (nat_of (get_or ws 0 𝟘)) ws)) q) h)

  column_is : (t c : ℕ) → in_columns s t c ≡ true → c < (table_of s t).columns
  unfolding in_columns
  column_is t c h = ltb-true c (table_of s t).columns h

  level_is : (a : ℕ) → level_number a ≡ true → Within 1 9 a
  unfolding level_number
  level_is a e = record { low = leb-true 1 a (and_left (leb 1 a) (leb a 9) e); high = leb-true a 9 (and_right (leb 1 a) (leb a 9) e) }

  -- a request that was read
  module _ (x : Request) (e : call_of x ws ≡ judged s (parse ws)) where
    pub request_read : Read s ws (call_of x ws)
    request_read = read_is (call_of x ws) (request_call x ws) e

    request_allowed : allowed s (call_of x ws) ≡ true
    request_allowed = read_allowed request_read

    request_size : length ws ≡ 12
    request_size = size_is (call_of x ws) (request_call x ws) request_read.parsed_is

    row_is : (p : RowPlace) → (allowed s (call_of x ws) ≡ true → in_table s p.table p.row ≡ true) → RowRequest s ws p
    unfolding in_table
    row_is p f =
        let l : p.row < (table_of s p.table).rows = ltb-true p.row (table_of s p.table).rows (f request_allowed) in
        record { table = in_tables s p.table p.row l; row = l; size = request_size }

    found_is : (p : ColumnPlace) → (allowed s (call_of x ws) ≡ true → in_columns s p.table p.column ≡ true) → FoundRequest s ws p
    found_is p f =
        let l : p.column < (table_of s p.table).columns = column_is p.table p.column (f request_allowed) in
        record { table = column_table s p.table p.column l; column = l; size = request_size }

  module _ (p : RowPlace) where
    pub insert_row : call_of (Insert p) ws ≡ judged s (parse ws) → RowRequest s ws p
    unfolding call_of allowed
    insert_row e = row_is (Insert p) e p (and_left (in_table s p.table p.row) _)

    pub update_row : call_of (Update p) ws ≡ judged s (parse ws) → RowRequest s ws p
    unfolding call_of allowed
    update_row e = row_is (Update p) e p (and_left (in_table s p.table p.row) _)

    pub delete_row : call_of (Delete p) ws ≡ judged s (parse ws) → RowRequest s ws p
    unfolding call_of allowed
    delete_row e = row_is (Delete p) e p (λ h. h)

  module _ (p : ColumnPlace) where
    abbrev here : Bool
    here = in_columns s p.table p.column

    abbrev m : ℕ
    m = nat_of (get_or ws 3 𝟘)

    pub delete_found : call_of (DeleteWhere p) ws ≡ judged s (parse ws) → FoundRequest s ws p
    unfolding call_of allowed
    delete_found e = found_is (DeleteWhere p) e p (λ h. (and3 here (ltb m 2) (value_fits (seeks_null m) (get_or ws 4 𝟘)) h).0)

    module _ (e : call_of (UpdateWhere p) ws ≡ judged s (parse ws)) where
      -- what refusal 4 lets pass of an update of the rows found
      update_passed : (here ≡ true) × (in_columns s p.table (nat_of (get_or ws 5 𝟘)) ≡ true)
      unfolding call_of allowed
      update_passed =
          let columns : Bool = here && in_columns s p.table (nat_of (get_or ws 5 𝟘)) in
          let q = and_left (columns && ltb m 4 && value_fits (seeks_null m) (get_or ws 4 𝟘)) (value_fits (sets_null m) (get_or ws 6 𝟘)) (request_allowed (UpdateWhere p) e) in
          let r : columns ≡ true = (and3 columns (ltb m 4) (value_fits (seeks_null m) (get_or ws 4 𝟘)) q).0 in
          (and_left here _ r, and_right here _ r)

      pub update_found : FoundRequest s ws p
      update_found = found_is (UpdateWhere p) e p (λ h. update_passed.0)

      pub update_set : nat_of (get_or ws 5 𝟘) < (table_of s p.table).columns
      update_set = column_is p.table (nat_of (get_or ws 5 𝟘)) update_passed.1

  module _ (a : ℕ) where
    pub release_level : call_of (Release a) ws ≡ judged s (parse ws) → Within 1 9 a
    unfolding call_of allowed
    release_level e = level_is a (request_allowed (Release a) e)

    pub rollback_level : call_of (RollbackTo a) ws ≡ judged s (parse ws) → Within 1 9 a
    unfolding call_of allowed
    rollback_level e = level_is a (request_allowed (RollbackTo a) e)
