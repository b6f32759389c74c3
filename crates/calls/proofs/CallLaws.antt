-- Statements, and which call a request is.
-- Assumes nothing.
use mathlib.Core.Path.{◌≡◌, refl, sym, ap, ap₂, ◌∙◌}
use mathlib.Core.Bool.{Bool, true, false, not, beq}
use mathlib.Core.List.{List}
use Prim.Native.Nat.{ℕ, ◌≤◌, ◌<◌}
use lib.IntN.{ℤ}
use lib.ListN.{length, get_or}
use borrow.Author.Tests.{lt-ltb}
use native.Mathlib.Omega.{arith}
use Rattle.schema.specs.Bytes.{bit}
use Rattle.schema.specs.Records.{table_of}
use Rattle.schema.specs.Fields.{schema_of}
use Rattle.std.specs.Prelude.{None, Some, Err}
use Rattle.rules.specs.declared.Refusal.{Refusal}
use Rattle.rules.specs.declared.Refusal.TheVariants.{BadCall, RowState}
use Rattle.rules.specs.Lists.{𝟘}
use Rattle.rules.specs.Values.{nat_of}
use Rattle.rules.specs.Rows.{Row, row_at, live}
use Rattle.rules.specs.Calls.{parse, delete_where, update_where, seeks_null, sets_null}
use Rattle.rules.specs.Book.{Work}
use Rattle.rules.specs.Change.{Result, change}
use Rattle.rules.specs.Statement.{check, statement, row_statement}
use Rattle.rules.specs.Step.{act}
use Rattle.rules.specs.Area.{AreaTurn, view, on_words}
use Rattle.bridge.specs.Fit.{Fit, work_of}
use Rattle.bridge.specs.Ready.{Sound}
use Rattle.bridge.proofs.HoldLaws.{turn_same}
use Rattle.call_form.specs.declared.RowPlace.{RowPlace}
use Rattle.call_form.specs.declared.ColumnPlace.{ColumnPlace}
use Rattle.call_form.specs.declared.Request.{Request}
use Rattle.call_form.specs.declared.Request.TheVariants as request
use Rattle.call_form.specs.Requests.{call_of, call_read, judged}
use Rattle.call_form.proofs.Requested.{insert_row, update_row, delete_row, delete_found, update_found, update_set, release_level, rollback_level}
use Rattle.found.specs.declared.Cell.{Cell}
use Rattle.found.specs.declared.Given.TheVariants.{Deleted, Set}
use Rattle.found.specs.Sought.{cell_with, sets_in, found_changes, Search}
use Rattle.found.proofs.SoughtLaws.{deleted_with, set_with}
use Rattle.rows.proofs.TableLaws.{columns_few}
use Rattle.calls.specs.RowCall.{RowCall, stands_as, placed_statement}
use Rattle.calls.specs.FoundCall.{cell_of, FoundCall}

-- ---- statements
module _ (b : List ℕ) (a : List ℤ) (p : RowPlace) (f : Fit (schema_of b) a) (new : Row) {v : Bool} (e : v ≡ live (row_at p.table p.row (work_of (schema_of b) a).tabs)) where
  abbrev stated : Bool → AreaTurn
  stated fits = on_words (row_statement (schema_of b) fits p.table p.row new (view (schema_of b) a))

  row_refused : (fits : Bool) → fits ≡ false → (Err RowState, a) ≡ stated fits
  unfolding row_statement check
  row_refused fits h = turn_same f (rw h refl)

  row_stated : (fits : Bool) → fits ≡ true → on_words (statement (schema_of b) (change 16 (schema_of b) p.table p.row new) (view (schema_of b) a)) ≡ stated fits
  unfolding row_statement check
  row_stated fits h = rw h refl

  -- the row does not stand as is asked, or does
  pub placed_refused : (asked : Bool) → not (beq v asked) ≡ true → (Err RowState, a) ≡ on_words (placed_statement (schema_of b) p asked new (view (schema_of b) a))
  unfolding work_of
  placed_refused asked h = row_refused _ (ap (stands_as asked) (sym e) ∙ other asked v h)
    where
      other : (asked v : Bool) → not (beq v asked) ≡ true → stands_as asked v ≡ false
      other true true h = sym h
      other true false h = refl
      other false true h = refl
      other false false h = sym h

  pub placed_stated : (asked : Bool) → not (beq v asked) ≡ false → {x : AreaTurn} → x ≡ on_words (statement (schema_of b) (change 16 (schema_of b) p.table p.row new) (view (schema_of b) a)) → x ≡ on_words (placed_statement (schema_of b) p asked new (view (schema_of b) a))
  unfolding work_of
  placed_stated asked h o = o ∙ row_stated _ (ap (stands_as asked) (sym e) ∙ same asked v h)
    where
      same : (asked v : Bool) → not (beq v asked) ≡ false → stands_as asked v ≡ true
      same true true h = refl
      same true false h = sym h
      same false true h = sym h
      same false false h = refl

-- a call that cannot be read is refused by 4, and nothing is written
pub malformed_call : (b : List ℕ) (a c : List ℤ) → Sound b a → (e : Refusal) → (Err BadCall, a) ≡ on_words (act (schema_of b) (call_read (Err e) c) (view (schema_of b) a))
unfolding act
malformed_call b a c h e = turn_same {t = act (schema_of b) (call_read (Err e) c) (view (schema_of b) a)} h.ready.fit refl

-- a row that must be live is not, or is
pub other_than_live : {v : Bool} → v ≡ false → not (beq v true) ≡ true
other_than_live e = rw e refl

pub as_live : {v : Bool} → v ≡ true → not (beq v true) ≡ false
as_live e = rw e refl

-- ---- every row found
module _ (ws : List ℤ) (c i k : ℕ) {m : ℕ} {null : Bool} (e : m ≡ nat_of (get_or ws 3 𝟘)) (f : null ≡ bit i m) where
  pub cell_null : null ≡ true → record { column = c; value = None } ≡ cell_of ws c i k
  unfolding cell_of cell_with
  cell_null h = ap (λ (n : Bool). cell_with c n (get_or ws k 𝟘)) (sym h ∙ f ∙ ap (bit i) e)

  pub cell_value : null ≡ false → {v : ℤ} → v ≡ get_or ws k 𝟘 → record { column = c; value = Some v } ≡ cell_of ws c i k
  unfolding cell_of cell_with
  cell_value h g = rw g (ap (λ (n : Bool). cell_with c n (get_or ws k 𝟘)) (sym h ∙ f ∙ ap (bit i) e))

module _ (b : List ℕ) (a ws : List ℤ) (p : ColumnPlace) (h : FoundCall b a ws p) {sought : Cell} (e : sought ≡ cell_of ws p.column 0 4) where
  pub search_deleted : Search (schema_of b) p.table sought Deleted
  unfolding cell_of cell_with sets_in
  search_deleted = rw e (record { table = h.table; column = h.column; set = refl })

  pub delete_found_stated : (x : AreaTurn) → x ≡ on_words (statement (schema_of b) (found_changes (schema_of b) p.table sought Deleted) (view (schema_of b) a))
      → x ≡ on_words (act (schema_of b) (delete_where p.table p.column (nat_of (get_or ws 3 𝟘)) (get_or ws 4 𝟘)) (view (schema_of b) a))
  unfolding act cell_of seeks_null
  delete_found_stated x o =
      o ∙ ap (λ (y : Cell). on_words (statement (schema_of b) (found_changes (schema_of b) p.table y Deleted) (view (schema_of b) a))) e
      ∙ ap (λ (f : Work → Result). on_words (statement (schema_of b) f (view (schema_of b) a))) (deleted_with (schema_of b) p.table p.column (bit 0 (nat_of (get_or ws 3 𝟘))) (get_or ws 4 𝟘))

  module _ {d : ℕ} {cell : Cell} (f : d ≡ nat_of (get_or ws 5 𝟘)) (g : cell ≡ cell_of ws d 1 6) where
    set_is : cell ≡ cell_of ws (nat_of (get_or ws 5 𝟘)) 1 6
    set_is = g ∙ ap (λ (n : ℕ). cell_of ws n 1 6) f

    pub search_set : nat_of (get_or ws 5 𝟘) < (table_of (schema_of b) p.table).columns → Search (schema_of b) p.table sought (Set cell)
    unfolding cell_of cell_with sets_in
    search_set l = rw (e, set_is) (record { table = h.table; column = h.column; set = lt-ltb _ _ l })

    pub update_found_stated : nat_of (get_or ws 5 𝟘) < (table_of (schema_of b) p.table).columns → (x : AreaTurn) → x ≡ on_words (statement (schema_of b) (found_changes (schema_of b) p.table sought (Set cell)) (view (schema_of b) a))
        → x ≡ on_words (act (schema_of b) (update_where p.table p.column (nat_of (get_or ws 3 𝟘)) (get_or ws 4 𝟘) (nat_of (get_or ws 5 𝟘)) (get_or ws 6 𝟘)) (view (schema_of b) a))
    unfolding act cell_of seeks_null sets_null
    update_found_stated l x o =
        let few = columns_few b h.sound.ready.accepted p.table h.table in
        o ∙ ap₂ (λ (y z : Cell). on_words (statement (schema_of b) (found_changes (schema_of b) p.table y (Set z)) (view (schema_of b) a))) e set_is
        ∙ ap (λ (f : Work → Result). on_words (statement (schema_of b) f (view (schema_of b) a)))
        (set_with (schema_of b) p.table p.column (bit 0 (nat_of (get_or ws 3 𝟘))) (get_or ws 4 𝟘) (nat_of (get_or ws 5 𝟘)) (bit 1 (nat_of (get_or ws 3 𝟘))) (get_or ws 6 𝟘) (omega (arith, l, few)))

-- ---- dispatch
module _ (b : List ℕ) (a c : List ℤ) (x : Request) (h : Sound b a) (e : call_of x c ≡ judged (schema_of b) (parse c)) where
  read_as : {y : Request} → x ≡ y → call_of y c ≡ judged (schema_of b) (parse c)
  read_as q = ap (λ (z : Request). call_of z c) (sym q) ∙ e

  pub insert_call : {p : RowPlace} → x ≡ request.Insert p → RowCall b a p × (length c ≡ 12)
  insert_call {p} q = let r = insert_row (schema_of b) c p (read_as q) in (record { sound = h; table = r.table; row = r.row }, r.size)

  pub update_call : {p : RowPlace} → x ≡ request.Update p → RowCall b a p × (length c ≡ 12)
  update_call {p} q = let r = update_row (schema_of b) c p (read_as q) in (record { sound = h; table = r.table; row = r.row }, r.size)

  pub delete_call : {p : RowPlace} → x ≡ request.Delete p → RowCall b a p
  delete_call {p} q = let r = delete_row (schema_of b) c p (read_as q) in record { sound = h; table = r.table; row = r.row }

  pub delete_found_call : {p : ColumnPlace} → x ≡ request.DeleteWhere p → FoundCall b a c p
  delete_found_call {p} q = let r = delete_found (schema_of b) c p (read_as q) in record { sound = h; table = r.table; column = r.column; size = r.size }

  pub update_found_call : {p : ColumnPlace} → x ≡ request.UpdateWhere p → FoundCall b a c p × (nat_of (get_or c 5 𝟘) < (table_of (schema_of b) p.table).columns)
  update_found_call {p} q = let r = update_found (schema_of b) c p (read_as q) in (record { sound = h; table = r.table; column = r.column; size = r.size }, update_set (schema_of b) c p (read_as q))

  pub release_call : {n : ℕ} → x ≡ request.Release n → 1 ≤ n
  release_call {n} q = (release_level (schema_of b) c n (read_as q)).low

  pub rollback_call : {n : ℕ} → x ≡ request.RollbackTo n → 1 ≤ n
  rollback_call {n} q = (rollback_level (schema_of b) c n (read_as q)).low
