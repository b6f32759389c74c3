-- The sum over the rows of a table and over the tables, as they stand in the area; the answer.
-- Assumes nothing.
use mathlib.Core.Path.{◌≡◌, refl, sym, ap, ◌∙◌}
use mathlib.Core.List.{List, []}
use Prim.Native.Nat.{ℕ, ◌+◌, ◌*◌, ◌≤◌, ◌<◌}
use native.Mathlib.Numerals.{add-one}
use native.Mathlib.Omega.{arith}
use lib.IntN.{ℤ, pos}
use lib.ListN.{length, get_or, drop, drop_of_length-le}
use lib.Seq.{drop-cons}
use Rattle.schema.specs.Marks.{Marks}
use Rattle.schema.specs.Records.{Schema, table_of}
use Rattle.schema.specs.Fields.{schema_of}
use Rattle.rules.specs.declared.Refusal.{Refusal}
use Rattle.std.specs.Prelude.{Ok, Err}
use Rattle.rules.specs.Lists.{𝟘, any}
use Rattle.rules.specs.Values.{nat_of}
use Rattle.rules.specs.Refusals.{number}
use Rattle.rules.specs.Rows.{Row, Tables}
use Rattle.rules.specs.Questions.{area_verdict, number_answer}
use Rattle.rules.specs.DeleteBound.{clears, row_bound, rows_bound, tables_bound, delete_bound, area_bound, bound_answer}
use Rattle.bridge.specs.Fit.{work_of}
use Rattle.bridge.specs.Ready.{Ready}
use Rattle.bridge.proofs.RowWords.{formed_fit, tabs_length}
use Rattle.rows.specs.Standing.{RowAt, RowsOf}
use Rattle.rows.specs.declared.TableRows.{TableRows}
use Rattle.rows.proofs.CellLaws.{state_in}
use Rattle.rows.proofs.TableLaws.{rows_many, row_get, row_at_lem, rows_are, standing}
use Rattle.delete_bound.specs.StateBound.{state_bound}
use Rattle.delete_bound.proofs.RowBounds.{row_bound_lem}

-- ---- rows one by one
module _ (s : Schema) (t : ℕ) (rows : List Row) (j : ℕ) where
  rows_none : length rows ≤ j → rows_bound s t (drop j rows) ≡ 0
  unfolding rows_bound
  rows_none h = ap (rows_bound s t) (drop_of_length-le rows h)

  rows_more : j < length rows → rows_bound s t (drop j rows) ≡ row_bound s t (get_or rows j []) + rows_bound s t (drop (j + 1) rows)
  unfolding rows_bound
  rows_more l = ap (rows_bound s t) (drop-cons rows j [] l) ∙ ap (λ (k : ℕ). row_bound s t (get_or rows j []) + rows_bound s t (drop k rows)) (sym (add-one j))

-- the rows of table t
abbrev pub table_rows : List ℕ → List ℤ → ℕ → List Row
table_rows bs a t = get_or (work_of (schema_of bs) a).tabs t []

-- what is left of their sum from row j on
abbrev pub rows_left : List ℕ → List ℤ → ℕ → ℕ → ℕ
rows_left bs a t j = rows_bound (schema_of bs) t (drop j (table_rows bs a t))

module _ (bs : List ℕ) (a : List ℤ) (h : Ready bs a) (t : ℕ) (l : t < length (schema_of bs).tables) (x : TableRows) (e : RowsOf bs t x) where
  many : length (table_rows bs a t) ≡ x.count
  many = ap length (sym (rows_are bs a h t l x e)) ∙ rows_many a x

  module _ (j : ℕ) where
    pub left_none : x.count ≤ j → rows_left bs a t j ≡ 0
    left_none m = rows_none (schema_of bs) t (table_rows bs a t) j (omega (arith, many))

    module _ (m : j < x.count) where
      pub row_here : RowAt a (x.start + j * x.width) x.width
      row_here = row_at_lem a x j m (standing bs a h t l x e)

      state_is : nat_of (get_or a (x.start + j * x.width) 𝟘) ≡ nat_of (get_or (get_or (table_rows bs a t) j []) 0 𝟘)
      state_is =
          ap nat_of (sym (state_in a (x.start + j * x.width) x.width row_here.some))
          ∙ ap (λ (y : Row). nat_of (get_or y 0 𝟘)) (row_get a x j m ∙ ap (λ (rows : List Row). get_or rows j []) (rows_are bs a h t l x e))

      pub left_more : {cleared : ℕ} → Marks (λ c. any (clears t c) (schema_of bs).keys) (table_of (schema_of bs) t).columns cleared → cleared < 256
          → {state n : ℕ} → state ≡ nat_of (get_or a (x.start + j * x.width) 𝟘) → n ≡ state_bound cleared state → rows_left bs a t j ≡ n + rows_left bs a t (j + 1)
      left_more {cleared} marks few {state} {n} q g =
          let row : Row = get_or (table_rows bs a t) j [] in
          let part : row_bound (schema_of bs) t row ≡ n = sym (g ∙ ap (state_bound cleared) (q ∙ state_is) ∙ row_bound_lem (schema_of bs) t marks few row) in
          rows_more (schema_of bs) t (table_rows bs a t) j (omega (arith, many)) ∙ ap (λ (k : ℕ). k + rows_left bs a t (j + 1)) part

-- ---- tables one by one

-- what is left of the sum from table t on
abbrev pub tables_left : List ℕ → List ℤ → ℕ → ℕ
tables_left bs a t = tables_bound (schema_of bs) t (drop t (work_of (schema_of bs) a).tabs)

pub all_left : (bs : List ℕ) (a : List ℤ) → tables_left bs a 0 ≡ area_bound (schema_of bs) a
unfolding area_bound delete_bound work_of
all_left bs a = refl

module _ (bs : List ℕ) (a : List ℤ) (h : Ready bs a) (t : ℕ) where
  abbrev tabs : Tables
  tabs = (work_of (schema_of bs) a).tabs

  tables_many : length (work_of (schema_of bs) a).tabs ≡ length (schema_of bs).tables
  unfolding work_of
  tables_many = tabs_length (schema_of bs) (work_of (schema_of bs) a).tabs (formed_fit h.fit).shaped

  pub tables_none : length (schema_of bs).tables ≤ t → tables_left bs a t ≡ 0
  unfolding tables_bound
  tables_none l = let h : length tabs ≤ t = omega (arith, tables_many) in ap (tables_bound (schema_of bs) t) (drop_of_length-le tabs h)

  pub tables_more : t < length (schema_of bs).tables → tables_left bs a t ≡ rows_bound (schema_of bs) t (table_rows bs a t) + tables_left bs a (t + 1)
  unfolding tables_bound
  tables_more l =
      ap (tables_bound (schema_of bs) t) (drop-cons tabs t [] (omega (arith, tables_many)))
      ∙ ap (λ (k : ℕ). rows_bound (schema_of bs) t (table_rows bs a t) + tables_bound (schema_of bs) k (drop k tabs)) (sym (add-one t))

-- ---- the answer
module _ (bs : List ℕ) (a : List ℤ) where
  pub bound_refused : {r : Refusal} → area_verdict bs a (Ok tt) ≡ Err r → {code : ℤ} → code ≡ pos (number r) → record { code = code; number = 𝟘 } ≡ bound_answer bs a
  unfolding bound_answer number_answer
  bound_refused v e = rw (v, e) refl

  pub bound_passed : area_verdict bs a (Ok tt) ≡ Ok tt → {n : ℕ} {word : ℤ} → word ≡ pos n → n ≡ area_bound (schema_of bs) a → record { code = 𝟘; number = word } ≡ bound_answer bs a
  unfolding bound_answer number_answer
  bound_passed v e f = rw (v, e, f) refl
