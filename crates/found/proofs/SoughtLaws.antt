-- Rows that are found, by what the scans look for.
-- Assumes nothing.
use mathlib.Core.Path.{◌≡◌, refl, sym, ◌∙◌, ap}
use mathlib.Core.Bool.{Bool, true, false, not, ◌&&◌, and-true}
use mathlib.Core.List.{List, [], ◌∷◌}
use Prim.Native.Nat.{ℕ, zero, suc, ◌+◌, ◌%◌, ◌^◌, ◌<◌}
use Rattle.std.specs.Prelude.{Option, None, Some}
use Rattle.std.specs.Option.{MatchOption, is_none, unwrap_or}
use native.Mathlib.Omega.{arith}
use Rattle.std.proofs.Math.Bool.{and_comm}
use borrow.Author.Tests.{ltb-true}
use lib.IntN.{ℤ, pos}
use lib.ListN.{length, get_or, set, replicate}
use Rattle.schema.specs.Bytes.{bit}
use Rattle.schema.specs.Ranges.{list_from}
use Rattle.schema.specs.Records.{Schema, table_of}
use Rattle.schema.specs.Fields.{schema_of}
use Rattle.rules.specs.Lists.{𝟘, one}
use Rattle.rules.specs.Values.{nat_of, folded, same_value}
use Rattle.rules.specs.Rows.{Row, row_at, deleted_image, live, null_at, value_at, mask_of, held, live_image, normal}
use Rattle.rules.specs.Change.{flag, set_cell}
use Rattle.rules.specs.Book.{Work}
use Rattle.rules.specs.Found.{cell_is, is_found, row_set, rows_found}
use Rattle.rules.specs.KeyValues.{holds_key, has_key}
use Rattle.bridge.specs.Fit.{work_of}
use Rattle.bridge.specs.Ready.{Ready, row_in}
use Rattle.folding.proofs.FoldLaws.{fold_again, folded_value}
use Rattle.rows.specs.declared.TableRows.{TableRows}
use Rattle.rows.specs.declared.SoughtKey.{SoughtKey}
use Rattle.rows.specs.KeyColumns.{folds_in}
use Rattle.rows.specs.Sought.{has_sought, SoughtIn}
use Rattle.rows.specs.Standing.{rows_in, RowsOf}
use Rattle.rows.proofs.CellLaws.{null_in_lem}
use Rattle.rows.proofs.TableLaws.{rows_are}
use Rattle.skips.specs.Skipped.{both, Skipped}
use Rattle.skips.proofs.SkipLaws.{passed_by, first_fails}
use Rattle.scans.specs.FirstFrom.{FirstFrom, FirstRow, FirstIs}
use Rattle.scans.proofs.FirstLaws.{is_same}
use Rattle.found.specs.declared.Cell.{Cell}
use Rattle.found.specs.declared.Sought.{Sought}
use Rattle.found.specs.declared.Sought.TheVariants.{Null, Key}
use Rattle.found.specs.declared.Given.{Given}
use Rattle.found.specs.declared.Given.TheVariants.{Deleted, Set}
use Rattle.found.specs.declared.Seeking.{Seeking}
use Rattle.bridge.proofs.StateBits.{bit_low, bit_state, flag_same}
use Rattle.found.specs.Sought.{cell_with, found_row, null_in, has_null, has, found_by, found_at, value_key, Seeks, SeekingOf, given_image, sets_in, found_changes, changes_by}

-- ---- NULL is sought

pub null_is : (a : List ℤ) (p w c : ℕ) → 0 < w → {n : ℕ} {b : Bool} → n ≡ nat_of (get_or a p 𝟘) → b ≡ bit c n → b ≡ null_in c (row_in a p w)
unfolding null_in
null_is a p w c h e f = f ∙ ap (bit c) e ∙ sym (null_in_lem a p w c h)

pub null_and_live : (c : ℕ) (row : Row) → both (null_in c) live row ≡ has_null c row
unfolding both has_null
null_and_live c row = and_comm (null_in c row) (live row)

-- rows that are passed over for a value in column c have no NULL there
pub filled_passed : (c : ℕ) {a : List ℤ} {t : TableRows} {from x : ℕ} → Skipped (null_in c) a t from x → Skipped (has_null c) a t from x
filled_passed c = passed_by (λ row e. sym (null_and_live c row) ∙ first_fails (null_in c) live row e)

-- ---- a value is sought
bit_one : (b : Bool) → bit 0 (one b) ≡ b
unfolding bit one
bit_one true = refl
bit_one false = refl

module _ (mask c : ℕ) (v : ℤ) where
  pub key_made : {f : ℕ} {u : ℤ} → f ≡ one (bit c mask) → u ≡ folded (bit c mask) v → record { n = 1; folded = f; cs = c ∷ replicate 7 0; vs = u ∷ replicate 7 𝟘 } ≡ value_key mask c v
  unfolding value_key
  key_made e h = rw (e, h) refl

  one_column : (value_key mask c v).n ≡ 1
  unfolding value_key
  one_column = refl

  key_in : (w : ℕ) → suc c < w → SoughtIn w (value_key mask c v)
  unfolding value_key
  key_in w l = record { columns = record { few = omega arith; size = refl; within = at }; size = refl; compared = kept }
    where
      at : (i : ℕ) → i < 1 → suc (get_or (c ∷ replicate 7 0) i 0) < w
      at zero h = l
      at (suc i) h = absurd (omega arith)

      kept : (i : ℕ) → i < 1 → folded (bit i (one (bit c mask))) (get_or (folded (bit c mask) v ∷ replicate 7 𝟘) i 𝟘) ≡ get_or (folded (bit c mask) v ∷ replicate 7 𝟘) i 𝟘
      kept zero h = ap (λ (f : Bool). folded f (folded (bit c mask) v)) (bit_one (bit c mask)) ∙ fold_again (bit c mask) v
      kept (suc i) h = absurd (omega arith)

  value_found : (row : Row) → has_sought (value_key mask c v) row ≡ is_found mask c false v row
  unfolding has_sought has_key holds_key folds_in list_from value_key is_found cell_is
  value_found row =
      ap (λ (b : Bool). live row && b)
      (and-true (not (null_at row c) && same_value (bit 0 (one (bit c mask))) (folded (bit c mask) v) (value_at row c))
      ∙ ap (λ (b : Bool). not (null_at row c) && b) (ap (λ (f : Bool). same_value f (folded (bit c mask) v) (value_at row c)) (bit_one (bit c mask)) ∙ folded_value (bit c mask) v (value_at row c)))

-- ---- what a table is searched by
module _ (b : List ℕ) (t : ℕ) (sought : Cell) {rows : TableRows} (lt : t < length (schema_of b).tables) (lc : sought.column < (table_of (schema_of b) t).columns) (o : RowsOf b t rows) where
  pub seeking_null : sought.value ≡ None → SeekingOf b t sought (record { rows = rows; sought = Null sought.column })
  unfolding found_by has found_row has_null null_in is_found cell_is
  seeking_null e =
      record {
        seeks = record { table = lt; stand = o; seekable = record { column = omega (arith, lc, o.width_is) } };
        same = λ row. rw e refl;
      }

  pub seeking_key : {v : ℤ} {mask : ℕ} {key : SoughtKey} → sought.value ≡ Some v → mask ≡ (table_of (schema_of b) t).folded → key ≡ value_key mask sought.column v → SeekingOf b t sought (record { rows = rows; sought = Key key })
  unfolding found_by has found_row
  seeking_key {v} e em ek =
      rw (ek, em)
      (record {
        seeks = record { table = lt; stand = o; seekable = record { column = (one_column _ sought.column v, key_in _ sought.column v rows.width (omega (arith, lc, o.width_is))) } };
        same = λ row. rw e (value_found _ sought.column v row);
      })

module _ {b : List ℕ} {t : ℕ} {sought : Cell} {x : Seeking} (k : SeekingOf b t sought x) (given : Given) where
  -- the same row changes
  pub changes_sought : (w : Work) → changes_by (schema_of b) t x given w ≡ found_changes (schema_of b) t sought given w
  unfolding changes_by found_changes
  changes_sought w = λ i. rows_found (schema_of b) t (λ row. k.same row i) (given_image (table_of (schema_of b) t).columns given) w

-- ---- the search for NULL or the one for a value, by what is sought
module _ (x : Seeking) (a : List ℤ) (from : ℕ) where
  pub found_null : {c : ℕ} → x.sought ≡ Null c → (o : Option ℕ) → FirstIs (has_null c) a x.rows from o → FirstIs (found_by x) a x.rows from o
  unfolding found_by has
  found_null e = is_same a x.rows from (λ row. sym (ap (λ (y : Sought). has y row) e))

  pub found_key : {key : SoughtKey} → x.sought ≡ Key key → (o : Option ℕ) → FirstIs (has_sought key) a x.rows from o → FirstIs (found_by x) a x.rows from o
  unfolding found_by has
  found_key e = is_same a x.rows from (λ row. sym (ap (λ (y : Sought). has y row) e))

-- ---- the rows of a table
pub found_in_table : (b : List ℕ) (a : List ℤ) (t : ℕ) (x : Seeking) → Ready b a → Seeks b t x → {from i : ℕ} → FirstRow (found_by x) a x.rows from i
    → FirstFrom (found_at x t (work_of (schema_of b) a).tabs) (table_of (schema_of b) t).rows from i
unfolding found_at row_at
found_in_table b a t x r k {from} {i} h =
    let eq : (j : ℕ) → found_at x t (work_of (schema_of b) a).tabs j ≡ found_by x (get_or (rows_in a x.rows) j []) =
    λ j. sym (ap (λ (l : List Row). found_by x (get_or l j [])) (rows_are b a r t k.table x.rows k.stand)) in
    record {
      low = h.low;
      high = omega (arith, h.high, k.stand.count_is);
      skipped = λ j l m. eq j ∙ h.skipped j l m;
      found = λ l. eq i ∙ h.found (omega (arith, l, k.stand.count_is));
    }

-- ---- what a row is given
module _ (columns : ℕ) {given : Given} where
  pub given_deleted : (x : Row) → given ≡ Deleted → replicate 9 𝟘 ≡ given_image columns given x
  unfolding given_image deleted_image
  given_deleted x e = rw e refl

  module _ {cell : Cell} (e : given ≡ Set cell) where
    set_as : (o : Option ℤ) (n : ℕ) (y : Row) {z : Row} → MatchOption o ((u : ℤ) → z ≡ row_set n cell.column true u y) (λ v. z ≡ row_set n cell.column false v y) → z ≡ row_set n cell.column (is_none o) (unwrap_or o 𝟘) y
    set_as None n y g = g 𝟘
    set_as (Some v) n y g = g

    pub given_set : (x : Row) {n : ℕ} {y z : Row} → n ≡ columns → y ≡ x → MatchOption cell.value ((u : ℤ) → z ≡ row_set n cell.column true u y) (λ v. z ≡ row_set n cell.column false v y) → z ≡ given_image columns given x
    unfolding given_image
    given_set x h k g = set_as cell.value _ _ g ∙ rw (e, h, k) refl

    pub set_within : sets_in columns given ≡ true → cell.column < columns
    unfolding sets_in
    set_within h = ltb-true cell.column columns (rw e at h)

-- ---- a cell by a NULL mark and a value, which is not looked at where the mark says NULL

held_set : (m i j c : ℕ) (vs : List ℤ) (y z : ℤ) → j ≡ i + c → bit j m ≡ true → held m i (set vs c y) ≡ held m i (set vs c z)
unfolding held
held_set m i j c [] y z h e = refl
held_set m i j zero (v ∷ vs) y z h e = let here : j ≡ i = omega (arith, h) in let null : bit i m ≡ true = rw here at e in rw null refl
held_set m i j (suc c) (v ∷ vs) y z h e =
    let next : j ≡ suc i + c = omega (arith, h) in
    ap (λ (l : List ℤ). elim (bit i m) [ true ↦ 𝟘 | false ↦ v ] ∷ l) (held_set m (suc i) j c vs y z next e)

row_set_null : (columns c : ℕ) (y z : ℤ) (x : Row) → c < 8 → row_set columns c true y x ≡ row_set columns c true z x
unfolding row_set set_cell normal live_image mask_of nat_of
row_set_null columns c y z [] h = refl
row_set_null columns c y z (w ∷ ws) h =
    let m : ℕ = 256 + flag c true (nat_of w % 256) in
    let null : bit c (m % 256) ≡ true = bit_low c 8 m h ∙ bit_state c (flag c true (nat_of w % 256)) h ∙ flag_same c (nat_of w % 256) in
    let here : c ≡ 0 + c = omega arith in
    ap (λ (vs : List ℤ). pos (256 + m % 256 % 2 ^ columns) ∷ vs) (held_set (m % 256) 0 c c ws y z here null)

row_found_with : (folded c : ℕ) (null : Bool) (v : ℤ) (row : Row) → found_row folded (cell_with c null v) row ≡ is_found folded c null v row
unfolding found_row cell_with is_found cell_is
row_found_with folded c true v row = refl
row_found_with folded c false v row = refl

given_with : (columns c : ℕ) (null : Bool) (v : ℤ) (x : Row) → c < 8 → given_image columns (Set (cell_with c null v)) x ≡ row_set columns c null v x
unfolding given_image cell_with
given_with columns c true v x h = row_set_null columns c 𝟘 v x h
given_with columns c false v x h = refl

-- the row changes of a statement whose cells they make
module _ (s : Schema) (t c : ℕ) (null : Bool) (v : ℤ) where
  pub deleted_with : found_changes s t (cell_with c null v) Deleted ≡ rows_found s t (is_found (table_of s t).folded c null v) (λ x. deleted_image)
  unfolding found_changes given_image
  deleted_with = λ i. rows_found s t (λ row. row_found_with (table_of s t).folded c null v row i) (λ x. deleted_image)

  pub set_with : (d : ℕ) (null' : Bool) (v' : ℤ) → d < 8 → found_changes s t (cell_with c null v) (Set (cell_with d null' v')) ≡ rows_found s t (is_found (table_of s t).folded c null v) (row_set (table_of s t).columns d null' v')
  unfolding found_changes
  set_with d null' v' h = λ i. rows_found s t (λ row. row_found_with (table_of s t).folded c null v row i) (λ x. given_with (table_of s t).columns d null' v' x h i)
