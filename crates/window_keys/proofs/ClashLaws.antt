-- Refusal 24, by one foreign key and by those that a mask tells of.
-- Assumes nothing.
use mathlib.Core.Path.{◌≡◌, refl, sym, ap, ◌∙◌}
use mathlib.Core.Bool.{Bool, true, false, not, ◌&&◌, ◌||◌, true≢false, and-false}
use mathlib.Core.List.{List, [], ◌∷◌}
use Prim.Native.Nat.{ℕ, suc, ◌≤◌, ◌<◌}
use native.Mathlib.Omega.{arith}
use borrow.Author.Tests.{eq-eqb, ne_eqb}
use lib.Dec.{eqb}
use lib.ListN.{length, get_or}
use lib.Signed.{le_z}
use Rattle.schema.specs.Check.{Accepted, check_schema}
use Rattle.schema.specs.Bytes.{bit}
use Rattle.schema.specs.Records.{Window, ForeignKey, no_key, parent_key, table_of, key_of}
use Rattle.schema.specs.Fields.{schema_of}
use Rattle.schema.proofs.RangeLaws.{and_left, and_right}
use Rattle.schema.proofs.MaskLaws.{bit_none}
use Rattle.schema.proofs.FieldLaws.{read_windows}
use Rattle.rules.specs.Lists.{any, except}
use Rattle.rules.specs.Rows.{Row}
use Rattle.rules.specs.Keys.{full_key, first_day, end_day}
use Rattle.rules.specs.Change.{clashes, window_broken, bad_window}
use Rattle.bridge.proofs.Tests.{fails}
use Rattle.rows.specs.declared.SoughtKey.{SoughtKey}
use Rattle.rows.specs.Sought.{SoughtOf}
use Rattle.table_keys.specs.Touched.{touches, whole_at, window_at, WindowKeys}
use Rattle.table_keys.proofs.TouchLaws.{in_windowed}
use Rattle.windows.specs.declared.Days.{Days}
use Rattle.windows.specs.declared.WindowKey.{WindowKey}
use Rattle.windows.specs.Days.{DaysIn, is_on}
use Rattle.windows.specs.WindowKey.{window_of, WindowedKey, WindowColumns, clash_days, parent_all}
use Rattle.windows.proofs.KeyDays.{parent_all_lem, clash_days_in, clashing_on}

-- ---- by one foreign key

module _ (t r : ℕ) (new : Row) (rows : List Row) (k : ForeignKey) where
  -- whose parent is another table
  pub bad_elsewhere : (k.parent ≡ t → ⊥) → false ≡ bad_window t r new rows k
  unfolding bad_window
  bad_elsewhere h = sym (rw (ne_eqb k.parent t h) refl)

  -- a row with NULL in its parent key is passed over
  pub bad_null : full_key (parent_key k) new ≡ false → false ≡ bad_window t r new rows k
  unfolding bad_window
  bad_null e =
      let asked = eqb k.parent t && not k.broken in
      sym (ap (λ (b : Bool). asked && (b && any (window_broken k r new rows) k.windows)) e ∙ and-false asked)

  module _ (at : k.parent ≡ t) (whole : k.broken ≡ false) (w : Window) (one : k.windows ≡ w ∷ []) (full : full_key (parent_key k) new ≡ true) where
    by_window : window_broken k r new rows w ≡ bad_window t r new rows k
    unfolding bad_window any
    by_window =
        let here = eq-eqb k.parent t at in
        sym ((λ i. (here i && not (whole i)) && (full i && any (window_broken k r new rows) (one i))) ∙ by (window_broken k r new rows w))
      where
        by : (b : Bool) → elim b [ true ↦ true | false ↦ false ] ≡ b
        by true = refl
        by false = refl

    -- its window has no day
    pub bad_empty : le_z (end_day w new) (first_day w new) ≡ true → true ≡ bad_window t r new rows k
    unfolding window_broken
    bad_empty e = sym (ap (λ (b : Bool). b || any (clashes k new w) (except r rows)) e) ∙ by_window

    -- it has one, and it clashes with that of another row or not
    pub bad_clash : le_z (end_day w new) (first_day w new) ≡ false → any (clashes k new w) (except r rows) ≡ bad_window t r new rows k
    unfolding window_broken
    bad_clash e = sym (ap (λ (b : Bool). b || any (clashes k new w) (except r rows)) e) ∙ by_window

  -- a key that is not of those with a window is not asked
  pub bad_none : window_at t k ≡ false → length k.windows ≤ 1 → bad_window t r new rows k ≡ false
  unfolding window_at whole_at touches bad_window any
  bad_none h few = go (eqb k.child t) (eqb k.parent t) k.broken k.windows few h
    where
      go : (c p b : Bool) (ws : List Window) → length ws ≤ 1 → ((c || p) && not b) && eqb (length ws) 1 ≡ false → (p && not b) && (full_key (parent_key k) new && any (window_broken k r new rows) ws) ≡ false
      go c false b ws l e = refl
      go c true true ws l e = refl
      go c true false [] l e = and-false (full_key (parent_key k) new)
      go true true false (w ∷ []) l e = absurd (true≢false e)
      go false true false (w ∷ []) l e = absurd (true≢false e)
      go c true false (w ∷ v ∷ ws) l e = absurd (omega arith)

-- ---- by the keys of a mask

module _ (b : List ℕ) (acc : check_schema b ≡ Accepted) (t : ℕ) where
  few_windows : (k : ℕ) → k < length (schema_of b).keys → length (key_of (schema_of b) k).windows ≤ 1
  few_windows k l = let r = read_windows b acc k l refl in omega (arith, r.0, r.1)

  module _ {m : ℕ} (h : WindowKeys b t m) (k : ℕ) (l : k < length (schema_of b).keys) where
    -- a key of the mask
    pub windowed_key : bit k m ≡ true → WindowedKey b k
    unfolding window_at whole_at
    windowed_key e =
        let K = key_of (schema_of b) k in
        let at : window_at t K ≡ true = sym (h.each k l) ∙ e in
        let whole : not K.broken ≡ true = and_right (touches t K) (not K.broken) (and_left (whole_at t K) (eqb (length K.windows) 1) at) in
        record { whole_key = record { accepted = acc; key = l; whole = fails K.broken whole }; windowed = in_windowed h k l refl e }

    -- one that is not in it
    pub bad_off : (r : ℕ) (new : Row) (rows : List Row) → bit k m ≡ false → false ≡ bad_window t r new rows (key_of (schema_of b) k)
    bad_off r new rows e = sym (bad_none t r new rows (key_of (schema_of b) k) (sym (h.each k l) ∙ e) (few_windows k l))

  -- an empty one
  pub bad_empty_mask : {m : ℕ} → WindowKeys b t m → m ≡ 0 → (r : ℕ) (new : Row) (rows : List Row) → false ≡ any (bad_window t r new rows) (schema_of b).keys
  unfolding any
  bad_empty_mask {m} h z r new rows = sym (go (schema_of b).keys (λ i l. bad_none t r new rows (key_of (schema_of b) i) (sym (h.each i l) ∙ ap (bit i) z ∙ bit_none i) (few_windows i l)))
    where
      go : (ks : List ForeignKey) → ((i : ℕ) → i < length ks → bad_window t r new rows (get_or ks i no_key) ≡ false) → any (bad_window t r new rows) ks ≡ false
      go [] f = refl
      go (k ∷ ks) f = rw (f 0 (omega arith), any) (go ks (λ i l. f (suc i) (omega arith)))

-- ---- by the columns of a key

-- NULL in the parent key
pub full_by : (b : List ℕ) (k : ℕ) (x : WindowKey) → WindowColumns b k x → (row : Row) {full : Bool} → full ≡ full_key (parent_all x) row → full_key (parent_key (key_of (schema_of b) k)) row ≡ full
full_by b k x h row e = sym (e ∙ ap (λ (cs : List ℕ). full_key cs row) (parent_all_lem b k x h))

-- rows that are searched
module _ (b : List ℕ) (k : ℕ) (x : WindowKey) (h : WindowColumns b k x) (image : Row) {days : Days} (e : days ≡ clash_days image x) where
  -- the days' columns are in the rows of the parent table
  pub clash_in : {w : ℕ} → w ≡ suc (table_of (schema_of b) (key_of (schema_of b) k).parent).columns → DaysIn w days
  clash_in f = rw (e, f) (clash_days_in b k x h image)

  -- the rows that are found are those that clash
  pub clash_any : {key : SoughtKey} → SoughtOf x.pairs.folded x.pairs.n x.pairs.ps x.pairs.ps image key → (r : ℕ) {rows tab : List Row} → rows ≡ tab → any (is_on key days) (except r rows) ≡ any (clashes (key_of (schema_of b) k) image (window_of x)) (except r tab)
  clash_any {key = key} s r {rows} {tab} f =
      (λ i. any (is_on key (e i)) (except r (f i))) ∙ (λ i. any (λ row. clashing_on b k x h image s row i) (except r tab))
