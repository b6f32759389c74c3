-- Rows that have a sought key and days as they must be, among those that have the key.
-- Assumes nothing.
use mathlib.Core.Path.{◌≡◌, ap, subst, ◌∙◌}
use mathlib.Core.Bool.{Bool, true, false, ◌&&◌}
use mathlib.Core.List.{List, []}
use Prim.Native.Nat.{ℕ, suc, ◌+◌, ◌-◌, ◌≤◌, ◌<◌}
use lib.IntN.{ℤ}
use native.Mathlib.Omega.{arith}
use lib.ListN.{length, get_or, take, drop, length-drop}
use lib.Seq.{length-take-le}
use Rattle.bridge.specs.Ready.{row_in}
use Rattle.rules.specs.Rows.{Row}
use Rattle.rows.specs.declared.SoughtKey.{SoughtKey}
use Rattle.rows.specs.declared.TableRows.{TableRows}
use Rattle.rows.specs.Sought.{has_sought, SoughtIn}
use Rattle.rows.specs.Standing.{Standing, rows_in}
use Rattle.scans.specs.FirstFrom.{FirstRow}
use Rattle.scans.specs.Parts.{rows_before, rows_after}
use Rattle.scans.proofs.ScanLaws.{before_ready, after_ready}
use Rattle.windows.specs.declared.Interval.{Interval}
use Rattle.windows.specs.declared.Days.{Days}
use Rattle.windows.specs.declared.Days.TheVariants.{Within, Holding, Sharing}
use Rattle.windows.specs.Days.{meets, DaysIn, is_on}

-- ---- a row as a part of the area
module _ (a : List ℤ) (p w : ℕ) where
  part_width : (p + w) - p ≡ w
  part_width = omega arith

  pub part_row : take ((p + w) - p) (drop p a) ≡ row_in a p w
  unfolding row_in
  part_row = ap (λ (n : ℕ). take n (drop p a)) part_width

  pub part_length : p + w ≤ length a → length (take ((p + w) - p) (drop p a)) ≡ w
  part_length h = length-take-le ((p + w) - p) (drop p a) (omega (arith, part_width, length-drop p a, h)) ∙ part_width

-- ---- the columns of the days
module _ {w : ℕ} {days : Days} (h : DaysIn w days) where
  pub within_in : {c : ℕ} {x : Interval} → days ≡ Within c x → suc c < w
  unfolding DaysIn
  within_in e = subst (DaysIn w) e h

  pub holding_in : {c : ℕ} {day : ℤ} → days ≡ Holding c day → suc (suc c) < w
  unfolding DaysIn
  holding_in e = subst (DaysIn w) e h

  pub sharing_in : {c : ℕ} {x : Interval} → days ≡ Sharing c x → suc (suc c) < w
  unfolding DaysIn
  sharing_in e = subst (DaysIn w) e h

-- ---- rows that have the key

module _ (key : SoughtKey) where
  module _ (days : Days) (row : Row) where
    off_key : has_sought key row ≡ false → is_on key days row ≡ false
    unfolding is_on
    off_key e = ap (λ (b : Bool). b && meets days row) e

    pub on_key : has_sought key row ≡ true → {b : Bool} → meets days row ≡ b → is_on key days row ≡ b
    unfolding is_on
    on_key e f = ap (λ (b : Bool). b && meets days row) e ∙ f

  -- rows that are passed over for the key
  pub keys_passed : (days : Days) (a : List ℤ) (t : TableRows) {from x : ℕ} → FirstRow (has_sought key) a t from x → (i : ℕ) → from ≤ i → i < x → is_on key days (get_or (rows_in a t) i []) ≡ false
  keys_passed days a t f i l h = off_key days (get_or (rows_in a t) i []) (f.skipped i l h)

-- ---- all rows but one

-- what a search requires
abbrev pub Searched : List ℤ → TableRows → SoughtKey → Days → Type 0
Searched a t key days = Standing a t × (((1 ≤ key.n) × SoughtIn t.width key) × DaysIn t.width days)

-- it holds of the rows below row r, and of those above it
module _ (a : List ℤ) (t : TableRows) (r : ℕ) (h : r < t.count) (key : SoughtKey) (days : Days) {x : TableRows} (s : Searched a t key days) where
  pub searched_before : x ≡ rows_before t r → Searched a x key days
  unfolding rows_before
  searched_before e = let ready = before_ready a t r h {key = key} {x = x} s.0 s.1.0 e in (ready.0, (ready.1, rw e s.1.1))

  pub searched_after : x ≡ rows_after t r → Searched a x key days
  unfolding rows_after
  searched_after e = let ready = after_ready a t r h {key = key} {x = x} s.0 s.1.0 e in (ready.0, (ready.1, rw e s.1.1))
