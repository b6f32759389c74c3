-- Where the journal's records stand, and how they are written and undone.
-- Assumes nothing.
use mathlib.Core.Path.{◌≡◌, sym, ap, ap₂, ◌∙◌}
use mathlib.Core.List.{List, ◌∷◌, map, reverse, append-nil}
use Prim.Native.Nat.{ℕ, zero, suc, ◌+◌, ◌*◌, ◌-◌, ◌/◌, ◌%◌, ◌≤◌, ◌<◌}
use native.Mathlib.Numerals.{add-one}
use native.Mathlib.Omega.{arith}
use borrow.Author.Tests.{le-leb, lt-leb, ne_eqb}
use lib.Dec.{eqb, leb, ltb→lt}
use lib.IntN.{ℤ, pos}
use lib.ListN.{length, get_or, set, take, drop, replicate, length-drop}
use lib.Seq.{sets, length-take-le, take_all}
use Rattle.schema.specs.Fields.{schema_of}
use Rattle.schema.specs.Ranges.{all}
use Rattle.schema.specs.Records.{Schema, table_of}
use Rattle.schema.specs.Sizes.{rows_size, rows_start}
use Rattle.schema.proofs.FieldLaws.{tables_few, columns_few}
use Rattle.schema.proofs.SchemaLaws.{accepted_valid}
use Rattle.rules.specs.Area.{entry_of, record_part}
use Rattle.rules.specs.Book.{Work, Entry, write, undo, undo_to}
use Rattle.rules.specs.Calls.{in_table}
use Rattle.rules.specs.Lists.{𝟘, padded}
use Rattle.rules.specs.Rows.{Row, image}
use Rattle.rules.specs.State.{placed}
use Rattle.rules.specs.Values.{nat_of}
use Rattle.bridge.specs.Fit.{work_of, Fit, Keeps}
use Rattle.bridge.specs.Ready.{Placed, Undoable}
use Rattle.bridge.proofs.Offsets.{row_offset}
use Rattle.bridge.proofs.RowWords.{use_is, spare_is, written}
use Rattle.bridge.proofs.Tests.{all_head, holds}
use Rattle.bridge.proofs.UndoWords as newest
use Rattle.area.specs.Places.{RowPlace}
use Rattle.area.proofs.Places.{area_long, ready_after, row_place, row_short}

full_test : (u m n : ℕ) → u + m ≡ n → leb n u ≡ eqb m 0
full_test u zero n h = le-leb n u (omega arith)
full_test u (suc m) n h = lt-leb n u (omega arith) ∙ sym (ne_eqb (suc m) 0 (λ e. omega arith))

pub full_is : {s : Schema} {a : List ℤ} → Fit s a → {used room : ℕ} → used ≡ nat_of (get_or a 2 𝟘) → room ≡ s.room → leb room used ≡ eqb (length (work_of s a).spare) 0
full_is {s} {a} f {used} {room} e g = full_test used (length (work_of s a).spare) room (omega (arith, spare_is f))

pub use_in_room : {s : Schema} {a : List ℤ} → Fit s a → nat_of (get_or a 2 𝟘) ≤ s.room
use_in_room f = omega (arith, spare_is f)

-- a place and a row of nine words, written one behind the other, are a record of ten words
pub record_is : (a : List ℤ) (at : ℕ) (z z' : ℤ) (old : List ℤ) → z ≡ z' → length old ≡ 9 → sets (set a at z) (at + 1) (take 9 old) ≡ sets a at (z' ∷ old)
record_is a at z z' old e h = rw (e, add-one, take_all 9 old (omega arith))

-- ---- the next record
module _ {b : List ℕ} {a : List ℤ} {t r : ℕ} (h : Placed b a t r) (room : 0 < length (work_of (schema_of b) a).spare) where
  pub next_in_room : nat_of (get_or a 2 𝟘) < (schema_of b).room
  next_in_room = omega (arith, spare_is h.ready.fit, room)

  pub place_word : t * 1024 + r < 16384
  place_word = omega (arith, h.table, tables_few b h.ready.accepted, row_short (row_place h))

  pub written_is : (new : Row) → length new ≡ 9 → {at u : ℕ} → at ≡ rows_start + rows_size (schema_of b).tables + u * 10 → u ≡ nat_of (get_or a 2 𝟘) → {old : Row} → old ≡ image t r (work_of (schema_of b) a).tabs → {a₁ a₂ : List ℤ}
      → a₁ ≡ set (sets a at (pos (t * 1024 + r) ∷ old)) 2 (pos (u + 1))
      → a₂ ≡ sets a₁ (333 + row_offset (schema_of b) t r) (take (suc (table_of (schema_of b) t).columns) new)
      → (work_of (schema_of b) a₂ ≡ write t r new (work_of (schema_of b) a)) × Keeps (schema_of b) a a₂
  written_is new n e f g p q =
      written (accepted_valid b h.ready.accepted) h.ready.fit t r h.table h.row new n room
      (q ∙ ap (λ (x : List ℤ). sets x (333 + row_offset (schema_of b) t r) (take (suc (table_of (schema_of b) t).columns) new)) (p ∙ rw (e, f, g)))

-- ---- the newest record
module _ {b : List ℕ} {a : List ℤ} (h : Undoable b a) {u : ℕ} (e : nat_of (get_or a 2 𝟘) ≡ suc u) where
  abbrev s : Schema
  s = schema_of b

  abbrev f : Fit (schema_of b) a
  f = h.ready.fit

  module _ {at place : ℕ} {old : List ℤ} (q : at ≡ rows_start + rows_size (schema_of b).tables + u * 10) (ep : place ≡ nat_of (get_or a at 𝟘)) (eo : old ≡ padded 9 (take 9 (drop (at + 1) a))) where
    top : Entry
    top = record { table = place / 1024; row = place % 1024; old = old }

    old_is : old ≡ take 9 (drop (at + 1) a)
    old_is =
        let d : length (drop (at + 1) a) ≡ length a - (at + 1) = length-drop (at + 1) a in
        let m : suc u ≤ s.room = omega (arith, use_in_room f) in
        let l : length (take 9 (drop (at + 1) a)) ≡ 9 = length-take-le 9 (drop (at + 1) a) (omega (arith, area_long f)) in
        eo ∙ rw l (append-nil (take 9 (drop (at + 1) a)))

    top_is : newest.top_entry f u e ≡ top
    unfolding newest.top_entry newest.at top
    top_is =
        let n : 333 + rows_size s.tables + u * 10 ≡ at = sym q in
        let p : nat_of (get_or a (333 + rows_size s.tables + u * 10) 𝟘) ≡ place = ap (λ (i : ℕ). nat_of (get_or a i 𝟘)) n ∙ sym ep in
        let o : take 9 (drop (333 + rows_size s.tables + u * 10 + 1) a) ≡ old = ap (λ (i : ℕ). take 9 (drop (i + 1) a)) n ∙ sym old_is in
        λ i. record { table = p i / 1024; row = p i % 1024; old = o i }

    rest : List Entry
    rest = reverse (map entry_of (take u (record_part s a)))

    used_is : (work_of s a).used ≡ top ∷ rest
    unfolding rest
    used_is = newest.used_top f u e ∙ ap (λ (x : Entry). x ∷ reverse (map entry_of (take u (record_part s a)))) top_is

    in_row : place % 1024 < (table_of s (place / 1024)).rows
    unfolding placed in_table top
    in_row = ltb→lt (place % 1024) (table_of s (place / 1024)).rows (holds (all_head (placed s) top rest (ap (all (placed s)) (sym used_is) ∙ h.places)))

    -- its place is a row
    pub newest_place : RowPlace b (place / 1024) (place % 1024)
    newest_place = record { accepted = h.ready.accepted; table = newest.in_tables s (place / 1024) (place % 1024) in_row; row = in_row }

    pub newest_undone : {a₁ a₂ : List ℤ} → a₁ ≡ set (sets a at (replicate 10 𝟘)) 2 (pos u) → a₂ ≡ sets a₁ (333 + row_offset (schema_of b) (place / 1024) (place % 1024)) (take (suc (table_of (schema_of b) (place / 1024)).columns) old)
        → (work_of (schema_of b) a₂ ≡ undo 1 (work_of (schema_of b) a)) × Keeps (schema_of b) a a₂
    unfolding top rest
    newest_undone g k =
        let l : length rest ≡ u = newest.rest_length f u e in
        newest.undone_is f top rest used_is in_row (omega (arith, columns_few b h.ready.accepted (place / 1024) newest_place.table))
        (k ∙ ap (λ (x : List ℤ). sets x (333 + row_offset s (place / 1024) (place % 1024)) (take (suc (table_of s (place / 1024)).columns) old)) (g ∙ ap₂ (λ (i n : ℕ). set (sets a i (replicate 10 𝟘)) 2 (pos n)) (q ∙ ap (λ (n : ℕ). 333 + rows_size s.tables + n * 10) (sym l)) (sym l)))

-- ---- undone down to a use
module _ {b : List ℕ} {a a' : List ℤ} (h : Undoable b a) (k : Keeps (schema_of b) a a') (e : work_of (schema_of b) a' ≡ undo 1 (work_of (schema_of b) a)) where
  pub undoable_less : Undoable b a'
  undoable_less = record { ready = ready_after h.ready k; places = ap (λ (w : Work). all (placed (schema_of b)) w.used) e ∙ newest.placed_less (schema_of b) (work_of (schema_of b) a) h.places }

  pub use_less : {u : ℕ} → nat_of (get_or a 2 𝟘) ≡ suc u → u ≡ nat_of (get_or a' 2 𝟘)
  use_less {u} q =
      let p : length (work_of (schema_of b) a').used ≡ length (work_of (schema_of b) a).used - 1 = ap (λ (w : Work). length w.used) e ∙ newest.used_less (work_of (schema_of b) a) in
      omega (arith, use_is h.ready.fit, use_is k.fit)

  pub undo_again : (n : ℕ) → n < nat_of (get_or a 2 𝟘) → undo_to n (work_of (schema_of b) a) ≡ undo_to n (work_of (schema_of b) a')
  undo_again n l = newest.to_more n (work_of (schema_of b) a) (omega (arith, use_is h.ready.fit)) ∙ ap (undo_to n) (sym e)

pub undo_end : {s : Schema} {a : List ℤ} → Fit s a → (n : ℕ) → nat_of (get_or a 2 𝟘) ≤ n → undo_to n (work_of s a) ≡ work_of s a
undo_end {s} {a} f n l = newest.to_none n (work_of s a) (omega (arith, use_is f))
