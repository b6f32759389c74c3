-- On every area that calls lead to the windows of parent rows are apart, so a child row maps to one parent row at most.
-- Assumes nothing.
use mathlib.Core.Path.{◌≡◌, refl, sym, ◌∙◌, ap}
use mathlib.Core.Bool.{Bool, true, false, not, false≢true}
use mathlib.Core.List.{List, [], ◌∷◌, map}
use Prim.Native.Nat.{ℕ, zero, suc}
use borrow.Author.Tests.{eqb-true, eqb-false}
use lib.Dec.{eqb}
use lib.IntN.{ℤ}
use lib.ListN.{get_or, replicate}
use Rattle.schema.specs.Records.{Table, Window, ForeignKey, Schema, key_of, parent_key}
use Rattle.schema.specs.Fields.{schema_of}
use Rattle.schema.proofs.RangeLaws.{and_left, and_right}
use Rattle.schema.proofs.FieldLaws.{same_width}
use Rattle.rules.specs.Lists.{𝟘}
use Rattle.rules.specs.Values.{nat_of}
use Rattle.rules.specs.Rows.{Row, Tables, row_at, overwrite, live, live_state}
use Rattle.rules.specs.Keys.{full_key, maps_to, serves}
use Rattle.rules.specs.Book.{blank, fresh}
use Rattle.bridge.specs.Fit.{work_of}
use Rattle.bridge.proofs.Tests.{and_both}
use Rattle.bridge.proofs.Shapes.{Shaped, widths_put, length_overwrite, shaped_fresh}
use Rattle.bridge.proofs.MapLaws.{parent_full, served_clashes}
use Rattle.laws.specs.Reached.{Reached}
use Rattle.laws.specs.Windows.{Windowed, parent_row, WindowsApart}
use Rattle.laws.proofs.Writes.{admits_windows}
use Rattle.laws.proofs.Kept.{reached_kept}
use Rattle.laws.proofs.Clashes.{full_live}
use Rattle.laws.proofs.WindowWrites.{put_windows}

-- ---- no row of a fresh area is live

blank_rows : (n c i : ℕ) → live (get_or (replicate n (replicate (suc c) 𝟘)) i []) ≡ false
unfolding live live_state nat_of
blank_rows zero c i = refl
blank_rows (suc n) c zero = refl
blank_rows (suc n) c (suc i) = blank_rows n c i

blank_row : (ts : List Table) (t i : ℕ) → live (row_at t i (map blank ts)) ≡ false
unfolding row_at blank
blank_row [] t i = blank_rows 0 0 i
blank_row (x ∷ ts) zero i = blank_rows x.rows x.columns i
blank_row (x ∷ ts) (suc t) i = blank_row ts t i

fresh_windows : (s : Schema) → WindowsApart s (map blank s.tables)
fresh_windows s = record { lasting = λ {k} {w} q i full. absurd (none k i full); apart = λ {k} {w} q i j n full. absurd (none k i full) }
  where
    none : (k i : ℕ) → full_key (parent_key (key_of s k)) (parent_row s (map blank s.tables) k i) ≡ true → ⊥
    none k i full = false≢true (sym (blank_row s.tables (key_of s k).parent i) ∙ full_live (parent_key (key_of s k)) _ full)

-- ---- on areas that calls lead to
module _ {bs : List ℕ} {ws : List ℤ} (reached : Reached bs ws) where
  abbrev s : Schema
  s = schema_of bs

  -- with the sizes of the tables, which no row change alters
  shaped_apart : (Shaped s (work_of s ws).tabs) × (WindowsApart s (work_of s ws).tabs)
  unfolding fresh Shaped
  shaped_apart =
      reached_kept reached (λ (tabs : Tables). (Shaped s tabs) × (WindowsApart s tabs))
      (λ t r new w e h. (
        widths_put w.tabs t r (overwrite (row_at t r w.tabs) new) (length_overwrite (row_at t r w.tabs) new) ∙ h.0,
        put_windows bs reached.accepted w.tabs h.0 t r new (admits_windows s t r new w e) h.1,
      ))
      (shaped_fresh s, fresh_windows s)

  pub reached_apart : WindowsApart (schema_of bs) (work_of (schema_of bs) ws).tabs
  reached_apart = shaped_apart.1

  module _ {k : ℕ} {w : Window} (q : Windowed (schema_of bs) k w) (child : Row) where
    abbrev key : ForeignKey
    key = key_of s k

    abbrev parent : ℕ → Row
    parent i = parent_row s (work_of s ws).tabs k i

    -- the live parent rows that a child row maps to are one
    pub one_parent : (i j : ℕ) → serves (key_of (schema_of bs) k) child (parent_row (schema_of bs) (work_of (schema_of bs) ws).tabs k i) ≡ true → serves (key_of (schema_of bs) k) child (parent_row (schema_of bs) (work_of (schema_of bs) ws).tabs k j) ≡ true → i ≡ j
    unfolding serves full_key
    one_parent i j h h' = by (eqb i j) refl
      where
        maps : maps_to key child (parent i) ≡ true
        maps = and_right (live (parent i)) (maps_to key child (parent i)) h

        full : full_key (parent_key key) (parent i) ≡ true
        full = and_both (and_left (live (parent i)) (maps_to key child (parent i)) h) (ap not (parent_full key (sym (same_width bs reached.accepted k q.there)) (parent i) child maps))

        by : (b : Bool) → eqb i j ≡ b → i ≡ j
        by true e = eqb-true i j e
        by false e =
            absurd (false≢true
            (sym (reached_apart.apart q i j (eqb-false i j e) full)
            ∙ served_clashes key (sym (same_width bs reached.accepted k q.there)) w q.window (parent i) child maps (parent j) h'))
