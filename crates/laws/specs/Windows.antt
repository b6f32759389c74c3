-- The windows of parent rows.
-- Assumes nothing.
use Rattle.std.specs.Prelude.{◌≡◌, true, false, [], ◌∷◌, ◌≢◌, ℕ, ◌<◌, length}
use Rattle.std.specs.Int.Signed.{le_z}
use Rattle.schema.specs.Records.{Window, Schema, key_of, parent_key}
use Rattle.rules.specs.Rows.{Row, Tables, row_at}
use Rattle.rules.specs.Keys.{full_key, first_day, end_day}
use Rattle.rules.specs.Change.{clashes}

-- "an unbroken windowed key": number k, its window w
pub record Windowed (s : Schema) (k : ℕ) (w : Window) : Type 0 where
  pub there : k < length s.keys
  pub unbroken : (key_of s k).broken ≡ false
  pub window : (key_of s k).windows ≡ w ∷ []

-- row i of its parent table
abbrev pub parent_row : Schema → Tables → ℕ → ℕ → Row
parent_row s tabs k i = row_at (key_of s k).parent i tabs

-- of the live rows with no NULL in their parent key, none "has end ≤ first day", and the windows of no two that are "equal in the other key columns" share a day
pub record WindowsApart (s : Schema) (tabs : Tables) : Type 0 where
  pub lasting : {k : ℕ} {w : Window} → Windowed s k w → (i : ℕ) → full_key (parent_key (key_of s k)) (parent_row s tabs k i) ≡ true
      → le_z (end_day w (parent_row s tabs k i)) (first_day w (parent_row s tabs k i)) ≡ false
  pub apart : {k : ℕ} {w : Window} → Windowed s k w → (i j : ℕ) → i ≢ j → full_key (parent_key (key_of s k)) (parent_row s tabs k i) ≡ true
      → clashes (key_of s k) (parent_row s tabs k i) w (parent_row s tabs k j) ≡ false
