-- Bounds of signed numbers.
-- Assumes nothing.
use Rattle.std.specs.Prelude.{List, ℕ, ◌≤◌, ℤ, pos, nat_abs, get_or}

-- each number is at most m, whatever its sign
pub record Small (m : ℕ) (numbers : List ℤ) : Type 0 where
  pub small : (k : ℕ) → nat_abs (get_or numbers k (pos 0)) ≤ m
