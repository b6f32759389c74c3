-- Equality of folded values, byte by byte.
-- Assumes nothing.
use Rattle.std.specs.Prelude.{Bool, true, ◌&&◌, ℕ, zero, suc, ◌/◌, ◌%◌, eqb}
use Rattle.rules.specs.Values.{raised}

-- the n low bytes of two numbers are equal once raised
unfoldable pub same_bytes : ℕ → ℕ → ℕ → Bool
same_bytes zero a b = true
same_bytes (suc n) a b = eqb (raised (a % 256)) (raised (b % 256)) && same_bytes n (a / 256) (b / 256)
