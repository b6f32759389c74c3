-- Words under a mask: what a search looks at before it compares values.
-- Assumes nothing.
use Rattle.std.specs.Prelude.{Bool, true, false, ℤ, negsuc}
use Rattle.std.specs.Int.Bits.{bit_and}
use Rattle.std.specs.Int.{w64}
use Rattle.std.proofs.Common.{of_z, to_z}

-- the bits of x that the mask m has
unfoldable pub masked : ℤ → ℤ → ℤ
masked m x = to_z w64 (bit_and (of_z w64 x) (of_z w64 m))

-- in a folded column all bits but 20 (hexadecimal) of each byte: DF, eight times; else all bits
unfoldable pub first_mask : Bool → ℤ
first_mask true = negsuc 0x2020202020202020
first_mask false = negsuc 0
