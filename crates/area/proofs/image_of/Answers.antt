use mathlib.Core.Path.{ap, ◌∙◌}
use Prim.Native.Nat.{ℕ, ◌+◌}
use native.Mathlib.Numerals.{add-one}
use native.Mathlib.Omega.{arith}
use Rattle.area.proofs.Places.{row_in_lem, image_is}
use Rattle.area.proofs.image_of.Goals as goal

pub image_at-requires : goal.image_at-requires
image_at-requires c = (omega (arith, row_in_lem c.requires, c.columns-c.ensures.0, c.place_of-p.ensures), omega (arith, c.columns-c.ensures.1))

pub returns : goal.returns
returns c = c.image_at.ensures ∙ image_is c.requires c.place_of-p.ensures (ap (λ (n : ℕ). n + 1) c.columns-c.ensures.0 ∙ add-one _)
