use mathlib.Core.Path.{◌≡◌, refl, ap, ◌∙◌}
use mathlib.Core.Bool.{Bool, true, false}
use Prim.Native.Nat.{◌≤◌}
use native.Mathlib.Omega.{arith}
use mir.Val.{bool_byte}
use Rattle.rules.specs.Lists.{one}
use Rattle.rows.proofs.bit_number.Goals as goal

as_number : (b : Bool) → (bool_byte b ≡ one b) × (one b ≤ 1)
unfolding one
as_number true = (refl, omega arith)
as_number false = (refl, omega arith)

pub returns : goal.returns
returns c =
    let e = c.from.ensures ∙ (as_number c.bit_of.result).0 ∙ ap one c.bit_of.ensures in
    (e, omega (arith, c.from.ensures, (as_number c.bit_of.result).0, (as_number c.bit_of.result).1))
