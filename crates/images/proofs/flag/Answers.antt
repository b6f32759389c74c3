use mathlib.Core.Path.{sym, ap, ◌∙◌}
use mathlib.Core.Bool.{Bool}
use Prim.Native.Nat.{ℕ, ◌-◌}
use lib.Bits.{bit_and}
use Rattle.std.specs.Int.RustNames.{bit_or}
use Rattle.rules.specs.Change.{flag}
use Rattle.images.proofs.MaskLaws.{flag_set, flag_cleared, flag_low}
use Rattle.images.proofs.flag.Goals as goal

pub returns-then-null : goal.returns-then-null
returns-then-null c =
    let a = c.args in
    let e = ap (bit_or a.mask) c.power-bit.ensures ∙ flag_set a.c a.mask c.requires.0 c.requires.1 ∙ ap (λ (b : Bool). flag a.c b a.mask) (sym c.if-null.true) in
    (e, rw e (flag_low a.c a.mask c.requires.0 c.requires.1 a.null))

pub returns-else-null : goal.returns-else-null
returns-else-null c =
    let a = c.args in
    let e = ap (λ (p : ℕ). bit_and a.mask (18446744073709551615 - p)) c.power-bit.ensures
    ∙ flag_cleared a.c a.mask c.requires.0 c.requires.1
    ∙ ap (λ (b : Bool). flag a.c b a.mask) (sym c.if-null.false) in
    (e, rw e (flag_low a.c a.mask c.requires.0 c.requires.1 a.null))
