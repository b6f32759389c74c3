use Rattle.std.proofs.Common.{◌≡◌, ◌∷◌, ap, ◌∙◌, nat_abs}
use mir.Facts.{to_z-of_z}
use Rattle.lines.specs.Text.{decimal}
use Rattle.lines.proofs.TextLaws.{minus, plain, puts_as, puts_then}
use Rattle.lines.proofs.Text.put_signed.Goals as goal
use Rattle.lines.proofs.Text.put_signed.Goals.{then-n-lt0, else-n-lt0}

pub returns-clause-put : goal.returns-clause-put
returns-clause-put c =
    let n = c.args.n in
    let size : c.unsigned_abs.result ≡ nat_abs n = c.unsigned_abs.ensures.value ∙ ap nat_abs (to_z-of_z c.ranges.n) in
    let rest = c.put_decimal.ensures.put in
    elim c.if-n-lt0.branch [
      | then-n-lt0 w ↦ puts_as (ap (λ m. 45 ∷ decimal m) size ∙ minus n c.ranges.n w.if-n-lt0.true) (puts_then _ _ w.put.ensures.put (rw w.self-is at rest))
      | else-n-lt0 w ↦ puts_as (ap decimal size ∙ plain n c.ranges.n w.if-n-lt0.false) (rw w.self-is at rest)
    ]
