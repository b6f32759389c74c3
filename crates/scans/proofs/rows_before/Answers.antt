use mathlib.Core.Path.{refl}
use Rattle.scans.specs.Parts.{rows_before}
use Rattle.scans.proofs.rows_before.Goals as goal

pub returns : goal.returns
unfolding rows_before
returns c = refl
