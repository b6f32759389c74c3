use mathlib.Core.Path.{◌∙◌}
use native.Mathlib.Omega.{arith}
use Rattle.scans.proofs.FirstLaws.{any_is}
use Rattle.windows.specs.Days.{is_on}
use Rattle.windows.proofs.any_on.Goals as goal

pub first_on-requires : goal.first_on-requires
first_on-requires c = ((c.requires.0, omega arith), c.requires.1)

pub returns : goal.returns
returns c =
    let a = c.args in
    c.is_some.ensures ∙ any_is (is_on a.sought.key a.sought.days) a.area.now a.table _ c.first_on.ensures
