use mathlib.Core.Path.{◌≡◌}
use native.Mathlib.Omega.{arith}
use borrow.Author.Rules.{rules}
use lib.ListN.{length, take}
use lib.Seq.{length-take-le}
use Rattle.rows.proofs.SoughtLaws.{sought_is}
use Rattle.rows.proofs.sought_key.Goals as goal

pub returns : goal.returns
returns c =
    let a = c.args in
    let size : length (take a.n a.ds) ≡ a.n = length-take-le a.n a.ds (omega (arith, c.requires.0.few, c.requires.0.size)) in
    sought_is a.folded a.n a.cs a.ds a.image c.key_values-vs.result (search rules) c.requires.1 (rw size at c.key_values-vs.ensures)
