-- `folding::fold_bits` meets its contract: its steps are read off the code, and what they make of each byte is computed. Assumes nothing.
use mathlib.Core.Path.{refl}
use lib.Dec.{lit<}
use Rattle.schema.specs.Ranges.{all_from}
use Rattle.rules.specs.Values.{raised}
use Rattle.folding.proofs.Fold.{itself, every, and, or, xor, sum, quarter, made, within, raises, fold_all, add_fits}
use Rattle.folding.proofs.fold_bits.Goals as goal

pub overflow_add-a : goal.overflow_add-a
overflow_add-a c = record { fits = add_fits c.args.n _ _ (lit< tt) }

pub overflow_add-b : goal.overflow_add-b
overflow_add-b c = record { fits = add_fits c.args.n _ _ (lit< tt) }

pub returns : goal.returns
unfolding all_from raised made within raises
returns c = fold_all c.ranges.n.fits (search (itself, every, and, or, xor, sum, quarter) depth 10) refl refl
