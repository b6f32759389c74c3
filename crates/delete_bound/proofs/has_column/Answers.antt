use mathlib.Core.Path.{◌∙◌}
use lib.ListN.{take}
use Rattle.delete_bound.proofs.ClearLaws.{column_among}
use Rattle.delete_bound.proofs.has_column.Goals as goal

pub returns : goal.returns
returns c = c.contains.ensures.value ∙ column_among c.args.c (take c.args.n c.args.cs)
