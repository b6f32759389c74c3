use mathlib.Core.Path.{◌∙◌}
use native.Mathlib.Omega.{arith}
use Rattle.schema.proofs.SizeLaws.{offset_end}
use Rattle.fields.proofs.Schema.journal_start.Goals as goal

pub returns : goal.returns
returns c = (c.start_of.ensures.0 ∙ offset_end _ c.table_count.ensures.0, omega arith)
