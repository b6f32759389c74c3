use native.Mathlib.Omega.{arith}
use Rattle.schema.proofs.SizeLaws.{size_all}
use Rattle.fields.proofs.Schema.area_length.Goals as goal

pub returns : goal.returns
returns c = (size_all _ c.journal_start.ensures.0 c.room.ensures.0, omega arith)
