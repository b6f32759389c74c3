use mathlib.Core.Path.{◌∙◌}
use Rattle.schema.specs.Fields.{schema_of}
use Rattle.bridge.specs.Fit.{work_of}
use Rattle.change_parts.proofs.PartLaws as law
use Rattle.change_parts.proofs.is_live_row.Goals as goal

pub returns : goal.returns
returns c =
    c.image_live.ensures
    ∙ law.row_live c.args.t c.args.r (work_of (schema_of c.args.schema.now.bytes) c.args.area.now).tabs c.image_of-image.ensures
