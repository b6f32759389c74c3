use mathlib.Core.Path.{sym, ◌∙◌}
use Rattle.schema.specs.Fields.{schema_of}
use Rattle.fresh_area.proofs.FreshLaws as law
use Rattle.fresh_area.proofs.clear_area.Goals as goal

pub returns-then-area-area_length : goal.returns-then-area-area_length
returns-then-area-area_length c =
    law.fresh_refused (schema_of c.args.schema.now.bytes) c.args.area.now (λ z. c.if-area-area_length.true (z ∙ sym c.area_length.ensures.0))

pub returns : goal.returns
returns c =
    let area_length = c.area_length in
    law.fresh_cleared (schema_of c.args.schema.now.bytes) c.args.area.now _ (c.if-area-area_length.false ∙ area_length.ensures.0) c.clear_from.ensures
