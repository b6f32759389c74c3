use mathlib.Core.Path.{ap, ◌∙◌}
use native.Mathlib.Omega.{arith}
use Rattle.schema.specs.Fields.{schema_of}
use Rattle.schema.specs.Records.{table_of}
use Rattle.area_form.proofs.DamageLaws.{limit_past, limit_is}
use Rattle.area_form.proofs.kept_limit.Goals as goal

pub returns-then-key_count-k : goal.returns-then-key_count-k
returns-then-key_count-k c = let s = schema_of c.args.schema.now.bytes in limit_past s c.args.k (omega arith)

pub returns : goal.returns
returns c =
    let s = schema_of c.args.schema.now.bytes in
    c.rows.ensures.0 ∙ ap (λ t. (table_of s t).rows) c.child-child.ensures.0 ∙ limit_is s _ (omega arith)
