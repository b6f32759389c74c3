use Rattle.schema.specs.Ranges.{every, and_all}
use Rattle.schema.specs.Check.{within, size_rules}
use Rattle.schema.specs.Fields.{rows_of, columns_of}
use mathlib.Core.Path.{◌≡◌, ap, ap₂, ◌∙◌}
use mathlib.Core.Bool.{◌&&◌}
use Rattle.schema_tables.proofs.size_rules.Goals as goal

pub returns : goal.returns
unfolding size_rules every and_all
returns c =
    let s = c.args.s.now in
    let t = c.args.t in
    let rows : c.half_at.result ≡ rows_of s t = c.half_at.ensures.0 in
    let columns : c.byte_at.result ≡ columns_of s t = c.byte_at.ensures.0 in
    ap₂ ◌&&◌ (c.is_within.ensures ∙ ap (within 1 1024) rows) (c.is_within-2.ensures ∙ ap (within 1 8) columns)
