use mathlib.Core.Path.{◌∙◌, ap}
use Prim.Native.Nat.{ℕ, ◌+◌, ◌*◌}
use Rattle.schema.specs.Fields.{schema_of}
use Rattle.schema.specs.Sizes.{rows_start, rows_size}
use Rattle.area.proofs.SpareLaws.{used_end, whole_end}
use Rattle.area.proofs.dirty_end.Goals as goal

pub returns-then-clean : goal.returns-then-clean
returns-then-clean c =
    used_end c.requires.0.fit (c.requires.1 c.if-clean.true) _ (c.record_at.ensures ∙ ap (λ (u : ℕ). rows_start + rows_size (schema_of c.args.schema.now.bytes).tables + u * 10) c.nat_at-used.ensures)

pub returns : goal.returns
returns c = whole_end c.requires.0.fit
