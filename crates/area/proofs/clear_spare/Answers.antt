use mathlib.Core.Path.{sym, ap, ◌∙◌}
use Prim.Native.Nat.{ℕ, ◌+◌, ◌*◌}
use Rattle.schema.specs.Fields.{schema_of}
use Rattle.schema.specs.Sizes.{rows_start, rows_size}
use Rattle.bridge.proofs.ClearWords.{words_cleared}
use Rattle.area.proofs.clear_spare.Goals as goal

pub returns : goal.returns
returns c =
    let nat_at = c.nat_at-used in
    let record_at = c.record_at-at in
    c.clear_from.ensures ∙ sym (words_cleared c.requires.fit _ (record_at.ensures ∙ ap (λ (u : ℕ). rows_start + rows_size (schema_of c.args.schema.now.bytes).tables + u * 10) nat_at.ensures))
