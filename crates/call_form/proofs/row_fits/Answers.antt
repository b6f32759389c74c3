use mathlib.Core.Path.{ap, ap₂, ◌∙◌}
use Prim.Native.Nat.{◌^◌}
use lib.Dec.{ltb}
use lib.ListN.{drop}
use Rattle.rules.specs.Values.{same_words}
use Rattle.rules.specs.Rows.{held}
use Rattle.rules.specs.Calls.{row_fits}
use Rattle.bridge.proofs.Tests.{and_same}
use Rattle.call_form.proofs.ReadLaws.{past_columns}
use Rattle.call_form.proofs.row_fits.Goals as goal

pub returns : goal.returns
unfolding row_fits
returns c =
    let ws = c.args.call.now in
    let m = c.nat_at-m.ensures in
    let n = c.columns-columns.ensures.0 in
    and_same
    (and_same (c.is_mask.ensures ∙ ap₂ (λ m n. ltb m (2 ^ n)) m n) (c.all_zero_from.ensures ∙ past_columns ws n))
    (c.values_fit.ensures ∙ ap (λ m. same_words (drop 4 ws) (held m 0 (drop 4 ws))) m)
