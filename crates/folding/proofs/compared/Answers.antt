use mathlib.Core.Path.{ap, ◌∙◌}
use mir.Syntax.{w64}
use mir.Val.{of_z, to_z}
use mir.ValLaws.{to_z-of_z}
use Rattle.rules.specs.Values.{raised, each_byte}
use Rattle.folding.proofs.FoldLaws.{not_folded, is_folded}
use Rattle.folding.proofs.compared.Goals as goal

pub returns-then-f : goal.returns-then-f
returns-then-f c =
    let bits = c.cast_unsigned.ensures ∙ ap (of_z w64) (to_z-of_z w64 c.args.w c.ranges.w) in
    to_z-of_z w64 c.cast_signed.result (record { sfits = c.cast_signed.type_inv })
    ∙ c.cast_signed.ensures
    ∙ ap (to_z w64) (c.fold_bits.ensures ∙ ap (each_byte raised 8) bits)
    ∙ is_folded c.args.f c.args.w c.if-f.true

pub returns-else-f : goal.returns-else-f
returns-else-f c = to_z-of_z w64 c.args.w c.ranges.w ∙ not_folded c.args.f c.args.w c.if-f.false
