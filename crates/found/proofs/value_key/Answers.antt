use mathlib.Core.Path.{ap₂, ◌∙◌}
use Rattle.words.proofs.Signed.{back}
use Rattle.rules.specs.Values.{folded}
use Rattle.found.proofs.SoughtLaws.{key_made}
use Rattle.found.proofs.value_key.Goals as goal

pub returns : goal.returns
returns c =
    let compared = c.compared-u in
    let value = back _ compared.type_inv ∙ compared.ensures ∙ ap₂ folded c.bit_of.ensures (back _ c.ranges.v.sfits) in
    key_made c.args.mask c.args.c c.args.v c.bit_number.ensures.0 value
