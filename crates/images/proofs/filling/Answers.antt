use mathlib.Core.Path.{sym, ap, ◌∙◌}
use Rattle.words.proofs.Signed.{back}
use Rattle.schema.specs.Bytes.{bit}
use Rattle.rules.specs.Values.{nat_of}
use Rattle.images.proofs.ImageLaws.{fills_none, fills_set, default_none, default_some, cascade_none, cascade_some}
use Rattle.images.proofs.filling.Goals as goal

pub returns-in-NoAction : goal.returns-in-NoAction
returns-in-NoAction c = fills_none _ _ _ _ c.in-NoAction.is

pub returns-in-SetNull : goal.returns-in-SetNull
returns-in-SetNull c = fills_set _ _ _ _ c.in-SetNull.is

pub returns-then-bit_of : goal.returns-then-bit_of
returns-then-bit_of c =
    default_none _ _ _ _ c.in-SetDefault.is (sym (c.bit_of.ensures ∙ ap (bit c.args.c) c.default_null.ensures.0) ∙ c.if-bit_of.true)

pub returns-else-bit_of : goal.returns-else-bit_of
returns-else-bit_of c =
    default_some _ _ _ _ c.in-SetDefault.is (sym (c.bit_of.ensures ∙ ap (bit c.args.c) c.default_null.ensures.0) ∙ c.if-bit_of.false)
    (back _ c.default_value.type_inv ∙ c.default_value.ensures)

pub returns-then-bit_of-2 : goal.returns-then-bit_of-2
returns-then-bit_of-2 c =
    let e = c.bit_of-in-Cascade.ensures ∙ ap (bit c.args.p) (c.nat_of.ensures ∙ ap nat_of (back _ c.nat_of-arg-1.given)) in
    cascade_none _ _ _ _ c.in-Cascade.is (sym e ∙ c.if-bit_of-2.true)

pub returns-else-bit_of-2 : goal.returns-else-bit_of-2
returns-else-bit_of-2 c =
    let e = c.bit_of-in-Cascade.ensures ∙ ap (bit c.args.p) (c.nat_of.ensures ∙ ap nat_of (back _ c.nat_of-arg-1.given)) in
    cascade_some _ _ _ _ c.in-Cascade.is (sym e ∙ c.if-bit_of-2.false) (back _ c.result-1.given)
