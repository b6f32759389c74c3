use mathlib.Core.Path.{sym, ◌∙◌}
use native.Mathlib.Omega.{arith}
use Rattle.schema.proofs.SchemaLaws.{accepted_valid}
use Rattle.table_keys.proofs.TouchLaws.{not_used, used_by, used}
use Rattle.table_keys.proofs.is_used.Goals as goal

pub bit_of-requires : goal.bit_of-requires
bit_of-requires c = omega (arith, (accepted_valid _ c.args.schema.now.accepted).few, c.requires.0)

pub returns-then-not-bit_of : goal.returns-then-not-bit_of
returns-then-not-bit_of c =
    not_used _ _ _ _ (sym (c.requires.1.each c.args.k c.requires.0) ∙ sym c.bit_of.ensures ∙ c.if-not-bit_of.true)

pub returns : goal.returns
returns c =
    let hit = sym (c.requires.1.each c.args.k c.requires.0) ∙ sym c.bit_of.ensures ∙ c.if-not-bit_of.false in
    used_by _ _ _ _ c.child-child.ensures.0 c.parent-parent.ensures ∙ used _ _ _ _ hit
