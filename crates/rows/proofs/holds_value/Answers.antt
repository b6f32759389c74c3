use mathlib.Core.Path.{sym, ap, ap₂, ◌∙◌}
use mathlib.Core.Bool.{not}
use Prim.Native.Nat.{◌+◌}
use lib.ListN.{get_or}
use Rattle.words.proofs.Signed.{back}
use Rattle.schema.specs.Bytes.{bit}
use Rattle.rules.specs.Lists.{𝟘}
use Rattle.rules.specs.Values.{same_word, folded}
use Rattle.rows.proofs.SoughtLaws.{value_differs, value_same}
use Rattle.rows.proofs.holds_value.Goals as goal

pub returns-else-same_word : goal.returns-else-same_word
returns-else-same_word c =
    let a = c.args in
    let u = c.compared-u.ensures ∙ ap (folded a.f) (back (get_or a.row.now (a.c + 1) 𝟘) c.compared-arg-1.given) in
    let e = c.same_word.ensures ∙ ap₂ same_word (back _ c.compared-u.type_inv ∙ u) (back _ c.ranges.v.sfits) in
    c.if-same_word.false ∙ value_differs a.row.now a.f a.c a.v c.requires.1 (sym e ∙ c.if-same_word.false)

pub returns-then-same_word : goal.returns-then-same_word
returns-then-same_word c =
    let a = c.args in
    let u = c.compared-u.ensures ∙ ap (folded a.f) (back (get_or a.row.now (a.c + 1) 𝟘) c.compared-arg-1.given) in
    let e = c.same_word.ensures ∙ ap₂ same_word (back _ c.compared-u.type_inv ∙ u) (back _ c.ranges.v.sfits) in
    ap not (c.bit_of.ensures ∙ ap (bit a.c) c.nat_at.ensures)
    ∙ value_same a.row.now a.f a.c a.v c.requires.1 (sym e ∙ c.if-same_word.true)
