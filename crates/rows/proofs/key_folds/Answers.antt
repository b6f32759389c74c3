use mathlib.Core.Path.{sym, ◌∙◌}
use native.Mathlib.Omega.{arith}
use Rattle.rows.proofs.TableLaws.{parent_table, parent_wide, parent_folds}
use Rattle.rows.proofs.FoldLaws.{folds_none}
use Rattle.rows.proofs.key_folds.Goals as goal

pub folded-mask-requires : goal.folded-mask-requires
folded-mask-requires c =
    let p = c.requires in
    rw (← p.1) (parent_table c.args.schema.now.bytes c.args.k p.0.whole_key)

pub returns-then-mask-eq0 : goal.returns-then-mask-eq0
returns-then-mask-eq0 c =
    let a = c.args in
    let p = c.requires in
    folds_none a.n a.ps (omega (arith, p.0.parent_within.few, p.0.parent_within.size)) c.if-mask-eq0.true
    ∙ parent_folds a.schema.now.bytes a.k a.n a.ps p.0 (sym p.1) c.folded-mask.ensures.0

pub folds_among-requires : goal.folds_among-requires
folds_among-requires c =
    parent_wide c.args.schema.now.bytes c.args.k c.args.n c.args.ps c.requires.0

pub returns : goal.returns
returns c =
    let a = c.args in
    c.folds_among.ensures ∙ parent_folds a.schema.now.bytes a.k a.n a.ps c.requires.0 (sym c.requires.1) c.folded-mask.ensures.0
