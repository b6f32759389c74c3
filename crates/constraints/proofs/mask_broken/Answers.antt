use Rattle.constraints.proofs.UniqueLaws.{mask_some, twice_except}
use Rattle.rows.proofs.SoughtLaws.{sought_ready, any_sought}
use mathlib.Core.Path.{sym, ◌∙◌}
use borrow.Author.Rules.{rules}
use Rattle.rows.proofs.CellLaws.{widen}
use Rattle.rows.proofs.MaskLaws.{mask_array, mask_null, mask_full, mask_none}
use Rattle.constraints.proofs.mask_broken.Goals as goal

pub returns-then-m-eq0 : goal.returns-then-m-eq0
returns-then-m-eq0 c = mask_none _ _ _ _ _ c.if-m-eq0.true

pub image_full_key-requires : goal.image_full_key-requires
image_full_key-requires c =
    let cs = c.mask_columns-cs.result in
    let k = c.mask_count-n.ensures.0 in
    let g = c.mask_columns-cs.ensures in
    widen c.requires.0.0.narrow (mask_array c.args.m cs k g (search rules) c.mask_count-n.ensures.1 c.requires.1.0)

pub returns-then-not-image_full_key : goal.returns-then-not-image_full_key
returns-then-not-image_full_key c =
    let cs = c.mask_columns-cs.result in
    let k = c.mask_count-n.ensures.0 in
    let g = c.mask_columns-cs.ensures in
    let h = sym c.image_full_key.ensures ∙ c.if-not-image_full_key.true in
    mask_null c.args.m cs k g _ _ _ _ c.if-m-eq0.false h

pub folds_among-folds-requires : goal.folds_among-folds-requires
folds_among-folds-requires c =
    let mask_count = c.mask_count-n in
    let mask_columns = c.mask_columns-cs in
    widen c.requires.0.0.narrow (mask_array c.args.m mask_columns.result mask_count.ensures.0 mask_columns.ensures (search rules) mask_count.ensures.1 c.requires.1.0)

pub sought_key-key-requires : goal.sought_key-key-requires
sought_key-key-requires c =
    let mask_count = c.mask_count-n in
    let mask_columns = c.mask_columns-cs in
    let columns = mask_array c.args.m mask_columns.result mask_count.ensures.0 mask_columns.ensures (search rules) mask_count.ensures.1 c.requires.1.0 in
    (widen c.requires.0.0.narrow columns, sym c.image_full_key.ensures ∙ c.if-not-image_full_key.false)

pub other_with_key-requires : goal.other_with_key-requires
other_with_key-requires c =
    let mask_count = c.mask_count-n in
    let mask_columns = c.mask_columns-cs in
    let columns = mask_array c.args.m mask_columns.result mask_count.ensures.0 mask_columns.ensures (search rules) mask_count.ensures.1 c.requires.1.0 in
    (c.requires.0, sought_ready c.sought_key-key.ensures (mask_some c.args.m c.requires.1.1 c.if-m-eq0.false mask_count.ensures.0) columns)

pub returns : goal.returns
returns c =
    let mask_count = c.mask_count-n in
    let mask_columns = c.mask_columns-cs in
    let full = sym c.image_full_key.ensures ∙ c.if-not-image_full_key.false in
    c.other_with_key.ensures
    ∙ any_sought c.sought_key-key.ensures _
    ∙ twice_except _ _ _ _ _
    ∙ mask_full c.args.m mask_columns.result mask_count.ensures.0 mask_columns.ensures _ _ _ _ c.if-m-eq0.false full c.folds_among-folds.ensures
