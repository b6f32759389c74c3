use native.Mathlib.Omega.{arith}
use Rattle.scans.proofs.FirstLaws.{is_same, told_by_mask, told_by_masks, mask_in, masks_in, key_fits}
use Rattle.scans.proofs.first_with_folded.Goals as goal

pub first-requires : goal.first-requires
first-requires c =
    let key = c.requires.1.1 in
    (c.requires.0, (mask_in c.args.key.now key 0 (omega (arith, c.requires.1.0)) c.masked_word-word.ensures, key_fits c.requires.0.0 key))

pub returns-then-key-eq1 : goal.returns-then-key-eq1
returns-then-key-eq1 c = is_same c.args.area.now c.args.table c.args.from (told_by_mask c.args.key.now c.requires.1.1 0 (omega (arith, c.requires.1.0)) c.masked_word-word.ensures) c.first.result c.first.ensures

pub first-requires-2 : goal.first-requires-2
first-requires-2 c =
    let key = c.requires.1.1 in
    (c.requires.0, (masks_in c.args.key.now key (omega (arith, c.requires.1.0, c.if-key-eq1.false)) c.masked_pair-near.ensures, key_fits c.requires.0.0 key))

pub returns : goal.returns
returns c = is_same c.args.area.now c.args.table c.args.from (told_by_masks c.args.key.now c.requires.1.1 (omega (arith, c.requires.1.0, c.if-key-eq1.false)) c.masked_pair-near.ensures) c.first-2.result c.first-2.ensures
