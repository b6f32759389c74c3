use mathlib.Core.Path.{◌≡◌}
use lib.ListN.{length}
use Rattle.bridge.specs.Ready.{Ready}
use Rattle.tally.proofs.RowLaws.{row_small, tally_small, cut_is, follows_written}
use borrow.Author.Rules.{rules}
use Rattle.tally.proofs.write_tallied.Goals as goal

pub moved-requires : goal.moved-requires
moved-requires c =
    let h = c.requires.0.tallied in
    let w = c.write_row in
    let after : Ready c.args.schema.now.bytes w.new.area = record { accepted = h.ready.accepted; fit = w.ensures.1.1.fit } in
    (tally_small h, (rw c.row_counts-before.ensures (row_small h.ready _ _ _ _), rw c.row_counts-after.ensures (row_small after _ _ _ _)))

pub returns : goal.returns
returns c =
    let w = c.write_row.ensures in
    let columns = c.columns-width.ensures.0 in
    let nine : length c.args.image ≡ 9 = search rules in
    let cut = cut_is c.args.image nine c.image_at-new.ensures columns in
    let old = c.image_of-old.ensures in
    (old, (w.1.0, follows_written c.args.image c.requires.0 nine w.1.0 w.1.1 old cut c.row_counts-before.ensures c.row_counts-after.ensures c.moved.ensures))
