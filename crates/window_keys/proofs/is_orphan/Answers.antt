use mathlib.Core.Path.{ap}
use mathlib.Core.Bool.{not}
use Rattle.windows.proofs.KeyDays.{window_in}
use Rattle.window_keys.proofs.OrphanLaws.{full_there, orphan_half, orphan_full}
use Rattle.window_keys.proofs.is_orphan.Goals as goal

pub full_child-requires : goal.full_child-requires
full_child-requires c = window_in _ _ _ c.requires.0.1

pub returns-then-not-full_child : goal.returns-then-not-full_child
returns-then-not-full_child c =
    orphan_half _ _ _ c.requires.0.1 _ c.full_child.ensures (ap not c.if-not-full_child.true) _ c.is_half_due.ensures

pub is_served-requires : goal.is_served-requires
is_served-requires c =
    (c.requires.0, (c.requires.1, full_there _ _ _ c.requires.0.1 _ c.full_child.ensures (ap not c.if-not-full_child.false)))

pub returns : goal.returns
returns c =
    orphan_full _ _ _ c.requires.0.1 _ c.full_child.ensures (ap not c.if-not-full_child.false) _ c.is_served.ensures
