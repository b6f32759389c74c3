-- After i turns the first i orphans stand in the list, and the cursor before the others.
use Rattle.std.proofs.Common.{◌≡◌, ◌<◌, drop}
use Rattle.orphan_plan.specs.Planned.{Stands}
use Rattle.capi.proofs.ListLaws.{laid, all}
use Rattle.capi.proofs.hoofbook_list_orphans.Given as goal

abbrev pub invariant-loop-i : goal.invariant-loop-i
invariant-loop-i l =
    (l.plan.total ≡ l.initial.plan.total)
    × ((l.list ≡ laid (all l.schema l.area) l.initial.list l.i) × (l.i < l.initial.plan.total → Stands l.schema l.area (drop l.i (all l.schema l.area)) l.plan.at))
