use mathlib.Core.Path.{◌≡◌, refl, sym, ◌∙◌}
use mathlib.Core.Bool.{false}
use Prim.Native.Nat.{◌+◌, ◌*◌}
use native.Mathlib.Omega.{arith}
use Rattle.bridge.specs.Ready.{row_in}
use Rattle.skips.specs.Skipped.{both}
use Rattle.skips.proofs.SkipLaws.{both_pass, first_fails, second_fails, passed_by}
use Rattle.scans.proofs.FirstLaws.{tested, none_more, first_stop}
use Rattle.scans.proofs.first.Goals.{else-passes-via-then-passes+else-passes-2, else-passes-via-else-passes}
use Rattle.scans.proofs.first.Goals as goal

pub loop-j-init : goal.loop-j-init
loop-j-init g c =
    let look = g.L.RowTest.accepts c.args.look.now in
    let test = g.T.RowTest.accepts c.args.test.now in
    (c.skip-j.ensures.low, (passed_by (first_fails look test) c.skip-j.ensures).none)

pub returns-then-passes-2 : goal.returns-then-passes-2
returns-then-passes-2 g c =
    let look = g.L.RowTest.accepts c.args.look.now in
    let test = g.T.RowTest.accepts c.args.test.now in
    let l = c.loop-j in
    let below = c.loop-j-test.true in
    let hit = both_pass look test _ (sym c.passes.ensures ∙ c.if-passes.true) (sym c.passes-then-passes.ensures ∙ c.if-passes-2.true) in
    (below, first_stop l.j l.invariant.0 below l.invariant.1 (tested (both look test) c.args.area.now c.args.table l.j below hit refl))

pub loop-j-preserved : goal.loop-j-preserved
loop-j-preserved g c =
    let look = g.L.RowTest.accepts c.args.look.now in
    let test = g.T.RowTest.accepts c.args.test.now in
    let l = c.loop-j in
    let skip = c.skip-j-in-loop-j.ensures in
    let t = c.args.table in
    let fails : both look test (row_in c.args.area.now (t.start + l.j * t.width) t.width) ≡ false = elim c.else-passes.branch [
      | else-passes-via-then-passes+else-passes-2 w ↦ second_fails look test _ (sym w.passes-then-passes.ensures ∙ w.if-passes-2.false)
      | else-passes-via-else-passes w ↦ first_fails look test _ (sym c.passes.ensures ∙ w.if-passes.false)
    ] in
    let miss = tested (both look test) c.args.area.now c.args.table l.j c.loop-j-test.true (sym fails) refl in
    (omega (arith, l.invariant.0, skip.low), none_more l.j _ l.invariant.1 miss (passed_by (first_fails look test) skip).none)
