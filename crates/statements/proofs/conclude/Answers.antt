use mathlib.Core.Path.{sym, ap, ◌∙◌}
use Prim.Native.Nat.{ℕ, ◌-◌}
use native.Mathlib.Omega.{arith}
use Rattle.schema.specs.Fields.{schema_of}
use Rattle.schema.specs.Records.{Schema}
use Rattle.rules.specs.Lists.{plus}
use Rattle.rules.specs.Area.{view}
use Rattle.bridge.proofs.HoldLaws.{area_long}
use Rattle.bridge.proofs.RowWords.{use_is}
use Rattle.words.proofs.Signed.{back}
use Rattle.sums.proofs.KeptSmall.{small_more}
use Rattle.settlement.proofs.KeptLaws as kept
use Rattle.statements.proofs.Ends as ends
use Rattle.statements.proofs.conclude.Goals as goal

pub nat_at-requires : goal.nat_at-requires
nat_at-requires c = omega (arith, area_long c.requires.0.settling.ready.fit)

pub overflow_sub-changed : goal.overflow_sub-changed
overflow_sub-changed c = omega (arith, c.requires.0.begun, c.nat_at.ensures, use_is c.requires.0.settling.ready.fit)

pub put_back-requires : goal.put_back-requires
put_back-requires c =
    let sc : Schema = schema_of c.args.schema.now.bytes in
    let made = c.settle_made in
    ends.undoable_same c.requires.0 c.requires.1 (kept.failed_same sc (plus (view sc c.args.area.now).kept c.args.tally) c.args.area.now made.new.area c.in-Err.is made.ensures.1)

pub sum_of-net-requires : goal.sum_of-net-requires
sum_of-net-requires c = small_more {m = 1024} (omega arith) c.requires.0.settling.tally_small

pub returns-in-Err : goal.returns-in-Err
returns-in-Err c =
    let sc : Schema = schema_of c.args.schema.now.bytes in
    let made = c.settle_made in
    ends.ended_fail sc c.args.used c.args.tally c.args.area.now _ _ _ (sym c.in-Err.is ∙ made.ensures.0) (kept.failed_same sc (plus (view sc c.args.area.now).kept c.args.tally) c.args.area.now made.new.area c.in-Err.is made.ensures.1) c.put_back.ensures

pub returns-in-Ok : goal.returns-in-Ok
returns-in-Ok c =
    let sc : Schema = schema_of c.args.schema.now.bytes in
    let made = c.settle_made in
    ends.ended_pass sc c.args.used c.args.tally c.args.area.now _ _ _ (sym c.in-Ok.is ∙ made.ensures.0) (ap (λ (n : ℕ). n - c.args.used) (c.nat_at.ensures ∙ sym (use_is c.requires.0.settling.ready.fit))) (back _ c.sum_of-net.type_inv ∙ c.sum_of-net.ensures) (kept.passed_holds sc (plus (view sc c.args.area.now).kept c.args.tally) c.args.area.now made.new.area c.in-Ok.is made.ensures.1)
