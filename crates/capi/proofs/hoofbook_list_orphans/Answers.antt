-- `plan_list` is called once, before the loop; each turn calls `next_planned` and stores the orphan that it found.
use Rattle.std.proofs.Common.{◌≡◌, List, ℕ, ◌<◌, length, sym, ap, ◌∙◌, arith}
use lib.ListN.{length-drop}
use mathlib.Core.Path.{refl}
use lib.ListN.{set}
use Rattle.words.proofs.Signed.{back}
use Rattle.rules.specs.declared.Orphan.{Orphan}
use Rattle.rules.specs.declared.Listed.{Listed}
use Rattle.rules.specs.Lists.{𝟘}
use Rattle.capi.proofs.ListLaws.{laid, laid_zero, laid_next, drop_next, all, count_low, list_left, list_refused}
use Rattle.capi.proofs.hoofbook_list_orphans.Goals as goal
use Rattle.capi.proofs.hoofbook_list_orphans.Goals.{In-loop-i}

-- the orphans that are left are not none
some_left : (c : In-loop-i) → c.loop-i.i < length (all c.args.schema.now c.args.area.now)
some_left c =
    let few = count_low c.args.schema.now c.args.area.now (length c.args.list.now) c.in-Ok.ensures.answer_is in
    omega (arith, few, c.loop-i-test.true)

pub returns-in-Err : goal.returns-in-Err
returns-in-Err c =
    let number = c.refusal_number in
    list_refused c.args.schema.now c.args.area.now c.args.list.now c.in-Err.refusal (back _ number.type_inv ∙ number.ensures) c.in-Err.ensures.answer_is

pub loop-i-init : goal.loop-i-init
loop-i-init c =
    let all_before = all c.args.schema.now c.args.area.now in
    (refl, (laid_zero all_before c.args.list.now, c.in-Ok.ensures.begun))

pub next_planned-plan-requires : goal.next_planned-plan-requires
next_planned-plan-requires c =
    let os = all c.args.schema.now c.args.area.now in
    let stands = c.loop-i.invariant.1.1 c.loop-i-test.true in
    let low = some_left (goal.at.next_planned-plan-requires c).In-loop-i in
    record {
      ready = stands.ready;
      key_is = stands.key_is;
      some = omega (arith, sym (ap length stands.left), length-drop c.loop-i.i os, low);
    }

pub loop-i-preserved : goal.loop-i-preserved
loop-i-preserved c =
    let os = all c.args.schema.now c.args.area.now in
    let i = c.loop-i.i in
    let stands = c.loop-i.invariant.1.1 c.loop-i-test.true in
    let next = c.next_planned-plan.ensures.1 in
    let same = c.next_planned-plan.ensures.0 in
    let low = some_left (goal.at.loop-i-preserved c).In-loop-i in
    let heads = stands.left ∙ next.heads in
    let room : i < length c.args.list.now = omega (arith, c.in-Ok.ensures.fits, c.loop-i-test.true) in (
      same ∙ c.loop-i.invariant.0,
      (
        ap (λ (l : List Orphan). set l i c.next_planned-plan.result.at.orphan) c.loop-i.invariant.1.0 ∙ laid_next os c.args.list.now i low heads room,
        λ l. record { ready = stands.ready; key_is = next.key_is; left = drop_next os c.args.list.now i low heads },
      ),
    )

pub returns : goal.returns
returns c =
    let same = c.loop-i.invariant.0 in
    let done : c.loop-i.i ≡ c.loop-i.plan.total = omega (arith, c.loop-i-test.false, same) in
    let os = all c.args.schema.now c.args.area.now in
    let shown : ℕ → Listed = λ n. record { code = 𝟘; count = n } in
    ap (λ (l : List Orphan). (shown c.loop-i.plan.total, l)) (c.loop-i.invariant.1.0 ∙ ap (λ (n : ℕ). laid os c.args.list.now n) done)
    ∙ list_left c.args.schema.now c.args.area.now c.args.list.now (shown c.loop-i.plan.total) (ap shown same ∙ c.in-Ok.ensures.answer_is)
