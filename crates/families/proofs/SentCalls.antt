-- Either order of `engine::call`: a corollary of what it promises.
-- Assumes nothing.
use mathlib.Core.Path.{◌≡◌, sym, ◌∙◌, ap}
use mathlib.Core.List.{List}
use Prim.Native.Nat.{ℕ}
use lib.IntN.{ℤ}
use Rattle.rules.specs.Refusals.{Answer, accepted}
use Rattle.rules.specs.Area.{AreaTurn}
use Rattle.rules.specs.Engine.{call_on}
use Rattle.families.specs.EitherOrder.{OneAfterOther, EitherOrder, both, swapped}
use Rattle.families.specs.SentCalls.{Sent, CallsExchanged}
use Rattle.families.proofs.EitherOrder.{either_order}

answer_is : {bs : List ℕ} {c area : List ℤ} (x : Sent bs c area) → x.answer ≡ (call_on bs c area).0
answer_is x = ap {B = Answer} (λ (t : AreaTurn). t.0) x.promised

exit_is : {bs : List ℕ} {c area : List ℤ} (x : Sent bs c area) → x.exit ≡ (call_on bs c area).1
exit_is x = ap {B = List ℤ} (λ (t : AreaTurn). t.1) x.promised

-- sent in the area that another led to
sent_after : {bs : List ℕ} {c area area' : List ℤ} (x : Sent bs c area) → area ≡ area' → (x.answer, x.exit) ≡ call_on bs c area'
sent_after {bs} {c} x e = x.promised ∙ ap {B = AreaTurn} (call_on bs c) e

pub call_either_order : (bs : List ℕ) (area c d : List ℤ) → OneAfterOther bs area c d → (c₁ : Sent bs c area) (d₂ : Sent bs d c₁.exit) (d₁ : Sent bs d area) (c₂ : Sent bs c d₁.exit) → CallsExchanged bs area c d c₁ d₂ d₁ c₂
call_either_order bs area c d h c₁ d₂ d₁ c₂ =
    let claim : EitherOrder bs area c d = either_order bs area c d h in
    let both_is : (d₂.answer, d₂.exit) ≡ both bs area c d = sent_after d₂ (exit_is c₁) in
    let swapped_is : (c₂.answer, c₂.exit) ≡ swapped bs area c d = sent_after c₂ (exit_is d₁) in
    let both_area : d₂.exit ≡ (both bs area c d).1 = ap {B = List ℤ} (λ (t : AreaTurn). t.1) both_is in
    let swapped_area : c₂.exit ≡ (swapped bs area c d).1 = ap {B = List ℤ} (λ (t : AreaTurn). t.1) swapped_is in
    record {
      answer_c = ap {B = Answer} (λ (t : AreaTurn). t.0) swapped_is ∙ claim.answer_c ∙ sym (answer_is c₁);
      answer_d = answer_is d₁ ∙ claim.answer_d ∙ sym (ap {B = Answer} (λ (t : AreaTurn). t.0) both_is);
      areas = rw (both_area, swapped_area) claim.areas;
      rolled_back = λ r k x y e.
          let x_is : (x.answer, x.exit) ≡ call_on bs r (both bs area c d).1 = sent_after x both_area in
          let same : ◌≡◌ {A = AreaTurn} (y.answer, y.exit) (x.answer, x.exit)
          = sent_after y swapped_area ∙ claim.rolled_back r k (ap (λ (t : AreaTurn). accepted t.0) (sym x_is) ∙ e) ∙ sym x_is in
          (ap {B = Answer} (λ (t : AreaTurn). t.0) same, ap {B = List ℤ} (λ (t : AreaTurn). t.1) same);
    }
