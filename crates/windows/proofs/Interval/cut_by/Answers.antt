use mathlib.Core.Path.{◌≡◌, sym, ap, ap₂, ◌∙◌}
use mathlib.Core.Bool.{Bool, cond}
use lib.IntN.{ℤ}
use lib.Signed.{le_z, lt_z}
use mir.Syntax.{w64}
use mir.Val.{SFits, to_z}
use mir.ValLaws.{to_z-of_z}
use borrow.Author.Rules.{rules}
use Rattle.rules.specs.Keys.{is_within}
use Rattle.bridge.proofs.Tests.{and_same}
use Rattle.windows.specs.declared.Interval.{Interval}
use Rattle.windows.specs.WindowKey.{left_first, left_end}
use Rattle.windows.proofs.Interval.cut_by.Goals as goal
use Rattle.windows.proofs.Interval.cut_by.Goals.{then-contains, else-contains}

-- the days from a first one to before an end
abbrev days : ℤ → ℤ → Interval
days first end = record { first = first; end = end }

-- the first day, by whether the other interval has it
starts : (x y : Interval) {b : Bool} {first : ℤ} → b ≡ is_within y.first y.end x.first → first ≡ cond b y.end x.first → first ≡ left_first x.first y.first y.end
unfolding left_first
starts x y e f = f ∙ ap (λ (b : Bool). cond b y.end x.first) e

pub returns-then-other-self : goal.returns-then-other-self
unfolding left_end
returns-then-other-self c =
    let x = c.args.self in
    let y = c.args.other in
    let fits : SFits w64 x.first = search rules in
    let fits2 : SFits w64 x.end = search rules in
    let fits3 : SFits w64 y.first = search rules in
    let fits4 : SFits w64 y.end = search rules in
    let first = to_z-of_z w64 _ fits in
    let end = to_z-of_z w64 _ fits2 in
    let first2 = to_z-of_z w64 _ fits3 in
    let end2 = to_z-of_z w64 _ fits4 in
    let chosen : to_z w64 c.if-contains.first-bits ≡ cond c.contains.result y.end x.first = elim c.if-contains.branch [
      | then-contains w ↦ w.first-is ∙ end2 ∙ sym (ap (λ (b : Bool). cond b y.end x.first) w.if-contains.true)
      | else-contains w ↦ w.first-is ∙ first ∙ sym (ap (λ (b : Bool). cond b y.end x.first) w.if-contains.false)
    ] in
    let starts_at = starts x y (c.contains.ensures ∙ ap (is_within y.first y.end) first) chosen in
    let test = sym (and_same (ap₂ lt_z first2 end) (ap₂ le_z end end2)) ∙ c.if-other-self.true in
    ap₂ days starts_at (first2 ∙ sym (ap (λ (b : Bool). cond b y.first x.end) test))

pub returns-else-other-self : goal.returns-else-other-self
unfolding left_end
returns-else-other-self c =
    let x = c.args.self in
    let y = c.args.other in
    let fits : SFits w64 x.first = search rules in
    let fits2 : SFits w64 x.end = search rules in
    let fits3 : SFits w64 y.first = search rules in
    let fits4 : SFits w64 y.end = search rules in
    let first = to_z-of_z w64 _ fits in
    let end = to_z-of_z w64 _ fits2 in
    let first2 = to_z-of_z w64 _ fits3 in
    let end2 = to_z-of_z w64 _ fits4 in
    let chosen : to_z w64 c.if-contains.first-bits ≡ cond c.contains.result y.end x.first = elim c.if-contains.branch [
      | then-contains w ↦ w.first-is ∙ end2 ∙ sym (ap (λ (b : Bool). cond b y.end x.first) w.if-contains.true)
      | else-contains w ↦ w.first-is ∙ first ∙ sym (ap (λ (b : Bool). cond b y.end x.first) w.if-contains.false)
    ] in
    let starts_at = starts x y (c.contains.ensures ∙ ap (is_within y.first y.end) first) chosen in
    let test = sym (and_same (ap₂ lt_z first2 end) (ap₂ le_z end end2)) ∙ c.if-other-self.false in
    ap₂ days starts_at (end ∙ sym (ap (λ (b : Bool). cond b y.first x.end) test))
