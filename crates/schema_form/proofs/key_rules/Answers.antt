use Rattle.schema.specs.Ranges.{all_from, every, and_all}
use Rattle.schema.specs.Check
use mathlib.Core.Path.{◌≡◌, refl, sym, ap, ap₂, ◌∙◌}
use mathlib.Core.Bool.{◌&&◌}
use Prim.Native.Nat.{ℕ, ◌+◌, ◌≤◌}
use native.Mathlib.Omega.{arith}
use borrow.Author.Rules.{rules}
use Rattle.std.proofs.iter.Serving.{serving}
use Rattle.schema.specs.Bytes
use Rattle.schema.specs.Fields
use Rattle.schema.proofs.CheckLaws.{both_asked, first_asked, key_no, key_rest}
use Rattle.schema.proofs.RangeChains.{all_in_range}
use Rattle.schema.proofs.Formed.{Codes, codes}
use Rattle.schema_form.proofs.key_rules.Goals as goal
use Rattle.schema_form.proofs.key_rules.Goals.{After-byte_at-n, After-all, Joined-all, then-all, else-all}

pub returns-then-not-code_rules : goal.returns-then-not-code_rules
returns-then-not-code_rules c = key_no _ _ (sym c.code_rules.ensures ∙ c.if-not-code_rules.true)

codes_here : (c : After-byte_at-n) → Codes c.args.s.now c.args.k
codes_here c = codes _ _ (sym c.code_rules.ensures ∙ c.if-not-code_rules.false)

child_here : (c : After-byte_at-n) → c.byte_at-child.result ≡ Fields.child_of c.args.s.now c.args.k
child_here c = c.byte_at-child.ensures.0 ∙ ap (λ (at : ℕ). Bytes.byte c.args.s.now at) c.key_start-at.ensures

width_here : (c : After-byte_at-n) → c.byte_at-n.result ≡ Fields.width_of c.args.s.now c.args.k
width_here c = c.byte_at-n.ensures.0 ∙ ap (λ (at : ℕ). Bytes.byte c.args.s.now (at + 5)) c.key_start-at.ensures

pub byte_at-columns-requires : goal.byte_at-columns-requires
byte_at-columns-requires c = omega (arith, child_here (goal.at.byte_at-columns-requires c).After-byte_at-n, (codes_here (goal.at.byte_at-columns-requires c).After-byte_at-n).child)

pub all-requires-clause-callable : goal.all-requires-clause-callable
all-requires-clause-callable c =
    let p = goal.at.all-requires-clause-callable c in
    let h : c.byte_at-n.result ≤ 4 = omega (arith, width_here p.After-byte_at-n, (codes_here p.After-byte_at-n).width.high) in grind serving

pub columns_rule-requires : goal.columns_rule-requires
columns_rule-requires c = omega (arith, width_here (goal.at.columns_rule-requires c).After-byte_at-n, (codes_here (goal.at.columns_rule-requires c).After-byte_at-n).width.high)

pub columns_rule-requires-then-columns_rule : goal.columns_rule-requires-then-columns_rule
columns_rule-requires-then-columns_rule c = omega (arith, width_here (goal.at.columns_rule-requires-then-columns_rule c).After-byte_at-n, (codes_here (goal.at.columns_rule-requires-then-columns_rule c).After-byte_at-n).width.high)

columns_here : (c : After-all) → c.byte_at-child.result ≡ Fields.child_of c.args.s.now c.args.k → c.byte_at-n.result ≡ Fields.width_of c.args.s.now c.args.k → c.all.result ≡ all_from (Fields.column_rule c.args.s.now (Fields.key_start c.args.s.now c.args.k + 6) (Fields.columns_of c.args.s.now (Fields.child_of c.args.s.now c.args.k))) (Fields.width_of c.args.s.now c.args.k) 0
columns_here c child width =
    let s = c.args.s.now in
    let k = c.args.k in
    let columns : c.byte_at-columns.result ≡ Fields.columns_of s (Fields.child_of s k) = c.byte_at-columns.ensures.0 ∙ ap (Fields.columns_of s) child in
    all_in_range (Fields.column_rule s (c.key_start-at.result + 6) c.byte_at-columns.result) _ _ _ 0 c.byte_at-n.result _ refl (omega arith) c.all.ensures.ran (λ x q k. search rules) (λ x q k. search rules)
    ∙ ap (λ (at : ℕ). all_from (Fields.column_rule s (at + 6) c.byte_at-columns.result) c.byte_at-n.result 0) c.key_start-at.ensures
    ∙ ap₂ (λ (m n : ℕ). all_from (Fields.column_rule s (Fields.key_start s k + 6) m) n 0) columns width

child_columns_here : (c : Joined-all) → c.byte_at-n.result ≡ Fields.width_of c.args.s.now c.args.k → c.all.result ≡ all_from (Fields.column_rule c.args.s.now (Fields.key_start c.args.s.now c.args.k + 6) (Fields.columns_of c.args.s.now (Fields.child_of c.args.s.now c.args.k))) (Fields.width_of c.args.s.now c.args.k) 0 → c.if-all.value ≡ all_from (Fields.column_rule c.args.s.now (Fields.key_start c.args.s.now c.args.k + 6) (Fields.columns_of c.args.s.now (Fields.child_of c.args.s.now c.args.k))) (Fields.width_of c.args.s.now c.args.k) 0 && Check.columns_rule c.args.s.now (Fields.key_start c.args.s.now c.args.k + 6) (Fields.width_of c.args.s.now c.args.k)
child_columns_here c width columns =
    elim c.if-all.branch [
      | then-all w ↦ both_asked w.value-is w.if-all.true columns (w.columns_rule.ensures ∙ ap₂ (λ (at n : ℕ). Check.columns_rule c.args.s.now (at + 6) n) c.key_start-at.ensures width)
      | else-all w ↦ first_asked _ w.value-is w.if-all.false columns
    ]

pub returns-then-columns_rule : goal.returns-then-columns_rule
unfolding Check.key_rest every and_all
returns-then-columns_rule c =
    let at = goal.at.returns-then-columns_rule c in
    let s = c.args.s.now in
    let width = width_here at.After-byte_at-n in
    both_asked refl c.if-columns_rule.true (child_columns_here at.Joined-all width (columns_here at.After-all (child_here at.After-byte_at-n) width))
    (c.columns_rule-then-columns_rule.ensures ∙ ap₂ (λ (at n : ℕ). Check.columns_rule s (at + 10) n) c.key_start-at.ensures width)
    ∙ sym (key_rest s c.args.k (sym c.code_rules.ensures ∙ c.if-not-code_rules.false))

pub returns-else-columns_rule : goal.returns-else-columns_rule
unfolding Check.key_rest every and_all
returns-else-columns_rule c =
    let at = goal.at.returns-else-columns_rule c in
    let s = c.args.s.now in
    let k = c.args.k in
    let width = width_here at.After-byte_at-n in
    first_asked (Check.columns_rule s (Fields.key_start s k + 10) (Fields.width_of s k)) refl c.if-columns_rule.false (child_columns_here at.Joined-all width (columns_here at.After-all (child_here at.After-byte_at-n) width))
    ∙ sym (key_rest s k (sym c.code_rules.ensures ∙ c.if-not-code_rules.false))
