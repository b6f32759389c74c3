use Rattle.schema.specs.Ranges.{all_from, every, and_all}
use Rattle.schema.specs.Check
use mathlib.Core.Path.{◌≡◌, refl, sym, ap, ◌∙◌}
use mathlib.Core.Bool.{Bool, true, false, ◌&&◌}
use mathlib.Core.List.{List}
use Prim.Native.Nat.{ℕ, ◌+◌, ◌≤◌, ◌<◌}
use native.Mathlib.Omega.{arith}
use Rattle.std.proofs.iter.Serving.{serving}
use Rattle.schema.specs.Fields
use Rattle.schema.proofs.CheckLaws.{both_asked, first_asked, table_no, table_rest}
use Rattle.schema.proofs.Formed.{sizes}
use Rattle.schema.proofs.RangeChains.{all_in_range}
use borrow.Author.Rules.{rules}
use Rattle.schema_tables.proofs.table_rules.Goals as goal
use Rattle.schema_tables.proofs.table_rules.Goals.{After-all, Joined-all, Joined-all-2, then-all, else-all, then-all-2, else-all-2}

pub returns-then-not-size_rules : goal.returns-then-not-size_rules
returns-then-not-size_rules c = table_no _ _ (sym c.size_rules.ensures ∙ c.if-not-size_rules.true)

pub all-requires-clause-callable : goal.all-requires-clause-callable
all-requires-clause-callable c =
    let h : Fields.columns_of c.args.s.now c.args.t ≤ 8 = (sizes _ _ (sym c.size_rules.ensures ∙ c.if-not-size_rules.false)).columns.high in
    let k : c.byte_at-columns.result < 64 = omega (arith, c.byte_at-columns.ensures.0) in grind serving

-- three rules behind another are the rules one by one
three : (a b c d : Bool) → a && (b && (c && (d && true))) ≡ a && b && c && d
three true true true true = refl
three true true true false = refl
three true true false d = refl
three true false c d = refl
three false b c d = refl

masks_here : (c : After-all) → c.all.result ≡ all_from (Check.mask_rule c.args.s.now (Fields.table_start c.args.t + 3) (Fields.columns_of c.args.s.now c.args.t)) 7 0
masks_here c =
    let s = c.args.s.now in
    let t = c.args.t in
    let columns : c.byte_at-columns.result ≡ Fields.columns_of s t = c.byte_at-columns.ensures.0 in
    let clean : ℕ → Bool = λ n. all_from (Check.mask_rule s (Fields.table_start t + 3) n) 7 0 in
    let read : c.all.result ≡ clean c.byte_at-columns.result = all_in_range (Check.mask_rule s (Fields.table_start t + 3) c.byte_at-columns.result) _ _ _ 0 7 _ refl refl c.all.ensures.ran (λ x q k. search rules) (λ x q k. search rules) in
    read ∙ ap clean columns

uniques_here : (c : Joined-all) → c.all.result ≡ all_from (Check.mask_rule c.args.s.now (Fields.table_start c.args.t + 3) (Fields.columns_of c.args.s.now c.args.t)) 7 0 → c.if-all.value ≡ all_from (Check.mask_rule c.args.s.now (Fields.table_start c.args.t + 3) (Fields.columns_of c.args.s.now c.args.t)) 7 0 && all_from (Check.unique_rule c.args.s.now c.args.t) 3 0
uniques_here c masks =
    elim c.if-all.branch [
      | then-all w ↦ both_asked w.value-is w.if-all.true masks (all_in_range (Check.unique_rule c.args.s.now c.args.t) _ _ _ 0 3 _ refl refl w.all-then-all.ensures.ran (λ x q k. search rules) (λ x q k. search rules))
      | else-all w ↦ first_asked _ w.value-is w.if-all.false masks
    ]

zeros_here : (c : Joined-all-2) → c.if-all.value ≡ all_from (Check.mask_rule c.args.s.now (Fields.table_start c.args.t + 3) (Fields.columns_of c.args.s.now c.args.t)) 7 0 && all_from (Check.unique_rule c.args.s.now c.args.t) 3 0 → c.if-all-2.value ≡ all_from (Check.mask_rule c.args.s.now (Fields.table_start c.args.t + 3) (Fields.columns_of c.args.s.now c.args.t)) 7 0 && all_from (Check.unique_rule c.args.s.now c.args.t) 3 0 && all_from (Check.is_byte c.args.s.now (Fields.table_start c.args.t + 10) 0) 6 0
zeros_here c uniques =
    elim c.if-all-2.branch [
      | then-all-2 w ↦ both_asked w.value-is w.if-all-2.true uniques w.all_bytes.ensures
      | else-all-2 w ↦ first_asked _ w.value-is w.if-all-2.false uniques
    ]

-- the four together are the rest of the rules
all_four : (s : List ℕ) (t : ℕ) → Check.size_rules s t ≡ true → all_from (Check.mask_rule s (Fields.table_start t + 3) (Fields.columns_of s t)) 7 0 && all_from (Check.unique_rule s t) 3 0 && all_from (Check.is_byte s (Fields.table_start t + 10) 0) 6 0 && all_from (Check.default_rule s t) 8 0 ≡ Check.table_rules s t
unfolding Check.table_rest every and_all all_from
all_four s t e =
    ap (λ (b : Bool). b && all_from (Check.is_byte s (Fields.table_start t + 10) 0) 6 0 && all_from (Check.default_rule s t) 8 0)
    (three (all_from (Check.mask_rule s (Fields.table_start t + 3) (Fields.columns_of s t)) 7 0) (Check.unique_rule s t 0) (Check.unique_rule s t 1) (Check.unique_rule s t 2))
    ∙ sym (table_rest s t e)

pub returns-then-all_bytes : goal.returns-then-all_bytes
returns-then-all_bytes c =
    let at = goal.at.returns-then-all_bytes c in
    both_asked refl c.if-all_bytes.true (zeros_here at.Joined-all-2 (uniques_here at.Joined-all (masks_here at.After-all))) (all_in_range (Check.default_rule c.args.s.now c.args.t) _ _ _ 0 8 _ refl refl c.all-then-all_bytes.ensures.ran (λ x q k. search rules) (λ x q k. search rules))
    ∙ all_four c.args.s.now c.args.t (sym c.size_rules.ensures ∙ c.if-not-size_rules.false)

pub returns-else-all_bytes : goal.returns-else-all_bytes
returns-else-all_bytes c =
    let at = goal.at.returns-else-all_bytes c in
    first_asked _ refl c.if-all_bytes.false (zeros_here at.Joined-all-2 (uniques_here at.Joined-all (masks_here at.After-all)))
    ∙ all_four c.args.s.now c.args.t (sym c.size_rules.ensures ∙ c.if-not-size_rules.false)
