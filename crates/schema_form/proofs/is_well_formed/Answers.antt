use mathlib.Core.Path.{◌≡◌, refl, sym, ap, ◌∙◌}
use Rattle.schema.specs.Ranges.{all_from}
use Rattle.schema.specs.Check
use Rattle.schema.specs.Fields
use native.Mathlib.Omega.{arith}
use borrow.Author.Rules.{rules}
use Rattle.std.proofs.iter.Serving.{serving}
use Rattle.schema.proofs.RangeChains.{all_in_range}
use Rattle.schema.proofs.CheckLaws.{both_asked, first_asked, well_no, well_rest}
use Rattle.schema.proofs.Formed.{Header, header}
use Rattle.schema_form.proofs.is_well_formed.Goals as goal
use Rattle.schema_form.proofs.is_well_formed.Goals.{After-all_tables, Else-not-header_rules}

pub returns-then-not-header_rules : goal.returns-then-not-header_rules
returns-then-not-header_rules c = well_no _ (sym c.header_rules.ensures ∙ c.if-not-header_rules.true)

header_here : (c : Else-not-header_rules) → Header c.args.s.now
header_here c = header _ (sym c.header_rules.ensures ∙ c.if-not-header_rules.false)

pub half_at-tables-requires : goal.half_at-tables-requires
half_at-tables-requires c = omega (arith, header_here (goal.at.half_at-tables-requires c).Else-not-header_rules)

pub half_at-keys-requires : goal.half_at-keys-requires
half_at-keys-requires c = omega (arith, header_here (goal.at.half_at-keys-requires c).Else-not-header_rules)

pub all_tables-requires : goal.all_tables-requires
all_tables-requires c = omega (arith, header_here (goal.at.all_tables-requires c).Else-not-header_rules)

pub all-requires-clause-callable : goal.all-requires-clause-callable
all-requires-clause-callable c =
    let h = header_here (goal.at.all-requires-clause-callable c).Else-not-header_rules in grind serving

tables_here : (c : After-all_tables) → c.all_tables.result ≡ all_from (Check.table_rules c.args.s.now) (Fields.table_count c.args.s.now) 0
tables_here c =
    let tables : c.half_at-tables.result ≡ Fields.table_count c.args.s.now = c.half_at-tables.ensures.0 in
    c.all_tables.ensures ∙ ap (λ n. all_from (Check.table_rules c.args.s.now) n 0) tables

pub returns-then-all_tables : goal.returns-then-all_tables
returns-then-all_tables c =
    let s = c.args.s.now in
    let keys : c.half_at-keys.result ≡ Fields.key_count s = c.half_at-keys.ensures.0 in
    both_asked refl c.if-all_tables.true (tables_here (goal.at.returns-then-all_tables c).After-all_tables)
    (all_in_range (Check.key_rules s) _ _ _ 0 c.half_at-keys.result _ refl (omega arith) c.all.ensures.ran (λ x q k. search rules) (λ x q k. search rules) ∙ ap (λ n. all_from (Check.key_rules s) n 0) keys)
    ∙ sym (well_rest s (sym c.header_rules.ensures ∙ c.if-not-header_rules.false))

pub returns-else-all_tables : goal.returns-else-all_tables
returns-else-all_tables c =
    first_asked _ refl c.if-all_tables.false (tables_here (goal.at.returns-else-all_tables c).After-all_tables)
    ∙ sym (well_rest c.args.s.now (sym c.header_rules.ensures ∙ c.if-not-header_rules.false))
