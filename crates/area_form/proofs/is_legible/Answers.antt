use mathlib.Core.Path.{◌≡◌, sym, ap, ap₂, ◌∙◌}
use mathlib.Core.Bool.{true}
use native.Mathlib.Omega.{arith}
use borrow.Author.Rules.{rules}
use Rattle.schema.specs.Ranges.{all_from}
use Rattle.schema.specs.Fields.{schema_of}
use Rattle.bridge.proofs.LevelWords.{area_is}
use Rattle.bridge.proofs.Tests.{and_same}
use Rattle.area_form.specs.Damage.{header_in_range, natural_part}
use Rattle.area_form.proofs.DamageLaws.{Counts, header_counts, legible_not, legible_is, sized_long}
use Rattle.area_form.proofs.is_legible.Goals as goal
use Rattle.area_form.proofs.is_legible.Goals.{Else-not-header_in_range}

header_here : (c : Else-not-header_in_range) → header_in_range (schema_of c.args.schema.now.bytes) c.args.area.now ≡ true
header_here c = sym c.header_in_range.ensures ∙ c.if-not-header_in_range.false

counts_here : (c : Else-not-header_in_range) → Counts (schema_of c.args.schema.now.bytes) c.args.area.now
counts_here c = header_counts _ _ (header_here c)

pub returns-then-not-header_in_range : goal.returns-then-not-header_in_range
returns-then-not-header_in_range c = legible_not _ _ (sym c.header_in_range.ensures ∙ c.if-not-header_in_range.true)

pub nat_at-levels-requires : goal.nat_at-levels-requires
nat_at-levels-requires c = omega (arith, sized_long c.requires)

pub nat_at-used-requires : goal.nat_at-used-requires
nat_at-used-requires c = omega (arith, sized_long c.requires)

pub all_natural-requires : goal.all_natural-requires
all_natural-requires c =
    let nat_at = c.nat_at-levels in
    (search rules, omega (arith, sized_long c.requires, (counts_here (goal.at.all_natural-requires c).Else-not-header_in_range).levels, nat_at.ensures))

pub all_natural-requires-2 : goal.all_natural-requires-2
all_natural-requires-2 c =
    let a = c.args in
    let z = area_is (schema_of a.schema.now.bytes) a.area.now c.requires.size in
    (search rules, omega (arith, z, (counts_here (goal.at.all_natural-requires-2 c).Else-not-header_in_range).used, c.nat_at-used.ensures, c.journal_start-journal.ensures.0))

pub returns : goal.returns
returns c =
    let a = c.args in
    let ws = a.area.now in
    and_same
    (c.all_natural.ensures ∙ ap (λ n. all_from (natural_part ws 36 33) n 0) c.nat_at-levels.ensures)
    (c.all_natural-2.ensures ∙ ap₂ (λ at n. all_from (natural_part ws at 10) n 0) c.journal_start-journal.ensures.0 c.nat_at-used.ensures)
    ∙ legible_is (schema_of a.schema.now.bytes) ws c.requires.size (header_here (goal.at.returns c).Else-not-header_in_range)
