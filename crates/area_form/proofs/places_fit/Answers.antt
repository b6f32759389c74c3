use mathlib.Core.Path.{refl, sym, ap₂, ◌∙◌}
use Prim.Native.Nat.{ℕ, ◌+◌, ◌*◌, ◌/◌, ◌%◌, ◌≤◌}
use native.Mathlib.Omega.{arith}
use borrow.Author.Rules.{rules}
use borrow.Author.Tests.{tests}
use Rattle.std.proofs.iter.Serving.{serving}
use lib.IntN.{pos}
use lib.ListN.{length, get_or}
use Rattle.schema.specs.Ranges.{all_from}
use Rattle.schema.specs.Fields.{schema_of}
use Rattle.schema.proofs.RangeChains.{all_in_range}
use Rattle.rules.specs.Values.{nat_of}
use Rattle.rules.specs.Calls.{in_table}
use Rattle.bridge.proofs.LevelWords.{area_is, used_few}
use Rattle.area_form.proofs.DamageLaws.{placed_part, placed_is, fit_long}
use Rattle.area_form.proofs.places_fit.Goals as goal

pub nat_at-used-requires : goal.nat_at-used-requires
nat_at-used-requires c = omega (arith, fit_long c.requires.fit)

pub all-requires-clause-callable : goal.all-requires-clause-callable
all-requires-clause-callable c =
    let a = c.args in
    let f = c.requires.fit in
    let size = area_is (schema_of a.schema.now.bytes) a.area.now f.size in
    let within : c.journal_start-journal.result + c.nat_at-used.result * 10 ≤ length a.area.now = omega (arith, size, used_few f, c.nat_at-used.ensures, c.journal_start-journal.ensures.0) in
    grind serving

pub returns : goal.returns
unfolding placed_part
returns c =
    let s = schema_of c.args.schema.now.bytes in
    let ws = c.args.area.now in
    let placed_from = λ (at j : ℕ). in_table s (nat_of (get_or ws (at + j * 10) (pos 0)) / 1024) (nat_of (get_or ws (at + j * 10) (pos 0)) % 1024) in
    let used = c.nat_at-used.result in
    all_in_range (placed_from c.journal_start-journal.result) _ _ _ 0 used used refl (omega arith) c.all.ensures.ran (λ x q k. search (rules, tests)) (λ x q k. search (rules, tests))
    ∙ ap₂ (λ (at n : ℕ). all_from (placed_from at) n 0) c.journal_start-journal.ensures.0 c.nat_at-used.ensures
    ∙ sym (placed_is c.requires.fit)
