use mathlib.Core.Path.{refl, ◌∙◌}
use mathlib.Core.List.{[]}
use native.Mathlib.Omega.{arith}
use borrow.Author.Rules.{rules}
use borrow.Author.Tests.{tests}
use lib.ListN.{length, get_or}
use Rattle.schema.specs.Records.{key_of, no_key}
use Rattle.schema.specs.Fields.{schema_of}
use Rattle.schema.proofs.RangeChains.{any_in_range}
use Rattle.rules.specs.Change.{bad_window}
use Rattle.bridge.specs.Fit.{work_of}
use Rattle.bridge.proofs.CountLaws.{any_by_number}
use Rattle.window_keys.proofs.ClashLaws.{bad_empty_mask}
use Rattle.window_keys.proofs.windows_broken.Goals as goal

pub returns-then-windowed-eq0 : goal.returns-then-windowed-eq0
returns-then-windowed-eq0 c =
    bad_empty_mask c.args.schema.now.bytes c.requires.0.ready.accepted c.args.t c.requires.1 c.if-windowed-eq0.true c.args.r c.args.image _

pub returns : goal.returns
returns c =
    let a = c.args in
    let s = schema_of a.schema.now.bytes in
    let bad = bad_window a.t a.r a.image (get_or (work_of s a.area.now).tabs a.t []) in
    any_in_range (λ k. bad (key_of s k)) _ _ _ 0 c.key_count.result (length s.keys) refl (omega (arith, c.key_count.ensures.0)) c.any.ensures.ran (λ x q k. search (rules, tests)) (λ x q k. search (rules, tests))
    ∙ any_by_number bad no_key s.keys
