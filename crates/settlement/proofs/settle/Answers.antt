use native.Mathlib.Omega.{arith}
use Rattle.bridge.proofs.HoldLaws.{area_long}
use Rattle.sums.proofs.KeptSmall.{small_more}
use Rattle.settlement.proofs.KeptLaws as law
use borrow.Author.Rules.{rules}
use Rattle.settlement.proofs.settle.Goals as goal

pub numbers_at-before-requires : goal.numbers_at-before-requires
numbers_at-before-requires c = omega (arith, area_long c.requires.0.ready.fit)

pub plus_of-kept-requires : goal.plus_of-kept-requires
plus_of-kept-requires c =
    (small_more {m = 1024} (omega arith) (rw c.numbers_at-before.ensures c.requires.0.kept_small), small_more {m = 1024} (omega arith) c.requires.0.tally_small)

pub returns-then-not-kept_in_range : goal.returns-then-not-kept_in_range
returns-then-not-kept_in_range c =
    let numbers_at = c.numbers_at-before in
    let plus_of = c.plus_of-kept in
    let kept_in_range_lem = c.kept_in_range in
    law.settle_19 c.requires.0.ready.fit c.args.tally numbers_at.ensures plus_of.ensures (search rules) kept_in_range_lem.ensures c.if-not-kept_in_range.true

pub nat_at-inside-requires : goal.nat_at-inside-requires
nat_at-inside-requires c = omega (arith, area_long c.requires.0.ready.fit)

pub returns-then-not-is_enforced : goal.returns-then-not-is_enforced
returns-then-not-is_enforced c =
    let numbers_at = c.numbers_at-before in
    let plus_of = c.plus_of-kept in
    let kept_in_range_lem = c.kept_in_range in
    let nat_at = c.nat_at-inside in
    let is_enforced = c.is_enforced in
    law.settle_20 c.requires.0.ready.fit c.args.tally numbers_at.ensures plus_of.ensures (search rules) kept_in_range_lem.ensures nat_at.ensures c.if-not-kept_in_range.false is_enforced.ensures c.if-not-is_enforced.true

pub returns : goal.returns
returns c =
    let numbers_at = c.numbers_at-before in
    let plus_of = c.plus_of-kept in
    let kept_in_range_lem = c.kept_in_range in
    let nat_at = c.nat_at-inside in
    let is_enforced = c.is_enforced in
    let write_kept = c.write_kept in
    law.settle_pass c.requires.0.ready.fit c.args.tally numbers_at.ensures plus_of.ensures (search rules) kept_in_range_lem.ensures nat_at.ensures c.if-not-kept_in_range.false is_enforced.ensures c.if-not-is_enforced.false write_kept.ensures
