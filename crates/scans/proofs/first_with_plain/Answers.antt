use native.Mathlib.Omega.{arith}
use lib.ListN.{get_or}
use mir.Syntax.{w64}
use mir.Val.{SFits}
use mir.ValLaws.{to_z-of_z}
use borrow.Author.Rules.{rules}
use Rattle.rules.specs.Lists.{𝟘}
use Rattle.scans.proofs.FirstLaws.{is_same, told_by_value, told_by_words, word_in, words_in, key_fits}
use Rattle.scans.proofs.first_with_plain.Goals as goal

pub first-requires : goal.first-requires
first-requires c =
    let n = c.requires.1.0.0 in
    let key = c.requires.1.1 in
    (c.requires.0, (word_in c.args.key.now key 0 (omega (arith, n)) c.word_of-word.ensures, (c.requires.0.0.narrow, key.columns.within 0 (omega (arith, n)))))

pub returns-then-key-eq1 : goal.returns-then-key-eq1
returns-then-key-eq1 c =
    let key = c.args.key.now in
    let fits : SFits w64 (get_or key.vs 0 𝟘) = search rules in
    is_same c.args.area.now c.args.table c.args.from (told_by_value key c.requires.1.1 c.if-key-eq1.true c.requires.1.0.1 c.word_of-word.ensures (to_z-of_z w64 (get_or key.vs 0 𝟘) fits)) c.first.result c.first.ensures

pub first-requires-2 : goal.first-requires-2
first-requires-2 c =
    let key = c.requires.1.1 in
    (c.requires.0, (words_in c.args.key.now key (omega (arith, c.requires.1.0.0, c.if-key-eq1.false)) c.first_words-pair.ensures, key_fits c.requires.0.0 key))

pub returns : goal.returns
returns c = is_same c.args.area.now c.args.table c.args.from (told_by_words c.args.key.now c.requires.1.1 c.requires.1.0.1 (omega (arith, c.requires.1.0.0, c.if-key-eq1.false)) c.first_words-pair.ensures) c.first-2.result c.first-2.ensures
