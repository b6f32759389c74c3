use mathlib.Core.Path.{◌≡◌, sym, subst}
use mathlib.Core.Bool.{true, false}
use borrow.Author.Rules.{rules}
use borrow.Author.Tests.{tests}
use Rattle.std.proofs.lemmas.Iterator.{first_from_Range}
use Rattle.orphans.specs.KeyRows.{RowsIfWhole}
use Rattle.orphans.proofs.OrphanLaws.{child_at, is_alone, rows_there}
use Rattle.orphan_scan.specs.Scan.{FirstRow}
use Rattle.orphan_scan.proofs.ScanLaws.{first_row, broken_none}
use Rattle.orphan_scan.proofs.next_row.Goals as goal

pub returns-in_err-key : goal.returns-in_err-key
returns-in_err-key c =
    let b = c.args.schema.now.bytes in
    let a = c.args.area.now in
    let broken = subst (RowsIfWhole b c.args.k) c.in_err-key.was c.requires.1.rows in
    subst (FirstRow b a c.args.k c.args.from) (sym c.from_residual.ensures) (broken_none b a c.args.k broken c.args.from)

pub returns : goal.returns
returns c =
    let b = c.args.schema.now.bytes in
    let a = c.args.area.now in
    let k = c.args.k in
    let whole = rows_there b a k c.requires.1 c.in_ok-key.was in
    first_row b a c.requires.0 k whole c.args.from c.find.result
    (first_from_Range (record { start = c.args.from; end = c.in_ok-key.key.children.count }) _ _ _ (λ i. is_alone b a k (child_at b a k i) ≡ true) (λ i. is_alone b a k (child_at b a k i) ≡ false) c.find.ensures.ran (λ x q r. search (rules, tests)) (λ x q r. search (rules, tests)))
