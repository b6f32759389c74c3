use mathlib.Core.Path.{refl, sym, ◌∙◌}
use native.Mathlib.Omega.{arith}
use borrow.Author.Rules.{rules}
use Rattle.std.proofs.lemmas.Result.{err_from_is_err_and}
use Rattle.schema.specs.Fields.{schema_of}
use Rattle.moves.proofs.TallyLaws.{follows_refl, follows_trans, tallied_after}
use Rattle.rows.proofs.TableLaws.{standing}
use Rattle.found.proofs.SoughtLaws.{found_in_table}
use Rattle.statements.proofs.FoundLaws as law
use Rattle.statements.proofs.found_walk.Goals as goal

pub loop-i-init : goal.loop-i-init
loop-i-init c = record { low = omega arith; size = refl; follows = follows_refl c.requires.0.ready.fit; rest = law.walk_start _ _ _ _ _ c.requires.1.0.stand.count_is }

pub next_found-requires : goal.next_found-requires
next_found-requires c =
    let l = c.loop-i in
    let seeks = c.requires.1.0 in
    let ready = (tallied_after c.requires.0 l.invariant.follows).ready in
    ((standing c.args.schema.now.bytes _ ready c.args.t seeks.table c.args.x.rows seeks.stand, l.invariant.low), seeks.seekable)

pub image_given-image-requires : goal.image_given-image-requires
image_given-image-requires c =
    let next = rw c.in-Some.is at c.next_found.ensures in
    (record { ready = (tallied_after c.requires.0 c.loop-i.invariant.follows).ready; table = c.requires.1.0.table; row = omega (arith, next.0, c.requires.1.0.stand.count_is) }, c.requires.1.1)

pub row_change-requires : goal.row_change-requires
row_change-requires c =
    let next = rw c.in-Some.is at c.next_found.ensures in
    record { tallied = tallied_after c.requires.0 c.loop-i.invariant.follows; table = c.requires.1.0.table; row = omega (arith, next.0, c.requires.1.0.stand.count_is) }

pub returns-in_err-row_change : goal.returns-in_err-row_change
returns-in_err-row_change c =
    let a = c.args in
    let sc = schema_of a.schema.now.bytes in
    let l = c.loop-i in
    let next = rw c.in-Some.is at c.next_found.ensures in
    let found = found_in_table a.schema.now.bytes _ a.t a.x (tallied_after c.requires.0 l.invariant.follows).ready c.requires.1.0 next.1 in
    let p = err_from_is_err_and c.from_residual.result c.from_residual.ensures.1 in
    rw (p.1, p.2) (sym (l.invariant.rest ∙ law.walk_refused sc a.t a.x a.given a.x.rows.count l.j c.in-Some.i _ c.requires.1.0.stand.count_is found next.0 c.image_given-image.ensures _ _ c.row_change.ensures.0 c.in_err-row_change.was), follows_trans l.invariant.follows c.row_change.ensures.1)

pub overflow_add-j : goal.overflow_add-j
overflow_add-j c =
    let next = rw c.in-Some.is at c.next_found.ensures in
    let stands = standing c.args.schema.now.bytes _ c.requires.0.ready c.args.t c.requires.1.0.table c.args.x.rows c.requires.1.0.stand in
    omega (arith, next.0, stands.few)

pub loop-i-smaller : goal.loop-i-smaller
loop-i-smaller c =
    let next = rw c.in-Some.is at c.next_found.ensures in
    omega (arith, next.0, next.1.low)

pub loop-i-preserved : goal.loop-i-preserved
loop-i-preserved c =
    let a = c.args in
    let sc = schema_of a.schema.now.bytes in
    let l = c.loop-i in
    let next = rw c.in-Some.is at c.next_found.ensures in
    let found = found_in_table a.schema.now.bytes _ a.t a.x (tallied_after c.requires.0 l.invariant.follows).ready c.requires.1.0 next.1 in
    record {
      low = omega (arith, next.0);
      size = search rules;
      follows = follows_trans l.invariant.follows c.row_change.ensures.1;
      rest =
          l.invariant.rest
          ∙ law.walk_done sc a.t a.x a.given a.x.rows.count l.j c.in-Some.i _ c.requires.1.0.stand.count_is found next.0 c.image_given-image.ensures _ _ c.row_change.ensures.0 c.in_ok-row_change.was;
    }

pub returns : goal.returns
returns c =
    let a = c.args in
    let l = c.loop-i in
    let none = rw c.in_default.is at c.next_found.ensures in
    let found = found_in_table a.schema.now.bytes _ a.t a.x (tallied_after c.requires.0 l.invariant.follows).ready c.requires.1.0 none in
    (sym (l.invariant.rest ∙ law.walk_past (schema_of a.schema.now.bytes) a.t a.x a.given a.x.rows.count l.j a.x.rows.count _ c.requires.1.0.stand.count_is found (omega arith)), l.invariant.follows)
