use mathlib.Core.Path.{refl, sym, ap, ◌∙◌}
use Prim.Native.Nat.{ℕ, ◌+◌, ◌%◌}
use borrow.Author.Rules.{rules}
use lib.IntN.{pos}
use lib.ListN.{length-set, drop}
use Rattle.words.proofs.Signed.{back}
use Rattle.rules.specs.Values.{nat_of}
use Rattle.rules.specs.Rows.{live_image}
use Rattle.images.proofs.ImageLaws.{held_start, held_null, held_value, held_end}
use Rattle.images.proofs.written.Goals as goal
use Rattle.images.proofs.written.Goals.{then-bit_of, else-bit_of}

pub loop-i-init : goal.loop-i-init
loop-i-init c = (search rules, refl)

pub loop-i-preserved : goal.loop-i-preserved
loop-i-preserved c =
    let l = c.loop-i in
    let m = c.nat_of-mask.result in
    elim c.if-bit_of.branch [
      | then-bit_of w ↦ (
        rw w.x-is (simp length-set l.invariant.0),
        rw w.x-is (l.invariant.1 ∙ held_null m l.i l.x c.loop-i-test.true l.invariant.0 (sym c.bit_of.ensures ∙ w.if-bit_of.true)),
      )
      | else-bit_of w ↦ (
        rw w.x-is l.invariant.0,
        rw w.x-is (l.invariant.1 ∙ held_value m l.i l.x c.loop-i-test.true l.invariant.0 (sym c.bit_of.ensures ∙ w.if-bit_of.false)),
      )
    ]

pub returns : goal.returns
returns c =
    let l = c.loop-i in
    let a = c.args in
    let m = c.nat_of-mask.result in
    let mask = c.nat_of-mask.ensures ∙ ap nat_of (back _ c.nat_of-arg-1.given) in
    let state = back _ c.word_of.type_inv ∙ c.word_of.ensures ∙ ap (λ (p : ℕ). pos (256 + m % p)) c.power.ensures in
    sym
    (ap (λ (k : ℕ). live_image a.columns k (drop 1 a.image)) (sym mask)
    ∙ held_start a.columns m a.image (search rules) state
    ∙ l.invariant.1
    ∙ held_end m l.i l.x c.loop-i-test.false l.invariant.0)
