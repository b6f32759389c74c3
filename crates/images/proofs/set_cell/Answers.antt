use mathlib.Core.Path.{◌≡◌, ap, ◌∙◌}
use Prim.Native.Nat.{ℕ, ◌+◌, ◌%◌}
use lib.IntN.{pos}
use Rattle.std.proofs.Common.{rules}
use Rattle.std.specs.Option.{is_none}
use Rattle.words.proofs.Signed.{back}
use Rattle.rules.specs.Values.{nat_of}
use Rattle.rules.specs.Change.{flag}
use Rattle.images.proofs.ImageLaws.{cell_option}
use Rattle.images.proofs.set_cell.Goals as goal

pub returns : goal.returns
returns c =
    let a = c.args in
    let mask = c.nat_of-mask.ensures ∙ ap nat_of (back _ c.nat_of-arg-1.given) in
    let state = back _ c.word_of.type_inv
    ∙ c.word_of.ensures
    ∙ ap (λ (n : ℕ). pos (256 + n)) (c.flag.ensures.0 ∙ ap (λ (n : ℕ). flag a.c c.is_none.result (n % 256)) mask) in
    let null : c.is_none.result ≡ is_none a.value = search rules in
    cell_option a.c a.value a.image null state (back _ c.unwrap_or.type_inv ∙ c.unwrap_or.ensures)
