use mathlib.Core.Path.{◌≡◌, refl, sym, ◌∙◌}
use mathlib.Core.Bool.{true}
use native.Mathlib.Omega.{arith}
use borrow.Author.Tests.{leb-true}
use lib.Dec.{leb}
use lib.ListN.{length}
use Rattle.schema.proofs.CheckLaws.{starts_is, header_short, header_is}
use Rattle.schema_tables.proofs.header_rules.Goals as goal
use Rattle.schema_tables.proofs.header_rules.Goals.{then-s-ge16, else-s-ge16}

pub returns-then-starts_with : goal.returns-then-starts_with
returns-then-starts_with c =
    elim c.if-s-ge16.branch [
      | then-s-ge16 w ↦ header_is _ w.if-s-ge16.true (sym c.if-starts_with.true ∙ w.value-is ∙ w.starts_with.ensures.value ∙ starts_is _ _) c.header_rest.ensures
      | else-s-ge16 w ↦ let h : leb 16 (length c.args.s.now) ≡ true = sym w.value-is ∙ c.if-starts_with.true in absurd (omega (arith, leb-true 16 (length c.args.s.now) h))
    ]

pub returns-else-starts_with : goal.returns-else-starts_with
returns-else-starts_with c =
    elim c.if-s-ge16.branch [
      | then-s-ge16 w ↦ c.if-starts_with.false ∙ header_is _ w.if-s-ge16.true (sym c.if-starts_with.false ∙ w.value-is ∙ w.starts_with.ensures.value ∙ starts_is _ _) refl
      | else-s-ge16 w ↦ c.if-starts_with.false ∙ header_short _ w.if-s-ge16.false
    ]
