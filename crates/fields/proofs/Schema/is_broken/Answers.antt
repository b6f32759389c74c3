use mathlib.Core.Path.{◌≡◌, refl, sym, ap, ◌∙◌}
use mathlib.Core.Bool.{Bool, not, ◌&&◌}
use Prim.Native.Nat.{ℕ, ◌<◌}
use native.Mathlib.Omega.{arith}
use lib.Count.{ones}
use lib.Dec.{eqb}
use Rattle.schema.specs.Ranges.{any_from}
use Rattle.schema.specs.Fields
use Rattle.schema.proofs.SchemaLaws.{tables_are}
use Rattle.schema.proofs.FieldLaws.{read_parent, broken_table, broken_wide, broken_mask, parent_ones}
use Rattle.fields.proofs.Schema.is_broken.Goals as goal
use Rattle.fields.proofs.Schema.is_broken.Goals.{After-has_unique, After-parent-t, Else-tables-t, then-has_unique, else-has_unique}

parent_here : (c : After-parent-t) → c.parent-t.result ≡ Fields.parent_of c.args.self.now.bytes c.args.k
parent_here c = c.parent-t.ensures ∙ sym (read_parent _ c.args.self.now.accepted _ c.requires refl)

-- the parent table is there
there_here : (c : Else-tables-t) → Fields.parent_of c.args.self.now.bytes c.args.k < Fields.table_count c.args.self.now.bytes
there_here c = omega (arith, c.if-tables-t.false, c.table_count-tables.ensures.0, tables_are c.args.self.now.bytes, c.parent-t.ensures ∙ sym (read_parent _ c.args.self.now.accepted _ c.requires refl))

-- its unique keys were compared with the mask
unique_here : (c : After-has_unique) → c.has_unique.result ≡ any_from (λ i. eqb (Fields.unique_of c.args.self.now.bytes (Fields.parent_of c.args.self.now.bytes c.args.k) i) c.in-Some.m) 4 0
unique_here c =
    c.has_unique.ensures ∙ ap (λ (t : ℕ). any_from (λ i. eqb (Fields.unique_of c.args.self.now.bytes t i) c.in-Some.m) 4 0) (c.parent-t.ensures ∙ sym (read_parent _ c.args.self.now.accepted _ c.requires refl))

pub returns-then-tables-t : goal.returns-then-tables-t
returns-then-tables-t c =
    broken_table _ c.args.self.now.accepted _ c.requires (omega (arith, c.if-tables-t.true, c.table_count-tables.ensures.0, tables_are c.args.self.now.bytes, parent_here (goal.at.returns-then-tables-t c).After-parent-t))

pub returns-in-None : goal.returns-in-None
returns-in-None c = broken_wide _ c.args.self.now.accepted _ c.requires (there_here (goal.at.returns-in-None c).Else-tables-t) c.in-None.ensures

pub has_unique-requires : goal.has_unique-requires
has_unique-requires c =
    (omega (arith, c.if-tables-t.false, c.table_count-tables.ensures.0), ap ones c.in-Some.ensures ∙ parent_ones _ c.args.self.now.accepted _ c.requires ∙ sym c.width-n.ensures.0)

pub has_end-requires : goal.has_end-requires
has_end-requires c =
    (c.requires, ((omega (arith, c.if-tables-t.false, c.table_count-tables.ensures.0), parent_here (goal.at.has_end-requires c).After-parent-t), (c.width-n.ensures.0, c.in-Some.ensures)))

pub returns-after-has_unique : goal.returns-after-has_unique
returns-after-has_unique c =
    let at = goal.at.returns-after-has_unique c in
    let judged = unique_here at.After-has_unique in
    let by_mask = broken_mask _ c.args.self.now.accepted _ c.requires (there_here at.Else-tables-t) c.in-Some.ensures in
    elim c.if-has_unique.branch [
      | then-has_unique w ↦ ap not (w.result-is ∙ w.has_end.ensures) ∙ ap (λ (a : Bool). not (a && Fields.has_end c.args.self.now.bytes c.args.k)) (sym w.if-has_unique.true ∙ judged) ∙ by_mask
      | else-has_unique w ↦ ap not (w.result-is ∙ w.if-has_unique.false) ∙ ap (λ (a : Bool). not (a && Fields.has_end c.args.self.now.bytes c.args.k)) (sym w.if-has_unique.false ∙ judged) ∙ by_mask
    ]
