use mathlib.Core.Path.{◌≡◌, refl, sym, ap, ap₂, ◌∙◌}
use mathlib.Core.Bool.{not}
use native.Mathlib.Omega.{arith}
use borrow.Author.Tests.{le-ltb}
use Rattle.schema.specs.Bytes.{bit}
use Rattle.schema.specs.Fields
use Rattle.schema.proofs.SchemaLaws.{keys_are, accepted_formed}
use Rattle.schema.proofs.Formed.{formed}
use Rattle.schema.proofs.KeyLaws.{end_none, end_missing, end_by_mask}
use Rattle.schema.proofs.FieldLaws.{read_windows, read_columns}
use Rattle.fields.proofs.Schema.has_end.Goals as goal
use Rattle.fields.proofs.Schema.has_end.Goals.{After-columns, After-windows, Else-windows-eq0}

-- the byte that was read is the window's
window_here : (c : After-windows) → c.windows.result ≡ Fields.windowed_of c.args.self.now.bytes c.args.k
window_here c = c.windows.ensures.0 ∙ sym (read_windows _ c.args.self.now.accepted _ c.requires.0 refl).0

some_here : (c : Else-windows-eq0) → Fields.windowed_of c.args.self.now.bytes c.args.k ≡ 0 → ⊥
some_here c e = c.if-windows-eq0.false (c.windows.ensures.0 ∙ sym (read_windows _ c.args.self.now.accepted _ c.requires.0 refl).0 ∙ e)

-- the columns are those of the parent table
columns_here : (c : After-columns) → c.columns.result ≡ Fields.columns_of c.args.self.now.bytes (Fields.parent_of c.args.self.now.bytes c.args.k)
columns_here c =
    c.columns.ensures.0 ∙ sym (read_columns _ c.args.self.now.accepted _ c.requires.1.0.0 refl).0 ∙ ap (Fields.columns_of c.args.self.now.bytes) c.requires.1.0.1

pub returns-then-windows-eq0 : goal.returns-then-windows-eq0
returns-then-windows-eq0 c =
    end_none _ (formed _ (accepted_formed _ c.args.self.now.accepted)) _ (sym (window_here (goal.at.returns-then-windows-eq0 c).After-windows) ∙ c.if-windows-eq0.true)

pub returns-then-end-columns : goal.returns-then-end-columns
returns-then-end-columns c =
    ap not (c.bit_of.ensures ∙ ap₂ bit c.end_column-end.ensures c.requires.1.1.1)
    ∙ end_by_mask _ (formed _ (accepted_formed _ c.args.self.now.accepted)) _ (some_here (goal.at.returns-then-end-columns c).Else-windows-eq0) (omega (arith, c.requires.0, keys_are c.args.self.now.bytes)) (omega (arith, c.if-end-columns.true, columns_here (goal.at.returns-then-end-columns c).After-columns, c.end_column-end.ensures))

pub returns-else-end-columns : goal.returns-else-end-columns
returns-else-end-columns c =
    le-ltb _ _ c.if-end-columns.false
    ∙ end_missing _ (formed _ (accepted_formed _ c.args.self.now.accepted)) _ (some_here (goal.at.returns-else-end-columns c).Else-windows-eq0) (omega (arith, c.if-end-columns.false, columns_here (goal.at.returns-else-end-columns c).After-columns, c.end_column-end.ensures))
