use mathlib.Core.Path.{sym, ◌∙◌}
use native.Mathlib.Omega.{arith}
use Rattle.schema.specs.Records.{key_of}
use Rattle.schema.specs.Fields.{schema_of}
use Rattle.schema.proofs.FieldLaws.{same_width}
use Rattle.bridge.specs.Fit.{work_of}
use Rattle.row_orphans.proofs.KeyLaws.{none_other}
use Rattle.row_orphans.proofs.stranded_rows.Goals as goal

pub returns-then-parent-turn : goal.returns-then-parent-turn
returns-then-parent-turn c =
    let a = c.args in
    let k = key_of (schema_of a.schema.now.bytes) a.k in
    let tabs = (work_of (schema_of a.schema.now.bytes) a.area.now).tabs in
    let same = same_width a.schema.now.bytes c.requires.0.ready.accepted a.k c.requires.1.whole_key.key in
    (none_other k same a.turn.now.t a.turn.now.r a.turn.now.old a.turn.now.new tabs (λ e. c.if-parent-turn.true (c.parent-parent.ensures ∙ e)), omega arith)

pub window_stranded-requires : goal.window_stranded-requires
window_stranded-requires c =
    (c.requires.0, (c.requires.1.window c.if-windowed.true, sym c.parent-parent.ensures ∙ c.if-parent-turn.false))

pub plain_stranded-requires : goal.plain_stranded-requires
plain_stranded-requires c =
    (c.requires.0, record { plain_key = c.requires.1.plain c.if-windowed.false; parent_is = sym c.parent-parent.ensures ∙ c.if-parent-turn.false })
