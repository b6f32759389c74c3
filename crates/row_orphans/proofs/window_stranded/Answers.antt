use mathlib.Core.Path.{sym, ◌∙◌}
use native.Mathlib.Omega.{arith}
use Rattle.schema.specs.Records.{key_of}
use Rattle.schema.specs.Fields.{schema_of}
use Rattle.schema.proofs.FieldLaws.{same_width}
use Rattle.bridge.specs.Fit.{work_of}
use Rattle.windows.proofs.KeyDays.{window_in, changes_fires}
use Rattle.row_orphans.proofs.KeyLaws.{none_fires}
use Rattle.row_orphans.proofs.window_stranded.Goals as goal

pub key_changes-requires : goal.key_changes-requires
key_changes-requires c = window_in _ _ _ c.window_key-key.ensures

pub returns-then-not-key_changes : goal.returns-then-not-key_changes
returns-then-not-key_changes c =
    let a = c.args in
    let k = key_of (schema_of a.schema.now.bytes) a.k in
    let tabs = (work_of (schema_of a.schema.now.bytes) a.area.now).tabs in
    let same = same_width a.schema.now.bytes c.requires.0.ready.accepted a.k c.requires.1.0.whole_key.key in
    let still = sym (changes_fires _ _ _ c.window_key-key.ensures c.requires.1.1 a.turn.now.old a.turn.now.new) ∙ sym c.key_changes.ensures ∙ c.if-not-key_changes.true in
    (none_fires k same a.turn.now.t a.turn.now.r a.turn.now.old a.turn.now.new tabs still, omega arith)

pub left_rows-requires : goal.left_rows-requires
left_rows-requires c =
    let a = c.args in
    let on = sym (changes_fires _ _ _ c.window_key-key.ensures c.requires.1.1 a.turn.now.old a.turn.now.new) ∙ sym c.key_changes.ensures ∙ c.if-not-key_changes.false in
    ((c.requires.0, c.window_key-key.ensures), (c.requires.1.1, on))
