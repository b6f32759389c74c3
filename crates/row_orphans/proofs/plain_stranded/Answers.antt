use mathlib.Core.Path.{sym, ◌∙◌}
use native.Mathlib.Omega.{arith}
use Rattle.schema.specs.Records.{key_of}
use Rattle.schema.specs.Fields.{schema_of}
use Rattle.schema.proofs.FieldLaws.{same_width}
use Rattle.bridge.specs.Fit.{work_of}
use Rattle.row_orphans.proofs.KeyLaws.{none_fires, none_taken, fires_full, twin_serves, all_stranded}
use Rattle.row_orphans.proofs.plain_stranded.Goals as goal

pub returns-then-not-fires : goal.returns-then-not-fires
returns-then-not-fires c =
    let a = c.args in
    let k = key_of (schema_of a.schema.now.bytes) a.k in
    let tabs = (work_of (schema_of a.schema.now.bytes) a.area.now).tabs in
    let same = same_width a.schema.now.bytes c.requires.0.ready.accepted a.k c.requires.1.plain_key.whole_key.key in
    (none_fires k same a.turn.now.t a.turn.now.r a.turn.now.old a.turn.now.new tabs (sym c.fires.ensures ∙ c.if-not-fires.true), omega arith)

pub taken_rows-m-requires : goal.taken_rows-m-requires
taken_rows-m-requires c =
    let a = c.args in
    let on = sym c.fires.ensures ∙ c.if-not-fires.false in
    let pairs = c.key_pairs-pairs.ensures in
    ((c.requires.0, (pairs, c.requires.1.plain_key)), fires_full _ c.requires.1.plain_key.plain a.turn.now.t a.turn.now.old a.turn.now.new pairs.columns.parents.parent_is on)

pub returns-then-m-eq0 : goal.returns-then-m-eq0
returns-then-m-eq0 c =
    let a = c.args in
    let k = key_of (schema_of a.schema.now.bytes) a.k in
    let tabs = (work_of (schema_of a.schema.now.bytes) a.area.now).tabs in
    let same = same_width a.schema.now.bytes c.requires.0.ready.accepted a.k c.requires.1.plain_key.whole_key.key in
    (none_taken k same a.turn.now.t a.turn.now.r a.turn.now.old a.turn.now.new tabs c.requires.1.plain_key.plain (sym c.taken_rows-m.ensures.0 ∙ c.if-m-eq0.true), omega arith)

pub has_twin-requires : goal.has_twin-requires
has_twin-requires c =
    let a = c.args in
    let on = sym c.fires.ensures ∙ c.if-not-fires.false in
    let pairs = c.key_pairs-pairs.ensures in
    ((c.requires.0, (pairs, c.requires.1.plain_key)), (c.requires.1.parent_is, fires_full _ c.requires.1.plain_key.plain a.turn.now.t a.turn.now.old a.turn.now.new pairs.columns.parents.parent_is on))

pub returns-then-has_twin : goal.returns-then-has_twin
returns-then-has_twin c =
    let a = c.args in
    let k = key_of (schema_of a.schema.now.bytes) a.k in
    let tabs = (work_of (schema_of a.schema.now.bytes) a.area.now).tabs in
    let same = same_width a.schema.now.bytes c.requires.0.ready.accepted a.k c.requires.1.plain_key.whole_key.key in
    (twin_serves k same a.turn.now.t a.turn.now.r a.turn.now.old a.turn.now.new tabs c.requires.1.plain_key.plain (sym c.has_twin.ensures ∙ c.if-has_twin.true), omega arith)

pub returns : goal.returns
returns c =
    let a = c.args in
    let k = key_of (schema_of a.schema.now.bytes) a.k in
    let tabs = (work_of (schema_of a.schema.now.bytes) a.area.now).tabs in
    let same = same_width a.schema.now.bytes c.requires.0.ready.accepted a.k c.requires.1.plain_key.whole_key.key in
    let on = sym c.fires.ensures ∙ c.if-not-fires.false in
    let m = c.taken_rows-m.ensures in
    (m.0 ∙ all_stranded k same a.turn.now.t a.turn.now.r a.turn.now.old a.turn.now.new tabs c.requires.1.plain_key.plain on (sym c.has_twin.ensures ∙ c.if-has_twin.false), m.1)
