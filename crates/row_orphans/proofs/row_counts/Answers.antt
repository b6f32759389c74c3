use mathlib.Core.Path.{◌≡◌, ap, ◌∙◌}
use mathlib.Core.List.{List}
use Prim.Native.Nat.{◌<◌}
use native.Mathlib.Nat.{zero-add}
use native.Mathlib.Omega.{arith}
use lib.IntN.{ℤ, pos}
use lib.ListN.{length, get_or, replicate}
use mir.Syntax.{w64}
use mir.Val.{to_z, of_z}
use Rattle.schema.specs.Fields.{schema_of}
use Rattle.schema.specs.Records.{Schema, key_of}
use Rattle.rules.specs.Rows.{Tables}
use Rattle.bridge.specs.Fit.{work_of}
use Rattle.words.proofs.Signed.{back}
use Rattle.words.proofs.Splice.{sets_more}
use Rattle.row_orphans.specs.RowOrphans.{row_orphans}
use Rattle.row_orphans.proofs.CountLaws.{row_list, row_length, row_at_lem, row_filled}
use Rattle.row_orphans.proofs.row_counts.Goals as goal

pub key_orphans-c-requires : goal.key_orphans-c-requires
key_orphans-c-requires c = (c.requires.0, (c.requires.1, omega (arith, c.key_count-k-end.ensures.0)))

pub loop-k-preserved : goal.loop-k-preserved
loop-k-preserved c =
    let a = c.args in
    let s : Schema = schema_of a.schema.now.bytes in
    let tabs : Tables = (work_of s a.area.now).tabs in
    let list : List ℤ = row_list s a.t a.r a.x a.y tabs in
    let l = c.loop-k in
    let lt : l.k < length s.keys = omega (arith, c.key_count-k-end.ensures.0) in
    let e : to_z w64 (of_z w64 c.word_of.result) ≡ get_or list l.k (pos 0)
    = back _ c.word_of.type_inv
    ∙ c.word_of.ensures
    ∙ ap pos {y = row_orphans (key_of s l.k) a.t a.r a.x a.y tabs} c.key_orphans-c.ensures.0
    ∙ row_at_lem s a.t a.r a.x a.y tabs l.k lt in
    let more = sets_more (replicate 32 (pos 0)) list 0 l.k (pos 0) (omega (arith, row_length s a.t a.r a.x a.y tabs)) l.invariant in
    rw e (rw (zero-add l.k) at more)

pub returns : goal.returns
returns c =
    let a = c.args in
    let s : Schema = schema_of a.schema.now.bytes in
    let n = c.key_count-k-end.ensures in
    let l = c.loop-k in
    l.invariant ∙ row_filled s a.t a.r a.x a.y (work_of s a.area.now).tabs (omega (arith, n)) l.k (omega (arith, n.0, c.loop-k-test.false))
