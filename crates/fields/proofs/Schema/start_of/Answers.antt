use Rattle.schema.specs.Records.{table_of}
use mathlib.Core.Path.{◌≡◌, ap, ap₂, ◌∙◌}
use Prim.Native.Nat.{◌+◌}
use native.Mathlib.Omega.{arith}
use borrow.Author.Rules.{rules}
use Rattle.schema.specs.Fields.{schema_of}
use Rattle.schema.specs.Sizes.{table_size, table_offset}
use Rattle.schema.proofs.SchemaLaws.{tables_are}
use Rattle.schema.proofs.FieldLaws.{count_tables}
use Rattle.schema.proofs.SizeLaws.{offset_start, offset_more}
use Rattle.fields.proofs.Schema.start_of.Goals as goal

pub loop-i-init : goal.loop-i-init
loop-i-init c = (offset_start _, search rules)

pub table_words-at-requires : goal.table_words-at-requires
table_words-at-requires c = omega arith

pub overflow_add-at : goal.overflow_add-at
overflow_add-at c = omega (arith, (count_tables c.args.self.now.bytes c.args.self.now.accepted (tables_are c.args.self.now.bytes)).1.high)

pub loop-i-preserved : goal.loop-i-preserved
loop-i-preserved c =
    let s = schema_of c.args.self.now.bytes in
    let l = c.loop-i in
    let e : l.at + c.table_words-at.result ≡ table_offset s l.i + table_size (table_of s l.i) = ap₂ ◌+◌ l.invariant.0 c.table_words-at.ensures.0 in
    (e ∙ offset_more s l.i (omega arith), search rules)

pub returns : goal.returns
returns c =
    let e : c.loop-i.i ≡ c.args.t = omega arith in
    (c.loop-i.invariant.0 ∙ ap (table_offset (schema_of c.args.self.now.bytes)) e, search rules)
