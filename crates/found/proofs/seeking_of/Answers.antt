use mir.Syntax.{w64}
use mir.Val.{SFits}
use mir.ValLaws.{to_z-of_z}
use borrow.Author.Rules.{rules}
use Rattle.found.specs.Sought.{value_key}
use mathlib.Core.Path.{ap, ◌∙◌}
use native.Mathlib.Omega.{arith}
use Rattle.rows.proofs.TableLaws.{columns_few}
use Rattle.found.proofs.SoughtLaws.{seeking_null, seeking_key}
use Rattle.found.proofs.seeking_of.Goals as goal

pub value_key-requires : goal.value_key-requires
value_key-requires c =
    omega (arith, c.requires.1, columns_few c.args.schema.now.bytes c.args.schema.now.accepted c.args.t c.requires.0)

pub returns-in-None : goal.returns-in-None
returns-in-None c = seeking_null c.args.schema.now.bytes c.args.t c.args.sought c.requires.0 c.requires.1 c.rows_of.ensures c.in-None.is

pub returns-in-Some : goal.returns-in-Some
returns-in-Some c =
    let v : SFits w64 c.in-Some.v = search rules in
    let key = c.value_key.ensures ∙ ap (value_key c.folded-mask.result c.args.sought.column) (to_z-of_z w64 _ v) in
    seeking_key c.args.schema.now.bytes c.args.t c.args.sought c.requires.0 c.requires.1 c.rows_of.ensures c.in-Some.is c.folded-mask.ensures.0 key
