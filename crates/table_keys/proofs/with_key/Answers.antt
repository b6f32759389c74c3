use mathlib.Core.Path.{sym, ◌∙◌}
use native.Mathlib.Omega.{arith}
use Rattle.schema.proofs.SchemaLaws.{accepted_valid}
use Rattle.table_keys.proofs.TouchLaws.{with_broken, with_whole}
use Rattle.table_keys.proofs.with_key.Goals as goal

pub marked-requires : goal.marked-requires
marked-requires c =
    (omega (arith, (accepted_valid _ c.args.schema.now.accepted).few, c.requires.0), c.requires.1.1.1)

pub returns-then-is_broken : goal.returns-then-is_broken
returns-then-is_broken c =
    with_broken c.args.keys c.args.k _ (sym c.is_broken.ensures ∙ c.if-is_broken.true) c.marked.ensures

pub marked-requires-2 : goal.marked-requires-2
marked-requires-2 c =
    (omega (arith, (accepted_valid _ c.args.schema.now.accepted).few, c.requires.0), c.requires.1.0)

pub marked-requires-3 : goal.marked-requires-3
marked-requires-3 c =
    (omega (arith, (accepted_valid _ c.args.schema.now.accepted).few, c.requires.0), c.requires.1.1.0)

pub returns : goal.returns
returns c =
    let w = c.windows.ensures in
    with_whole c.args.keys c.args.k _ (sym c.is_broken.ensures ∙ c.if-is_broken.false) w.0 w.1 c.marked-2.ensures c.marked-3.ensures
