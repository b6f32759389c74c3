use mathlib.Core.Path.{◌∙◌}
use Prim.Native.Nat.{ℕ, ◌<◌}
use Rattle.std.proofs.Common.{rules, tests}
use Rattle.std.proofs.lemmas.Iterator.{YieldsList-from_slice}
use Rattle.std.proofs.lemmas.Iterator.Adapters.{serves_from_places}
use Rattle.std.proofs.lemmas.Iterator.Search.{any_from_yields_List}
use Rattle.schema.specs.Bytes.{bit}
use Rattle.rows.proofs.ChainLaws.{any_list, item_fits}
use Rattle.rows.proofs.some_null.Goals as goal

pub any-requires-clause-callable : goal.any-requires-clause-callable
any-requires-clause-callable c =
    serves_from_places (YieldsList-from_slice c.args.cs.now cc) (λ x q k. search rules)
    (λ x k l e. let h : x.now < 64 = item_fits _ _ _ _ c.requires l e in search rules)

pub returns : goal.returns
returns c =
    any_from_yields_List (λ (i : ℕ). bit i c.args.state) _ _ c.any.result c.any.ensures.ran (YieldsList-from_slice c.args.cs.now cc) (λ x b q k. search (rules, tests))
    ∙ any_list _ c.args.cs.now
