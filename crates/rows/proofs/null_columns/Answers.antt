use mathlib.Core.Path.{◌≡◌, ◌∙◌}
use Prim.Native.Nat.{ℕ, ◌<◌}
use Rattle.std.proofs.Common.{rules}
use Rattle.std.specs.List.{count_by}
use Rattle.std.proofs.iter.runs.Made.{chains}
use Rattle.std.proofs.lemmas.Iterator.{YieldsList-from_slice}
use Rattle.std.proofs.lemmas.Iterator.Adapters.{serves_from_places}
use Rattle.schema.specs.Bytes.{bit}
use Rattle.rows.proofs.ChainLaws.{count_list, item_fits}
use Rattle.rows.proofs.null_columns.Goals as goal

pub count-requires-clause-can : goal.count-requires-clause-can
count-requires-clause-can c = (
  tt,
  tt,
  serves_from_places (YieldsList-from_slice c.args.cs.now cc) (λ x q k. search rules)
      (λ x k l e. let h : x.now < 64 = item_fits _ _ _ _ c.requires l e in search rules),
)

pub returns : goal.returns
returns c =
    let e : c.count.result ≡ count_by (λ (i : ℕ). bit i c.args.state) c.args.cs.now = search (rules, chains) in
    e ∙ count_list _ c.args.cs.now
