use mathlib.Core.Path.{◌≡◌}
use Prim.Native.Nat.{ℕ, ◌≤◌, ◌<◌}
use native.Mathlib.Omega.{arith}
use borrow.Author.Tests.{ne_eqb}
use Rattle.std.specs.Prelude.{Result, Ok, Err, MatchResult}
use Rattle.std.specs.Result.{result_unwrap_or}
use Rattle.schema.specs.declared.Action.{Action}
use Rattle.schema.specs.declared.Action.TheVariants.{NoAction}
use Rattle.schema.specs.declared.UnknownCode.{UnknownCode}
use Rattle.schema.specs.Fields.{action_from}
use Rattle.fields.proofs.action_of.Goals as goal

-- NO ACTION for a code of none is what the definition says
action_or : (code : ℕ) (r : Result Action UnknownCode) → MatchResult r (λ action. (code ≤ 4) × (action ≡ action_from code)) (λ e. (e.0 ≡ code) × (4 < code)) → result_unwrap_or r NoAction ≡ action_from code
unfolding action_from
action_or code (Ok a) h = h.1
action_or code (Err e) h = simp (ne_eqb code 4 (λ q. omega arith), ne_eqb code 3 (λ q. omega arith), ne_eqb code 2 (λ q. omega arith), ne_eqb code 1 (λ q. omega arith))

pub returns : goal.returns
returns c = cc (action_or c.args.code c.try_from.result c.try_from.ensures)
