use mathlib.Core.Path.{◌≡◌, ap, ◌∙◌}
use Prim.Native.Nat.{ℕ, ◌≤◌, ◌<◌}
use native.Mathlib.Omega.{arith}
use borrow.Author.Tests.{ne_eqb}
use Rattle.std.specs.Prelude.{Result, Ok, Err, MatchResult}
use Rattle.std.specs.Result.{result_unwrap_or}
use Rattle.schema.specs.declared.Match.{Match}
use Rattle.schema.specs.declared.Match.TheVariants.{Simple}
use Rattle.schema.specs.declared.UnknownCode.{UnknownCode}
use Rattle.schema.specs.Fields.{match_from}
use Rattle.schema.proofs.FieldLaws.{read_match}
use Rattle.fields.proofs.Schema.key_match.Goals as goal

-- SIMPLE for a code of none is what the definition says
match_or : (code : ℕ) (r : Result Match UnknownCode) → MatchResult r (λ m. (code ≤ 1) × (m ≡ match_from code)) (λ e. (e.0 ≡ code) × (1 < code)) → result_unwrap_or r Simple ≡ match_from code
unfolding match_from
match_or code (Ok m) h = h.1
match_or code (Err e) h = simp (ne_eqb code 1 (λ q. omega arith))

pub returns : goal.returns
returns c =
    let code = c.key_byte.result in
    read_match c.args.self.now.bytes c.args.self.now.accepted c.args.k c.requires (c.unwrap_or.ensures ∙ match_or code c.try_from.result c.try_from.ensures ∙ ap match_from c.key_byte.ensures.0)
