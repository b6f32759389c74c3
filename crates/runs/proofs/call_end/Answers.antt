use mathlib.Core.Path.{sym, ap}
use Prim.Native.Nat.{◌+◌, ◌-◌}
use native.Mathlib.Omega.{arith}
use borrow.Author.Rules.{rules}
use Rattle.runs.proofs.RunLaws.{least_first, least_second}
use Rattle.runs.proofs.call_end.Goals as goal

pub returns-then-words-from-ge12 : goal.returns-then-words-from-ge12
returns-then-words-from-ge12 c = let a = c.args in ap (λ n. a.from + n) (sym (least_first 12 (a.words - a.from) (search rules)))

pub returns : goal.returns
returns c =
    let a = c.args in
    let short = least_second 12 (a.words - a.from) (search rules) in
    omega (arith, short, c.requires)
