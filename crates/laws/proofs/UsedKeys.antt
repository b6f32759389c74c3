-- A call that is accepted used no broken key.
-- Assumes nothing.
use mathlib.Core.Path.{◌≡◌}
use mathlib.Core.Bool.{false}
use mathlib.Core.List.{List}
use lib.IntN.{ℤ}
use Rattle.schema.specs.Records.{Schema}
use Rattle.rules.specs.Book.{Work, Book}
use Rattle.rules.specs.Calls.{parse}
use Rattle.rules.specs.Statement.{Turn}
use Rattle.rules.specs.Step.{step}
use Rattle.laws.specs.UsedKeys.{Unbroken, done, next, WroteUnbroken, refused, wrote, rolls_back}
use Rattle.laws.proofs.Writes
use Rattle.laws.proofs.Writes.{Admitted, Wrote, admits_unbroken, call_wrote}

module _ (s : Schema) where
  -- row changes that are let pass use none
  let_pass : {w v : Work} → Admitted s w v → Unbroken s w v
  let_pass Writes.done = done
  let_pass (Writes.next {w} t r new e p) = next t r new (admits_unbroken s t r new w e) (let_pass p)

  turn_unbroken : {b : Book} {x : Turn} → Wrote s b x → WroteUnbroken s b x
  turn_unbroken Writes.refused = refused
  turn_unbroken (Writes.wrote p e) = wrote (let_pass p) e

  -- a call that is accepted and rolls nothing back made row changes that use no broken key, or none
  pub accepted_unbroken : (b : Book) (c : List ℤ) → rolls_back (parse c) ≡ false → WroteUnbroken s b (step s c b)
  accepted_unbroken b c h = turn_unbroken (call_wrote s b c h)
