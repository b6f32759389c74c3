-- The claim of `engine::call`.
-- Assumes nothing.
use Rattle.std.specs.Prelude.{◌≡◌, true, List, ℕ, ℤ}
use Rattle.schema.specs.Fields.{schema_of}
use Rattle.rules.specs.Refusals.{Answer, accepted}
use Rattle.rules.specs.Engine.{call_on}
use Rattle.families.specs.EitherOrder.{Rollback, SameButRecords}

-- call c was sent to it in an area: its answer and the area at its exit are what it promises
pub record Sent (bs : List ℕ) (c area : List ℤ) : Type 0 where
  pub answer : Answer
  pub exit : List ℤ
  pub promised : (answer, exit) ≡ call_on bs c area

-- c and then d were sent; and, in the same area, d and then c
pub record CallsExchanged (bs : List ℕ) (area c d : List ℤ) (c₁ : Sent bs c area) (d₂ : Sent bs d c₁.exit) (d₁ : Sent bs d area) (c₂ : Sent bs c d₁.exit) : Type 0 where
  pub answer_c : c₂.answer ≡ c₁.answer
  pub answer_d : d₁.answer ≡ d₂.answer
  pub areas : SameButRecords (schema_of bs) c₂.exit d₂.exit
  pub rolled_back : (r : List ℤ) → Rollback r → (x : Sent bs r d₂.exit) (y : Sent bs r c₂.exit) → accepted x.answer ≡ true → (y.answer ≡ x.answer) × (y.exit ≡ x.exit)
