-- Areas that calls lead to.
-- Assumes nothing.
use Rattle.std.specs.Prelude.{◌≡◌, List, ℕ, ℤ}
use Rattle.schema.specs.Check.{Accepted, check_schema}
use Rattle.schema.specs.Fields.{schema_of}
use Rattle.rules.specs.Area.{fresh_words}
use Rattle.rules.specs.Strike.{end_of}

-- under accepted schema bytes, from a fresh area
pub record Reached (bs : List ℕ) (ws : List ℤ) : Type 0 where
  pub accepted : check_schema bs ≡ Accepted
  pub calls : List (List ℤ)
  pub is : ws ≡ end_of bs (fresh_words (schema_of bs)) calls
