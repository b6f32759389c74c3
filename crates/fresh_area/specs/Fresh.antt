-- The length of an area, and making it fresh.
-- Assumes nothing.
use Rattle.std.specs.Prelude.{List, ℕ, eqb, ℤ, length, Ok, Err}
use Rattle.schema.specs.Records.{Schema}
use Rattle.schema.specs.Sizes.{area_size}
use Rattle.schema.specs.Fields.{schema_of}
use Rattle.schema.specs.Check.{check_schema, SchemaAnswer, Accepted}
use Rattle.schema.specs.declared.SchemaError.TheVariants.{Malformed}
use Rattle.rules.specs.Refusals.{did}
use Rattle.rules.specs.declared.Refusal.TheVariants.{WrongLength}
use Rattle.rules.specs.Lists.{𝟘}
use Rattle.rules.specs.Area.{AreaTurn, ensure, fresh_words}

-- make fresh, under an accepted schema
unfoldable pub fresh_area : Schema → List ℤ → AreaTurn
fresh_area s ws = ensure (eqb (length ws) (area_size s)) WrongLength (λ ws. (did 0 𝟘, fresh_words s)) ws

-- the length of an area for a schema; 0 where the schema is refused
unfoldable pub words_under : SchemaAnswer → Schema → ℕ
words_under (Ok tt) s = area_size s
words_under (Err Malformed) s = 0

unfoldable pub area_words : List ℕ → ℕ
area_words bs = words_under (check_schema bs) (schema_of bs)
