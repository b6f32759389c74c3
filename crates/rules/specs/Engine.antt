-- What the engine's public operations answer and write, for any schema bytes, any area and any call.
-- Assumes nothing.
use Rattle.std.specs.Prelude.{List, ℕ, eqb, ℤ, length, Err, Ok}
use Rattle.schema.specs.Check.{SchemaAnswer, check_schema}
use Rattle.schema.specs.declared.SchemaError.TheVariants.{Malformed}
use Rattle.schema.specs.Fields.{schema_of}
use Rattle.schema.specs.Sizes.{area_size}
use Rattle.rules.specs.declared.Refusal.TheVariants.{SchemaMalformed, WrongLength}
use Rattle.rules.specs.Refusals.{did}
use Rattle.rules.specs.Lists.{𝟘}
use Rattle.rules.specs.Step.{Logged, run_all}
use Rattle.rules.specs.Area.{AreaTurn, ensure, area_step, fresh_words}

-- refusal 1 comes before all others
unfoldable pub under_schema : SchemaAnswer → (List ℤ → AreaTurn) → List ℤ → AreaTurn
under_schema (Ok tt) k ws = k ws
under_schema (Err Malformed) k ws = (Err SchemaMalformed, ws)

-- make fresh: "refused only by 1 .. and 3"; "refusal 2 is given no more"
unfoldable pub make_fresh : List ℕ → List ℤ → AreaTurn
make_fresh bs = under_schema (check_schema bs) (λ ws. ensure (eqb (length ws) (area_size (schema_of bs))) WrongLength (λ ws. (did 0 𝟘, fresh_words (schema_of bs))) ws)

-- a call
unfoldable pub call_on : List ℕ → List ℤ → List ℤ → AreaTurn
call_on bs c = under_schema (check_schema bs) (area_step (schema_of bs) c)

-- a list of calls
abbrev pub run_on : List ℕ → List (List ℤ) → List ℤ → List Logged × List ℤ
run_on bs = run_all (call_on bs)
