-- Questions about an area: answers for which nothing is written to it, and what they are refused by.
-- Assumes nothing.
use Rattle.std.specs.Prelude.{not, ◌&&◌, List, ℕ, eqb, ℤ, pos, length, Ok, Err}
use Rattle.schema.specs.Check.{SchemaAnswer, check_schema}
use Rattle.schema.specs.declared.SchemaError.TheVariants.{Malformed}
use Rattle.schema.specs.Records.{Schema}
use Rattle.schema.specs.Fields.{schema_of}
use Rattle.schema.specs.Sizes.{area_size}
use Rattle.rules.specs.declared.Refusal.TheVariants.{SchemaMalformed, WrongLength, Damaged}
use Rattle.rules.specs.declared.Numbered.{Numbered}
use Rattle.rules.specs.Lists.{𝟘}
use Rattle.rules.specs.Refusals.{Verdict, failing, number}
use Rattle.rules.specs.State.{undamaged}
use Rattle.rules.specs.Area.{view, legible}

-- refusal 1 comes before the other checks
unfoldable pub schema_verdict : SchemaAnswer → Verdict → Verdict
schema_verdict (Ok tt) v = v
schema_verdict (Err Malformed) v = Err SchemaMalformed

-- 1, 3 and 10, in this order, then the checks that the question has besides
unfoldable pub area_verdict : List ℕ → List ℤ → Verdict → Verdict
area_verdict bs ws v =
    let s : Schema = schema_of bs in
    schema_verdict (check_schema bs)
    (failing (not (eqb (length ws) (area_size s))) WrongLength
    (failing (not (legible s ws && undamaged s (view s ws))) Damaged v))

-- the answer where it is one number: code 0 and the number; "refused .. with the code and 0, as the answers of later jobs are"
unfoldable pub number_answer : Verdict → ℕ → Numbered
number_answer (Ok tt) n = record { code = 𝟘; number = pos n }
number_answer (Err r) n = record { code = pos (number r); number = 𝟘 }
