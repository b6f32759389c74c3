-- What the program's own refusals come to: 3 where the schema needs more words than there are, 4 for a call that is cut short.
-- Assumes nothing.
use mathlib.Core.Path.{◌≡◌, refl}
use mathlib.Core.List.{List, []}
use Prim.Native.Nat.{ℕ, ◌<◌, min}
use native.Mathlib.Omega.{arith}
use borrow.Author.Tests.{eq-eqb, ne_eqb}
use lib.IntN.{ℤ}
use lib.ListN.{length}
use Rattle.schema.specs.Check.{Accepted, check_schema}
use Rattle.schema.specs.Fields.{schema_of}
use Rattle.schema.specs.Sizes.{area_size}
use Rattle.rules.specs.declared.Refusal.TheVariants.{WrongLength, BadCall}
use Rattle.std.specs.Prelude.{Err}
use Rattle.rules.specs.Calls.{formed_if, parse, allowed}
use Rattle.rules.specs.Area.{ensure, area_step}
use Rattle.rules.specs.Engine.{under_schema, make_fresh, call_on}
use Rattle.fresh_area.specs.Fresh.{area_words}
use Rattle.fresh_area.proofs.FreshLaws.{words_accepted}

module _ (schema : List ℕ) (accepted : check_schema schema ≡ Accepted) where
  -- "area at most 8,192 words, else 3"
  pub too_large : (room : ℕ) (words : List ℤ) → length words ≡ min (area_words schema) room → room < area_size (schema_of schema) → make_fresh schema words ≡ (Err WrongLength, words)
  unfolding make_fresh under_schema ensure
  too_large room words size more =
      let needed : area_size (schema_of schema) ≡ area_words schema = words_accepted schema accepted refl in
      let few : length words < area_size (schema_of schema) = omega (arith, size, needed, more) in
      rw (accepted, ne_eqb (length words) (area_size (schema_of schema)) (λ e. omega (arith, e, few))) refl

  -- "a short last call is 4"
  pub cut_short : (area : List ℤ) → length area ≡ area_size (schema_of schema) → call_on schema [] area ≡ (Err BadCall, area)
  unfolding call_on under_schema area_step ensure parse allowed formed_if
  cut_short area size = rw (accepted, eq-eqb (length area) (area_size (schema_of schema)) size) refl
