-- Refusal 10, part by part, on an area's words.
-- Assumes nothing.
use Rattle.std.specs.Prelude.{◌≡◌, Bool, ◌&&◌, List, [], ◌∷◌, map, reverse, ℕ, ◌+◌, ◌*◌, ℤ, length, get_or, take}
use Rattle.schema.specs.Check.{Accepted, check_schema}
use Rattle.schema.specs.Records.{ForeignKey, Schema, table_of}
use Rattle.schema.specs.Fields.{schema_of}
use Rattle.schema.specs.Sizes.{area_size}
use Rattle.rules.specs.Lists.{𝟘}
use Rattle.rules.specs.Values.{natural, in_range, same_word}
use Rattle.rules.specs.Book.{Level}
use Rattle.rules.specs.Area.{level_of, level_part}

-- the schema's bytes are accepted, and the area has the length that they ask for
pub record Sized (b : List ℕ) (a : List ℤ) : Type 0 where
  pub accepted : check_schema b ≡ Accepted
  pub size : length a ≡ area_size (schema_of b)

-- words 0 to 3 in range
unfoldable pub header_in_range : Schema → List ℤ → Bool
header_in_range s a = in_range 9 (get_or a 0 𝟘) && natural (get_or a 1 𝟘) && in_range s.room (get_or a 2 𝟘) && same_word 𝟘 (get_or a 3 𝟘)

-- the first word of part i is not below 0, where parts of `stride` words begin at `at`
unfoldable pub natural_part : List ℤ → ℕ → ℕ → ℕ → Bool
natural_part a at stride i = natural (get_or a (at + i * stride) 𝟘)

-- the most orphans that the first of these foreign keys can have: its child's R, 0 past F
unfoldable pub kept_limit : Schema → List ForeignKey → ℕ
kept_limit s [] = 0
kept_limit s (k ∷ ks) = (table_of s k.child).rows

-- the lowest n levels, newest first
unfoldable pub lowest_levels : ℕ → List ℤ → List Level
lowest_levels n a = reverse (map level_of (take n (level_part a)))
