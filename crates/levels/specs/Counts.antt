-- What the first words of an area count.
-- Assumes nothing.
use Rattle.std.specs.Prelude.{List, ℕ, ℤ, get_or}
use Rattle.rules.specs.Lists.{𝟘}
use Rattle.rules.specs.Values.{nat_of}

-- the levels that are open
abbrev pub open_levels : List ℤ → ℕ
open_levels a = nat_of (get_or a 0 𝟘)

-- the journal records used
abbrev pub records_used : List ℤ → ℕ
records_used a = nat_of (get_or a 2 𝟘)
