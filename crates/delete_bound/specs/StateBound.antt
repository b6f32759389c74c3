-- A row's part of the sum, by its state word and the mask of the columns that SET NULL on delete can clear.
-- Assumes nothing.
use Rattle.std.specs.Prelude.{true, false, not, ◌&&◌, ℕ, suc}
use Rattle.schema.specs.Bytes.{bit}
use Rattle.rules.specs.Lists.{count, up_from}
use Rattle.rules.specs.Rows.{live_state}

-- how many of the first n columns the mask has and are not NULL
unfoldable pub not_null_of : ℕ → ℕ → ℕ → ℕ
not_null_of n cleared state = count (λ c. not (bit c state) && bit c cleared) (up_from 0 n)

-- of a live row, 1 plus those among its columns, which are at most eight
unfoldable pub state_bound : ℕ → ℕ → ℕ
state_bound cleared state = elim (live_state state) [ true ↦ suc (not_null_of 8 cleared state) | false ↦ 0 ]
