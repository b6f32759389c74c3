-- The rows of a table but for one.
-- Assumes nothing.
use Rattle.std.specs.Prelude.{ℕ, suc, ◌+◌, ◌*◌, ◌-◌}
use Rattle.rows.specs.declared.TableRows.{TableRows}

-- the rows below row r, and those above it
unfoldable pub rows_before : TableRows → ℕ → TableRows
rows_before t r = record { start = t.start; width = t.width; count = r }

unfoldable pub rows_after : TableRows → ℕ → TableRows
rows_after t r = record { start = t.start + suc r * t.width; width = t.width; count = t.count - suc r }
