-- "A run's tally (accepted, refused, rows) is carried from call to call"
-- Assumes nothing.
use Rattle.std.specs.Prelude.{cond, ℕ, ◌+◌, min, eqb}
use Rattle.run_tally.specs.declared.Tally.{Tally}

-- "a tally that would pass 2^64 − 1 stays at it"
unfoldable pub capped : ℕ → ℕ → ℕ
capped a b = min (a + b) 18446744073709551615

-- the tally with one answer more: code 0 is accepted; "rows sums the second column"
unfoldable pub tallied : Tally → ℕ → ℕ → Tally
tallied t code changed =
    record {
      accepted = cond (eqb code 0) (capped t.accepted 1) t.accepted;
      refused = cond (eqb code 0) t.refused (capped t.refused 1);
      rows = capped t.rows changed;
    }
