-- The first number, or row, that passes a test.
-- Assumes nothing.
use Rattle.std.specs.Prelude.{◌≡◌, Bool, true, false, List, [], ℕ, ◌≤◌, ◌<◌, ℤ, get_or, Option, None, Some}
use Rattle.rules.specs.Rows.{Row}
use Rattle.rows.specs.declared.TableRows.{TableRows}
use Rattle.rows.specs.Standing.{rows_in}

-- x is the first number from `from` on, below n, that passes; n where there is none
pub record FirstFrom (p : ℕ → Bool) (n from x : ℕ) : Type 0 where
  pub low : from ≤ x
  pub high : x ≤ n
  pub skipped : (i : ℕ) → from ≤ i → i < x → p i ≡ false
  pub found : x < n → p x ≡ true

-- x is the first row from row `from` on that passes; the number of rows where there is none
abbrev pub FirstRow : (Row → Bool) → List ℤ → TableRows → ℕ → ℕ → Type 0
FirstRow p a t from x = FirstFrom (λ j. p (get_or (rows_in a t) j [])) t.count from x

-- the same, where None says that there is none
abbrev pub FirstIs : (Row → Bool) → List ℤ → TableRows → ℕ → Option ℕ → Type 0
FirstIs p a t from None = FirstRow p a t from t.count
FirstIs p a t from (Some x) = (x < t.count) × FirstRow p a t from x
