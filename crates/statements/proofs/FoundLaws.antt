-- The rows that are found, in turn.
-- Assumes nothing.
use mathlib.Core.Path.{◌≡◌, refl, sym, ap, ◌∙◌}
use mathlib.Core.Bool.{true, false}
use mathlib.Core.List.{List}
use Prim.Native.Nat.{ℕ, ◌+◌, ◌-◌, ◌≤◌, ◌<◌}
use native.Mathlib.Omega.{arith}
use lib.IntN.{ℤ}
use lib.ListN.{length}
use Rattle.schema.specs.Records.{Schema, table_of}
use Rattle.schema.specs.Fields.{schema_of}
use Rattle.rules.specs.declared.Refusal.{Refusal}
use Rattle.rules.specs.Refusals.{Verdict}
use Rattle.std.specs.Prelude.{Ok, Err}
use Rattle.rules.specs.Lists.{up_from}
use Rattle.rules.specs.Rows.{Row, image}
use Rattle.rules.specs.Book.{Work}
use Rattle.rules.specs.Change.{Result, go, given, in_turn, change}
use Rattle.rules.specs.Found.{found_turn, rows_found}
use Rattle.bridge.specs.Fit.{work_of}
use Rattle.bridge.specs.Ready.{result_of}
use Rattle.bridge.proofs.TurnLaws.{turns_start, turns_past, turns_done, turns_refused}
use Rattle.moves.specs.Tally.{Follows}
use Rattle.scans.specs.FirstFrom.{FirstFrom}
use Rattle.found.specs.declared.Given.{Given}
use Rattle.found.specs.declared.Seeking.{Seeking}
use Rattle.found.specs.Sought.{found_by, found_at, given_image, changes_by}

module _ (s : Schema) (t : ℕ) (x : Seeking) (g : Given) where
  -- a row's turn
  abbrev turn : ℕ → Work → Result
  turn = found_turn s t (found_by x) (given_image (table_of s t).columns g)

  -- the rows from row j on, of n rows
  unfoldable pub walk_from : ℕ → ℕ → Work → Result
  walk_from n j = in_turn turn (up_from j (n - j))

  pub walk_start : (w : Work) {n : ℕ} → n ≡ (table_of s t).rows → changes_by s t x g w ≡ walk_from n 0 w
  unfolding changes_by rows_found walk_from
  walk_start w e = turns_start turn (table_of s t).rows w e

  turn_idle : (i : ℕ) (w : Work) → found_at x t w.tabs i ≡ false → turn i w ≡ go w
  unfolding found_turn given found_at
  turn_idle i w e = rw e refl

  turn_met : (i : ℕ) (w : Work) → found_at x t w.tabs i ≡ true
      → turn i w ≡ change 16 s t i (given_image (table_of s t).columns g (image t i w.tabs)) w
  unfolding found_turn given found_at
  turn_met i w e = rw e refl

  -- row i is the next that is found
  module _ (n j i : ℕ) (w : Work) (en : n ≡ (table_of s t).rows) (f : FirstFrom (found_at x t w.tabs) (table_of s t).rows j i) where
    pub walk_past : n ≤ i → walk_from n j w ≡ result_of (Ok tt) w
    unfolding walk_from
    walk_past p = turns_past turn n j i w f.low (omega (arith, f.high, en)) (λ m a b. turn_idle m w (f.skipped m a b)) p

    module _ (l : i < n) {y : Row} (ey : y ≡ given_image (table_of s t).columns g (image t i w.tabs)) (o : Verdict) (v : Work) (e : result_of o v ≡ change 16 s t i y w) where
      turn_is : turn i w ≡ result_of o v
      turn_is = turn_met i w (f.found (omega (arith, l, en))) ∙ ap (λ (z : Row). change 16 s t i z w) (sym ey) ∙ sym e

      pub walk_done : o ≡ Ok tt → walk_from n j w ≡ walk_from n (i + 1) v
      unfolding walk_from
      walk_done = turns_done turn n j i w f.low (omega (arith, f.high, en)) (λ m a b. turn_idle m w (f.skipped m a b)) l o v turn_is

      pub walk_refused : {c : Refusal} → o ≡ Err c → walk_from n j w ≡ result_of (Err c) v
      unfolding walk_from
      walk_refused = turns_refused turn n j i w f.low (omega (arith, f.high, en)) (λ m a b. turn_idle m w (f.skipped m a b)) l o v turn_is

-- the walk from `area₀` and `tally₀` has come to row j of n rows: what is left of it is what the whole was
pub record Walking (b : List ℕ) (tally₀ area₀ tally area : List ℤ) (t : ℕ) (x : Seeking) (given : Given) (n j : ℕ) : Type 0 where
  pub low : j ≤ n
  pub size : length area ≡ length area₀
  pub follows : Follows (schema_of b) tally₀ area₀ tally area
  pub rest : changes_by (schema_of b) t x given (work_of (schema_of b) area₀) ≡ walk_from (schema_of b) t x given n j (work_of (schema_of b) area)
