-- Rows in turn: rows that are left as they are can be passed over.
-- Assumes nothing.
use mathlib.Core.Path.{◌≡◌, refl, ap, ◌∙◌}
use Prim.Native.Nat.{ℕ, zero, suc, ◌+◌, ◌-◌, ◌≤◌, ◌<◌}
use native.Mathlib.Numerals.{add-one}
use native.Mathlib.Omega.{arith}
use Rattle.rules.specs.declared.Refusal.{Refusal}
use Rattle.rules.specs.Refusals.{Verdict}
use Rattle.std.specs.Prelude.{Ok, Err}
use Rattle.rules.specs.Lists.{up_from}
use Rattle.rules.specs.Book.{Work}
use Rattle.rules.specs.Change.{Result, go, then, in_turn}
use Rattle.bridge.specs.Ready.{result_of}

module _ (turn : ℕ → Work → Result) where
  pub turns_start : (n : ℕ) (w : Work) {m : ℕ} → m ≡ n → in_turn turn (up_from 0 n) w ≡ in_turn turn (up_from 0 (m - 0)) w
  turns_start n w {m} h = let e : m - 0 ≡ n = omega arith in rw e refl

  pub turns_none : (n j : ℕ) (w : Work) → n ≤ j → in_turn turn (up_from j (n - j)) w ≡ result_of (Ok tt) w
  unfolding in_turn up_from result_of
  turns_none n j w h = let e : n - j ≡ 0 = omega arith in rw e refl

  turns_first : (n j : ℕ) (w : Work) → j < n → in_turn turn (up_from j (n - j)) w ≡ then (turn j w) (in_turn turn (up_from (j + 1) (n - (j + 1))))
  unfolding in_turn up_from
  turns_first n j w l = let q : n - j ≡ suc (n - suc j) = omega arith in rw (add-one, q) refl

  skip_by : (d n j : ℕ) (w : Work) → j + d ≤ n → ((i : ℕ) → j ≤ i → i < j + d → turn i w ≡ go w) → in_turn turn (up_from j (n - j)) w ≡ in_turn turn (up_from (j + d) (n - (j + d))) w
  unfolding then
  skip_by zero n j w l h = let e : j + 0 ≡ j = omega arith in rw e refl
  skip_by (suc d) n j w l h =
      let e : j + 1 + d ≡ j + suc d = omega arith in
      turns_first n j w (omega arith)
      ∙ ap (λ (x : Result). then x (in_turn turn (up_from (j + 1) (n - (j + 1))))) (h j (omega arith) (omega arith))
      ∙ skip_by d n (j + 1) w (omega arith) (λ i p q. h i (omega arith) (omega arith))
      ∙ ap (λ (m : ℕ). in_turn turn (up_from m (n - m)) w) e

  -- the rows from row j to row i are left as they are
  module _ (n j i : ℕ) (w : Work) (low : j ≤ i) (high : i ≤ n) (idle : (m : ℕ) → j ≤ m → m < i → turn m w ≡ go w) where
    skip : in_turn turn (up_from j (n - j)) w ≡ in_turn turn (up_from i (n - i)) w
    skip =
        let e : j + (i - j) ≡ i = omega arith in
        skip_by (i - j) n j w (omega arith) (λ m p q. idle m p (omega arith)) ∙ ap (λ (m : ℕ). in_turn turn (up_from m (n - m)) w) e

    pub turns_past : n ≤ i → in_turn turn (up_from j (n - j)) w ≡ result_of (Ok tt) w
    turns_past p = skip ∙ turns_none n i w p

    module _ (l : i < n) (o : Verdict) (v : Work) (e : turn i w ≡ result_of o v) where
      pub turns_done : o ≡ Ok tt → in_turn turn (up_from j (n - j)) w ≡ in_turn turn (up_from (i + 1) (n - (i + 1))) v
      unfolding then result_of
      turns_done p = skip ∙ turns_first n i w l ∙ rw (e, p) refl

      pub turns_refused : {c : Refusal} → o ≡ Err c → in_turn turn (up_from j (n - j)) w ≡ result_of (Err c) v
      unfolding then result_of
      turns_refused p = skip ∙ turns_first n i w l ∙ rw (e, p) refl
