-- The input may be run piece by piece: where the first piece is whole calls, both pieces one after the other are the run of both together.
-- Assumes nothing.
use mathlib.Core.Path.{◌≡◌, refl, sym, ◌∙◌, ap}
use mathlib.Core.Bool.{Bool, true, false}
use mathlib.Core.List.{List, ◌++◌}
use Prim.Native.Nat.{ℕ, zero, suc, ◌+◌, ◌*◌, ◌≤◌, ◌<◌}
use native.Mathlib.Omega.{arith}
use borrow.Author.Tests.{leb-true, leb-false}
use lib.Dec.{leb}
use lib.ListN.{length, length-append}
use Rattle.decoding.specs.CallBytes.{words_at}
use Rattle.decoding.proofs.WordLaws.{words_first, words_second}
use Rattle.call_lines.specs.Runs.{call_at, call_count, Run, ran_call, ran}
use Rattle.call_lines.proofs.RunLaws.{call_whole, call_short, run_from, run_none, run_more, run_all_lem}

-- whole calls and some bytes behind them
count_pieces : (k n : ℕ) → call_count (k * 96 + n) ≡ k + call_count n
unfolding call_count
count_pieces k n = omega arith

count_whole : (k : ℕ) → call_count (k * 96) ≡ k
unfolding call_count
count_whole k = omega arith

module _ (a b : List ℕ) (k : ℕ) (whole : length a ≡ k * 96) where
  size : length (a ++ b) ≡ k * 96 + length b
  size = length-append a b ∙ ap (λ n. n + length b) whole

  -- call i of the first piece
  call_first : (i : ℕ) → i < k → call_at (a ++ b) i ≡ call_at a i
  call_first i h =
      let inside : i * 96 + 96 ≤ length a = omega (arith, h, whole) in
      sym (call_whole (a ++ b) i (omega (arith, inside, whole, size))) ∙ words_first a b (i * 96) inside ∙ call_whole a i inside

  second : (i : ℕ) (t : Bool) → leb (i * 96 + 96) (length b) ≡ t → call_at (a ++ b) (k + i) ≡ call_at b i
  second i true e =
      let inside : i * 96 + 96 ≤ length b = leb-true _ _ e in
      let place : (k + i) * 96 ≡ length a + i * 96 = omega (arith, whole) in
      sym (call_whole (a ++ b) (k + i) (omega (arith, inside, size)))
      ∙ ap (λ p. words_at (a ++ b) p) place
      ∙ words_second a b (i * 96)
      ∙ call_whole b i inside
  second i false e =
      let short : length b < i * 96 + 96 = leb-false _ _ e in
      sym (call_short (a ++ b) (k + i) (omega (arith, short, size))) ∙ call_short b i short

  -- call i of the second piece
  call_second : (i : ℕ) → call_at (a ++ b) (k + i) ≡ call_at b i
  call_second i = second i (leb (i * 96 + 96) (length b)) refl

  module _ (schema : List ℕ) where
    run_first : (j m i : ℕ) (r : Run) → i + m ≤ k → run_from schema (a ++ b) (m + j) i r ≡ run_from schema (a ++ b) j (i + m) (run_from schema a m i r)
    run_first j zero i r h =
        let left : 0 + j ≡ j = omega arith in
        let here : i + 0 ≡ i = omega arith in
        rw (left, here, run_none schema a i r) refl
    run_first j (suc m) i r h =
        let left : suc m + j ≡ suc (m + j) = omega arith in
        let here : i + suc m ≡ suc i + m = omega arith in
        rw (left, here, run_more schema a m i r, run_more schema (a ++ b) (m + j) i r, call_first i (omega (arith, h)))
        (run_first j m (suc i) (ran_call schema (call_at a i) r) (omega (arith, h)))

    run_second : (j i : ℕ) (r : Run) → run_from schema (a ++ b) j (k + i) r ≡ run_from schema b j i r
    run_second zero i r = run_none schema (a ++ b) (k + i) r ∙ sym (run_none schema b i r)
    run_second (suc j) i r =
        let next : suc (k + i) ≡ k + suc i = omega arith in
        rw (run_more schema (a ++ b) j (k + i) r, run_more schema b j i r, call_second i, next) (run_second j (suc i) (ran_call schema (call_at b i) r))

    -- the run of both pieces, the text going on where the first ends
    pub pieces : (r : Run) → ran schema (a ++ b) r ≡ ran schema b (ran schema a r)
    pieces r =
        let n : ℕ = call_count (length b) in
        let all : call_count (length (a ++ b)) ≡ k + n = ap call_count size ∙ count_pieces k (length b) in
        let some : call_count (length a) ≡ k = ap call_count whole ∙ count_whole k in
        let middle : 0 + k ≡ k + 0 = omega arith in
        let done : run_from schema a k 0 r ≡ ran schema a r = ap (λ m. run_from schema a m 0 r) (sym some) ∙ run_all_lem schema a r in
        sym (run_all_lem schema (a ++ b) r)
        ∙ ap (λ m. run_from schema (a ++ b) m 0 r) all
        ∙ run_first n k 0 r (omega arith)
        ∙ ap (λ i. run_from schema (a ++ b) n i (run_from schema a k 0 r)) middle
        ∙ run_second n 0 (run_from schema a k 0 r)
        ∙ run_all_lem schema b (run_from schema a k 0 r)
        ∙ ap (ran schema b) done
