-- Calls laid end to end: what the loop of `run` comes to.
-- Assumes nothing.
use mathlib.Core.Path.{◌≡◌, refl, sym, ◌∙◌, ap, ap₂, subst}
use mathlib.Core.Bool.{Bool, true, false}
use mathlib.Core.List.{List, [], ◌++◌, append_assoc}
use Prim.Native.Nat.{ℕ, zero, suc, ◌+◌, ◌*◌, ◌-◌, ◌/◌, ◌%◌, ◌≤◌, ◌<◌}
use native.Mathlib.Omega.{arith}
use borrow.Author.Tests.{leb-true, leb-false, le-leb, lt-leb}
use lib.Dec.{leb}
use lib.IntN.{ℤ}
use lib.ListN.{length, take, drop, length-append, length-drop}
use lib.Seq.{sets, sets-eq, take_all, take_at, drop_at, drop-drop}
use Rattle.rules.specs.Lists.{flat, chunks}
use Rattle.rules.specs.Step.{run_all}
use Rattle.rules.specs.Engine.{call_on, run_on}
use Rattle.laws.specs.Reached.{Reached}
use Rattle.laws.proofs.Reached.{reached_next}
use Rattle.answers.specs.AnswerWords.{answer_words}
use Rattle.engine.specs.Calls.{call_words}
use Rattle.runs.specs.Runs.{answers_words, least, calls_run, one_run, run_calls}

-- three words stored after A
stored : (A R ws : List ℤ) (n : ℕ) → length A ≡ n → length ws ≡ 3 → 3 ≤ length R → sets (A ++ R) n ws ≡ (A ++ ws) ++ drop 3 R
stored A R ws n a w r =
    sets-eq ws (A ++ R) n (simp length-append (omega (arith, a, w, r)))
    ∙ ap₂ (λ x y. x ++ ws ++ y) (take_at A R n a) (ap (λ m. drop (n + m) (A ++ R)) w ∙ sym (drop-drop 3 n (A ++ R)) ∙ ap (drop 3) (drop_at A R n a))

after_one : (i k : ℕ) → i * k + k ≡ suc i * k
after_one i k = omega arith

before_one : (k : ℕ) → 3 + k * 3 ≡ suc k * 3
before_one k = omega arith

join : (A w b : List ℤ) {r r' : List ℤ} → r ≡ r' → (A ++ w) ++ (b ++ r) ≡ A ++ ((w ++ b) ++ r')
join A w b {r} e = append_assoc A w (b ++ r) ∙ ap (λ l. A ++ l) (sym (append_assoc w b r) ∙ ap (λ l. w ++ b ++ l) e)

module _ (bs : List ℕ) (calls : List ℤ) where
  -- k calls from call i on
  unfoldable pub run_from : ℕ → ℕ → List ℤ × List ℤ → List ℤ × List ℤ
  run_from zero i p = p
  run_from (suc k) i p = run_from k (suc i) (one_run bs calls i p)

  pub run_none : (i : ℕ) (p : List ℤ × List ℤ) → run_from zero i p ≡ p
  unfolding run_from
  run_none i p = refl

  pub run_more : (k i : ℕ) (p : List ℤ × List ℤ) → run_from (suc k) i p ≡ run_from k (suc i) (one_run bs calls i p)
  unfolding run_from
  run_more k i p = refl

  one_is : (i : ℕ) (area A R : List ℤ) → length A ≡ i * 3 → 3 ≤ length R
      → one_run bs calls i (area, A ++ R) ≡ ((call_on bs (take 12 (drop (i * 12) calls)) area).1, (A ++ answer_words (call_on bs (take 12 (drop (i * 12) calls)) area).0) ++ drop 3 R)
  unfolding one_run call_words answer_words
  one_is i area A R a r = ap (λ l. ((call_on bs (take 12 (drop (i * 12) calls)) area).1, l)) (stored A R _ (i * 3) a refl r)

  run_from_lem : (k i : ℕ) (area A R : List ℤ) → length A ≡ i * 3 → k * 3 ≤ length R
      → run_from k i (area, A ++ R) ≡ ((run_on bs (chunks 12 k (drop (i * 12) calls)) area).1, A ++ (answers_words (run_on bs (chunks 12 k (drop (i * 12) calls)) area).0 ++ drop (k * 3) R))
  unfolding run_from chunks run_all answers_words flat answer_words
  run_from_lem zero i area A R a r = refl
  run_from_lem (suc k) i area A R a r =
      let c : List ℤ = take 12 (drop (i * 12) calls) in
      let w : List ℤ = answer_words (call_on bs c area).0 in
      let next : List ℤ = (call_on bs c area).1 in
      let one : one_run bs calls i (area, A ++ R) ≡ (next, (A ++ w) ++ drop 3 R) = one_is i area A R a (omega (arith, r)) in
      let rest : drop 12 (drop (i * 12) calls) ≡ drop (suc i * 12) calls = drop-drop 12 (i * 12) calls ∙ ap (λ m. drop m calls) (after_one i 12) in
      let size : length (A ++ w) ≡ suc i * 3 = length-append A w ∙ ap (λ m. m + 3) a ∙ after_one i 3 in
      let past : drop (k * 3) (drop 3 R) ≡ drop (suc k * 3) R = drop-drop (k * 3) 3 R ∙ ap (λ m. drop m R) (before_one k) in
      rw rest
      (ap (run_from k (suc i)) one
      ∙ run_from_lem k (suc i) next (A ++ w) (drop 3 R) size (simp length-drop (omega (arith, r)))
      ∙ ap (λ l. ((run_on bs (chunks 12 k (drop (suc i * 12) calls)) next).1, l)) (join A w (answers_words (run_on bs (chunks 12 k (drop (suc i * 12) calls)) next).0) past))

pub least_left : (a b : ℕ) → least a b ≤ a
unfolding least
least_left a b = by (leb a b) refl
  where
    by : (t : Bool) → leb a b ≡ t → elim t [ true ↦ a | false ↦ b ] ≤ a
    by true e = omega arith
    by false e = let h : b < a = leb-false a b e in omega (arith, h)

pub least_right : (a b : ℕ) → least a b ≤ b
unfolding least
least_right a b = by (leb a b) refl
  where
    by : (t : Bool) → leb a b ≡ t → elim t [ true ↦ a | false ↦ b ] ≤ b
    by true e = let h : a ≤ b = leb-true a b e in omega (arith, h)
    by false e = omega arith

pub least_first : (a b : ℕ) → a ≤ b → least a b ≡ a
unfolding least
least_first a b h = ap {B = ℕ} (λ t. elim t [ true ↦ a | false ↦ b ]) (le-leb a b h)

pub least_second : (a b : ℕ) → b < a → least a b ≡ b
unfolding least
least_second a b h = ap {B = ℕ} (λ t. elim t [ true ↦ a | false ↦ b ]) (lt-leb a b h)

-- how many calls there are, counted without a sum that may pass the largest number
pub counted : (words : ℕ) → words / 12 + (words % 12 + 11) / 12 ≡ (words + 11) / 12
counted words = omega arith

pub calls_first : (words room : ℕ) → words / 12 + (words % 12 + 11) / 12 ≤ room / 3 → words / 12 + (words % 12 + 11) / 12 ≡ calls_run words room
unfolding calls_run
calls_first words room h = counted words ∙ sym (least_first ((words + 11) / 12) (room / 3) (omega (arith, h, counted words)))

pub calls_second : (words room : ℕ) → room / 3 < words / 12 + (words % 12 + 11) / 12 → room / 3 ≡ calls_run words room
unfolding calls_run
calls_second words room h = sym (least_second ((words + 11) / 12) (room / 3) (omega (arith, h, counted words)))

-- the part of the words that is call i
pub call_part : (calls : List ℤ) (from : ℕ) → take (from + least 12 (length calls - from) - from) (drop from calls) ≡ take 12 (drop from calls)
call_part calls from = by (leb 12 (length calls - from)) refl
  where
    size : {n : ℕ} → least 12 (length calls - from) ≡ n → from + least 12 (length calls - from) - from ≡ n
    size e = omega (arith, e)

    by : (t : Bool) → leb 12 (length calls - from) ≡ t → take (from + least 12 (length calls - from) - from) (drop from calls) ≡ take 12 (drop from calls)
    by true e = ap (λ n. take n (drop from calls)) (size (least_first 12 (length calls - from) (leb-true 12 (length calls - from) e)))
    by false e =
        let short : length calls - from < 12 = leb-false 12 (length calls - from) e in
        let few : length (drop from calls) ≤ 12 = simp length-drop (omega (arith, short)) in
        let all : length (drop from calls) ≤ length calls - from = simp length-drop (omega arith) in
        ap (λ n. take n (drop from calls)) (size (least_second 12 (length calls - from) short))
        ∙ take_all (length calls - from) (drop from calls) all ∙ sym (take_all 12 (drop from calls) few)

-- a call's part, its answer, and the answer stored
pub one_run_lem : (bs : List ℕ) (calls : List ℤ) (i : ℕ) (area answers : List ℤ) {part w area' answers' : List ℤ} → part ≡ take 12 (drop (i * 12) calls) → (w, area') ≡ call_words bs part area → answers' ≡ sets answers (i * 3) w → (area', answers') ≡ one_run bs calls i (area, answers)
unfolding one_run
one_run_lem bs calls i area answers p e f =
    let t = e ∙ ap (λ c. call_words bs c area) p in
    λ j. ((t j).1, (f ∙ ap {B = List ℤ} (λ (t : List ℤ × List ℤ). sets answers (i * 3) t.0) t) j)

-- there is room for the answers
-- calls led to the area after it
pub reached_one : {bs : List ℕ} (calls : List ℤ) (i : ℕ) (p : List ℤ × List ℤ) {q : List ℤ × List ℤ} → Reached bs p.0 → q ≡ one_run bs calls i p → Reached bs q.0
unfolding one_run call_words
reached_one {bs} calls i p h e = subst (λ (x : List ℤ × List ℤ). Reached bs x.0) (sym e) (reached_next h (take 12 (drop (i * 12) calls)))

pub calls_room : (words room : ℕ) → calls_run words room * 3 ≤ room
unfolding calls_run
calls_room words room = omega (arith, least_right ((words + 11) / 12) (room / 3))

-- each call begins within the words
pub calls_begin : (words room i : ℕ) → i < calls_run words room → i * 12 ≤ words
unfolding calls_run
calls_begin words room i h = omega (arith, h, least_left ((words + 11) / 12) (room / 3))

-- the loop's start
pub run_start : (bs : List ℕ) (calls : List ℤ) (n : ℕ) (p : List ℤ × List ℤ) → run_from bs calls n 0 p ≡ run_from bs calls (n - 0) 0 p
run_start bs calls n p = let all : n ≡ n - 0 = omega arith in ap (λ k. run_from bs calls k 0 p) all

-- one turn of the loop
pub run_step : (bs : List ℕ) (calls : List ℤ) (n i : ℕ) (p : List ℤ × List ℤ) {q : List ℤ × List ℤ} → i < n → q ≡ one_run bs calls i p → run_from bs calls (n - i) i p ≡ run_from bs calls (n - (i + 1)) (i + 1) q
run_step bs calls n i p h e =
    let left : n - i ≡ suc (n - (i + 1)) = omega (arith, h) in
    let next : i + 1 ≡ suc i = omega arith in
    ap (λ k. run_from bs calls k i p) left ∙ run_more bs calls (n - (i + 1)) i p ∙ ap₂ (run_from bs calls (n - (i + 1))) (sym next) (sym e)

-- and all of them
pub run_all_lem : (bs : List ℕ) (calls area answers : List ℤ) {n : ℕ} {p : List ℤ × List ℤ} → n ≡ calls_run (length calls) (length answers) → run_from bs calls n 0 (area, answers) ≡ p → (n, p.0, p.1) ≡ run_calls bs calls area answers
unfolding run_calls
run_all_lem bs calls area answers {n} {p} e f =
    let all = sym f ∙ ap (λ m. run_from bs calls m 0 (area, answers)) e ∙ run_from_lem bs calls (calls_run (length calls) (length answers)) 0 area [] answers refl (calls_room (length calls) (length answers)) in
    λ i. (e i, (all i).0, (all i).1)
