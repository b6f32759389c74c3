-- An answer's three words.
-- Assumes nothing.
use mathlib.Core.Path.{◌≡◌, refl}
use mathlib.Core.List.{List, [], ◌∷◌}
use Prim.Native.Nat.{ℕ, suc, ◌+◌, ◌≤◌}
use native.Mathlib.Omega.{arith}
use lib.IntN.{ℤ, pos}
use lib.ListN.{length, get_or, set}
use lib.Seq.{sets}
use Rattle.std.specs.Prelude.{Err}
use Rattle.rules.specs.declared.Refusal.{Refusal}
use Rattle.rules.specs.Refusals.{Answer, number, shown, did}
use Rattle.answers.specs.AnswerWords.{answer_words}

pub done_few : {a : Answer} (n : ℕ) (d : ℤ) → a ≡ did n d → (shown a).1 ≤ 4096 → n ≤ 4096
unfolding shown
done_few n d e h = rw e at h

pub done_words : {a : Answer} {w z : ℤ} (n : ℕ) (d : ℤ) → a ≡ did n d → w ≡ pos n → z ≡ d → ◌≡◌ {A = List ℤ} (pos 0 ∷ w ∷ z ∷ []) (answer_words a)
unfolding answer_words shown
done_words n d e f g = rw (e, f, g) refl

pub refused_words : {a : Answer} {w : ℤ} (r : Refusal) → a ≡ Err r → w ≡ pos (number r) → ◌≡◌ {A = List ℤ} (w ∷ pos 0 ∷ pos 0 ∷ []) (answer_words a)
unfolding answer_words shown
refused_words r e f = rw (e, f) refl

-- three words set one by one are the three written from word n on
pub stored : (l ws : List ℤ) (n : ℕ) → length ws ≡ 3 → set (set (set l n (get_or ws 0 (pos 0))) (n + 1) (get_or ws 1 (pos 0))) (n + 2) (get_or ws 2 (pos 0)) ≡ sets l n ws
stored l [] n h = absurd (omega arith)
stored l (a ∷ []) n h = absurd (omega arith)
stored l (a ∷ b ∷ []) n h = absurd (omega arith)
stored l (a ∷ b ∷ c ∷ []) n h =
    let one : n + 1 ≡ suc n = omega arith in
    let two : n + 2 ≡ suc (suc n) = omega arith in
    rw (one, two) refl
stored l (a ∷ b ∷ c ∷ d ∷ ws) n h = absurd (omega arith)
