-- The words of a call do not depend on the bytes before it and behind it.
-- Assumes nothing.
use mathlib.Core.Path.{◌≡◌, refl, ap, ap₂}
use mathlib.Core.List.{List, ◌∷◌, ◌++◌}
use Prim.Native.Nat.{ℕ, ◌+◌, ◌*◌, ◌≤◌, ◌<◌}
use native.Mathlib.Omega.{arith}
use lib.ListN.{length, get_or, get_or-append}
use lib.Seq.{get_or-append-add}
use mir.Syntax.{w64}
use mir.Val.{to_z}
use Rattle.schema.specs.Bytes.{half, word, signed_word}
use Rattle.decoding.specs.CallBytes.{words_at}

-- the bytes of x from p on are those of y from q on, n of them
abbrev Alike : List ℕ → ℕ → List ℕ → ℕ → ℕ → Type 0
Alike x p y q n = (j : ℕ) → j < n → get_or x (p + j) 0 ≡ get_or y (q + j) 0

-- the same of a byte and of the bytes that start at i
from : (x y : List ℕ) (p q n i m : ℕ) → i + m ≤ n → Alike x p y q n → Alike x (p + i) y (q + i) m
from x y p q n i m h e j l =
    let left : p + i + j ≡ p + (i + j) = omega arith in
    let right : q + i + j ≡ q + (i + j) = omega arith in
    rw (left, right) (e (i + j) (omega (arith, h, l)))

first : (x y : List ℕ) (p q : ℕ) → Alike x p y q 1 → get_or x p 0 ≡ get_or y q 0
first x y p q e =
    let left : p + 0 ≡ p = omega arith in
    let right : q + 0 ≡ q = omega arith in
    rw (left, right) at (e 0 (omega arith))

half_alike : (x y : List ℕ) (p q : ℕ) → Alike x p y q 2 → half x p ≡ half y q
half_alike x y p q e = ap₂ (λ a b. a + 256 * b) (first x y p q (λ j l. e j (omega (arith, l)))) (e 1 (omega arith))

word_alike : (x y : List ℕ) (p q : ℕ) → Alike x p y q 8 → word x p ≡ word y q
word_alike x y p q e =
    let at : (i : ℕ) → i + 2 ≤ 8 → half x (p + i) ≡ half y (q + i) = λ i h. half_alike x y (p + i) (q + i) (from x y p q 8 i 2 h e) in
    let zero : half x p ≡ half y q = half_alike x y p q (λ j l. e j (omega (arith, l))) in
    ap₂ (λ a b. a + 281474976710656 * b) (ap₂ (λ a b. a + 4294967296 * b) (ap₂ (λ a b. a + 65536 * b) zero (at 2 (omega arith))) (at 4 (omega arith))) (at 6 (omega arith))

words_alike : (x y : List ℕ) (p q : ℕ) → Alike x p y q 96 → words_at x p ≡ words_at y q
unfolding words_at
words_alike x y p q e =
    let at : (i : ℕ) → i + 8 ≤ 96 → signed_word x (p + i) ≡ signed_word y (q + i) = λ i h. ap (to_z w64) (word_alike x y (p + i) (q + i) (from x y p q 96 i 8 h e)) in
    let zero : signed_word x p ≡ signed_word y q = ap (to_z w64) (word_alike x y p q (λ j l. e j (omega (arith, l)))) in
    ap₂ ◌∷◌ zero (ap₂ ◌∷◌ (at 8 (omega arith)) (ap₂ ◌∷◌ (at 16 (omega arith)) (ap₂ ◌∷◌ (at 24 (omega arith)) (ap₂ ◌∷◌ (at 32 (omega arith)) (ap₂ ◌∷◌ (at 40 (omega arith))
    (ap₂ ◌∷◌ (at 48 (omega arith)) (ap₂ ◌∷◌ (at 56 (omega arith)) (ap₂ ◌∷◌ (at 64 (omega arith)) (ap₂ ◌∷◌ (at 72 (omega arith)) (ap₂ ◌∷◌ (at 80 (omega arith)) (ap₂ ◌∷◌ (at 88 (omega arith)) refl)))))))))))

-- a call in the first of two pieces
pub words_first : (a b : List ℕ) (p : ℕ) → p + 96 ≤ length a → words_at (a ++ b) p ≡ words_at a p
words_first a b p h = words_alike (a ++ b) a p p (λ j l. get_or-append a b 0 (p + j) (omega (arith, h, l)))

-- a call in the second
pub words_second : (a b : List ℕ) (p : ℕ) → words_at (a ++ b) (length a + p) ≡ words_at b p
words_second a b p =
    words_alike (a ++ b) b (length a + p) p (λ j l. let e : length a + p + j ≡ length a + (p + j) = omega arith in rw e (get_or-append-add a b (p + j) 0))
