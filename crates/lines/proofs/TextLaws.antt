-- Laws of text in a buffer.
-- Assumes nothing.
use mathlib.Core.Path.{◌≡◌, refl, sym, ap, ap₂, subst, ◌∙◌}
use mathlib.Core.Bool.{Bool, true, false}
use mathlib.Core.List.{List, [], ◌∷◌, ◌++◌, append_assoc}
use Prim.Native.Nat.{ℕ, zero, suc, ◌+◌, ◌*◌, ◌-◌, ◌/◌, ◌%◌, ◌^◌, ◌≤◌, ◌<◌}
use native.Mathlib.Omega.{arith}
use native.Mathlib.Nat.{pow-succ'}
use borrow.Author.Tests.{ltb-true, lt-ltb, le-ltb, leb-true, leb-false}
use lib.Dec.{T, leb}
use lib.IntN.{ℤ, pos, negsuc, nat_abs}
use lib.Signed.{lt_z}
use lib.ListN.{length, take, drop, length-append}
use lib.Seq.{sets, sets-eq, drop-drop}
use borrow.Rule.Slice.PartMut.{put_mid}
use mir.Syntax.{w64}
use mir.Val.{SFits, to_z, of_z}
use mir.Facts.{to_z-of_z}
use Rattle.io.specs.Digits.{last_digits, hex_digit_ascii, IsDigitCount}
use Rattle.lines.specs.declared.Text.{Text}
use Rattle.lines.specs.Text.{put, held, SameBuffer, Puts, decimal_up_to, decimal, signed_text}

-- ---- text written into a buffer

-- a text copied into the part of the buffer that starts at `at` and is as long
pub copied : (text out : List ℕ) (at : ℕ) → at + length text ≤ length out
    → put_mid at (at + length text - at) out text ≡ sets out at text
copied text out at h =
    let n : at + length text - at ≡ length text = omega arith in
    rw (n, drop-drop (length text) at out, sets-eq text out at h) (sym (append_assoc (take at out) text (drop (at + length text) out)))

sets_append : (out a b : List ℕ) (at : ℕ) → sets (sets out at a) (at + length a) b ≡ sets out at (a ++ b)
sets_append out [] b at = ap (λ i. sets out i b) (omega arith)
sets_append out (x ∷ a) b at = ap (λ i. sets (sets out at (x ∷ a)) i b) (omega arith) ∙ sets_append _ a b (suc at)

-- one text after the other
pub then : (a b : List ℕ) (p : ℕ × List ℕ) {q r : ℕ × List ℕ} → q ≡ put a p → r ≡ put b q → r ≡ put (a ++ b) p
unfolding put
then a b p e f = f ∙ ap (put b) e ∙ ap₂ (λ n out. (n, out)) (simp length-append (omega arith)) (sets_append p.1 a b p.0)

-- the text that was written is this one
pub puts_as : {a b : List ℕ} {t u : Text} → a ≡ b → Puts a t u → Puts b t u
puts_as {t = t} e x = record { written = x.written ∙ ap (λ l. put l (held t)) e; same = x.same }

pub same_then : {t u v : Text} → SameBuffer t u → SameBuffer u v → SameBuffer t v
same_then x y = record { reference = y.reference ∙ x.reference; size = y.size ∙ x.size }

pub puts_then : (a b : List ℕ) {t u v : Text} → Puts a t u → Puts b u v → Puts (a ++ b) t v
puts_then a b {t} x y = record { written = then a b (held t) x.written y.written; same = same_then x.same y.same }

-- ---- decimal digits

below_power : (k : ℕ) → k < 10 ^ k
below_power zero = omega arith
below_power (suc k) = let h : k < 10 ^ k = below_power k in omega (arith, h)

last_digit : (n : ℕ) → hex_digit_ascii (n % 10) ≡ 48 + n % 10
last_digit n = rw (lt-ltb (n % 10) 10 (omega arith)) refl

digits_are : (k f n : ℕ) → k < f → n < 10 ^ suc k → (0 < k → 10 ^ k ≤ n) → last_digits 10 (suc k) n ≡ decimal_up_to f n
unfolding decimal_up_to
digits_are k zero n h low high = absurd (omega (arith, h))
digits_are zero (suc f) n h low high =
    let one : n < 10 = omega (arith, low) in
    let same : n % 10 ≡ n = omega (arith, one) in
    rw (last_digit n, same, lt-ltb n 10 one) refl
digits_are (suc k) (suc f) n h low high =
    let least : 10 ^ suc k ≤ n = high (omega arith) in
    let some : 0 < 10 ^ k = omega (arith, below_power k) in
    let many : 10 ≤ n = omega (arith, least, some) in
    let front : last_digits 10 (suc k) (n / 10) ≡ decimal_up_to f (n / 10) = digits_are k f (n / 10) (omega (arith, h)) (omega (arith, low)) (λ _. omega (arith, least)) in
    rw (last_digit n, le-ltb n 10 many, front) refl

few : (k n : ℕ) → (0 < k → 10 ^ k ≤ n) → k < suc n
few zero n high = omega arith
few (suc k) n high =
    let least : 10 ^ suc k ≤ n = high (omega arith) in
    omega (arith, below_power (suc k), least)

power_20 : (j : ℕ) → 10 ^ 20 ≤ 10 ^ (20 + j)
power_20 zero = omega arith
power_20 (suc j) = let more : 10 ^ (20 + suc j) ≡ 10 * 10 ^ (20 + j) = ap (λ m. 10 ^ m) (omega arith) ∙ pow-succ' 10 (20 + j) in omega (arith, more, power_20 j)

bounded : (k n : ℕ) (b : Bool) → leb k 20 ≡ b → n < 2 ^ 64 → IsDigitCount 10 1 n k → k ≤ 20
bounded k n true e low h = leb-true k 20 e
bounded k n false e low h =
    let many : 20 < k = leb-false k 20 e in
    let least : 10 ^ (k - 1) ≤ n = h.2 (omega (arith, many)) in
    let more : 10 ^ (20 + (k - 21)) ≤ n = subst (λ m. 10 ^ m ≤ n) (omega (arith, many)) least in
    absurd (omega (arith, power_20 (k - 21), more, low))

-- a 64-bit number has at most 20 digits
pub at_most_20 : (k n : ℕ) → n < 2 ^ 64 → IsDigitCount 10 1 n k → k ≤ 20
at_most_20 k n = bounded k n (leb k 20) refl

-- the digits that the kit's function spells are the number's
pub decimal_is : (k n : ℕ) → IsDigitCount 10 1 n k → last_digits 10 k n ≡ decimal n
unfolding decimal
decimal_is zero n h = absurd (omega (arith, h.0))
decimal_is (suc k) n h =
    let least : 1 < suc k → 10 ^ (suc k - 1) ≤ n = h.2 in
    let high : 0 < k → 10 ^ k ≤ n = λ some. subst (λ m. 10 ^ m ≤ n) (omega arith) (least (omega (arith, some))) in
    digits_are k (suc n) n (few k n high) h.1 high

-- ---- a signed number

minus' : (z : ℤ) → lt_z z (pos 0) ≡ true → 45 ∷ decimal (nat_abs z) ≡ signed_text z
unfolding signed_text
minus' (pos n) e = let h : n < 0 = ltb-true n 0 e in absurd (omega arith)
minus' (negsuc n) e = refl

plain' : (z : ℤ) → lt_z z (pos 0) ≡ false → decimal (nat_abs z) ≡ signed_text z
unfolding signed_text
plain' (pos n) e = refl
plain' (negsuc n) e = absurd (subst T e tt)

-- the text of a number that a local holds and that was found negative
pub minus : (z : ℤ) → SFits w64 z → lt_z (to_z w64 (of_z w64 z)) (pos 0) ≡ true → 45 ∷ decimal (nat_abs z) ≡ signed_text z
minus z f e = minus' z (rw (to_z-of_z f) at e)

-- and of one that was not
pub plain : (z : ℤ) → SFits w64 z → lt_z (to_z w64 (of_z w64 z)) (pos 0) ≡ false → decimal (nat_abs z) ≡ signed_text z
plain z f e = plain' z (rw (to_z-of_z f) at e)
