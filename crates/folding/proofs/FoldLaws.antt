-- Values of folded columns: folded twice is folded once, equal values are equal byte by byte, and under the bits that a search looks at first.
-- Assumes nothing.
use mathlib.Core.Path.{◌≡◌, refl, sym, ap, ap₂, ◌∙◌}
use mathlib.Core.Bool.{Bool, true, false}
use Prim.Native.Nat.{ℕ, zero, suc, ◌+◌, ◌*◌, ◌/◌, ◌%◌, ◌<◌}
use native.Mathlib.Nat.{mod-lt, div-add-mod'}
use borrow.Author.Tests.{eqb-true, eq-eqb}
use lib.Arith.{digits_div, digits_mod}
use lib.Bits.{bit_and, and_block, and_zero_r}
use lib.Dec.{eqb, lit<}
use lib.IntN.{ℤ}
use mir.Syntax.{w64}
use mir.Val.{of_z, to_z}
use mir.ValLaws.{of_z-to_z}
use Rattle.schema.specs.Ranges.{all_from}
use Rattle.schema.proofs.RangeLaws.{and_left, and_right}
use Rattle.rules.specs.Values.{same_word, raised, each_byte, folded, same_value}
use Rattle.bridge.proofs.Bits.{both_ways, same_eq, same_refl}
use Rattle.bridge.proofs.Tests.{and_both}
use Rattle.folding.specs.Masks.{masked, first_mask}
use Rattle.folding.specs.SameBytes.{same_bytes}
use Rattle.folding.proofs.Bytes.{some, each_same, each_below, each_each}
use Rattle.folding.proofs.Fold.{each_byte_lem, raised_byte}

-- ---- in code

pub not_folded : (f : Bool) (w : ℤ) → f ≡ false → w ≡ folded f w
unfolding folded
not_folded f w e = sym (ap (λ g. folded g w) e)

pub is_folded : (f : Bool) (w : ℤ) → f ≡ true → to_z w64 (each_byte raised 8 (of_z w64 w)) ≡ folded f w
unfolding folded
is_folded f w e = sym (ap (λ g. folded g w) e)

-- ---- folded twice

raised_again : (b : ℕ) → b < 256 → raised (raised b) ≡ raised b
unfolding all_from raised
raised_again b h = eqb-true (raised (raised b)) (raised b) (each_byte_lem (λ b. eqb (raised (raised b)) (raised b)) refl b h)

-- the bits of a folded word
pub folded_bits : (v : ℤ) → of_z w64 (folded true v) ≡ each_byte raised 8 (of_z w64 v)
unfolding folded
folded_bits v = of_z-to_z w64 (each_byte raised 8 (of_z w64 v)) (record { fits = each_below raised_byte 8 (of_z w64 v) })

pub fold_again : (f : Bool) (v : ℤ) → folded f (folded f v) ≡ folded f v
unfolding folded
fold_again true v =
    ap (λ n. to_z w64 (each_byte raised 8 n)) (folded_bits v)
    ∙ ap (to_z w64) (each_each raised raised_byte 8 (of_z w64 v) ∙ each_same raised_again 8 (of_z w64 v))
fold_again false v = refl

-- a value is equal to its folded form
pub folded_value : (f : Bool) (v u : ℤ) → same_value f (folded f v) u ≡ same_value f v u
unfolding same_value
folded_value f v u = ap (λ z. same_word z (folded f u)) (fold_again f v)

-- a folded value is equal to another exactly if that one's folded form is the same word
pub kept_value : (f : Bool) (v u : ℤ) → folded f v ≡ v → same_value f v u ≡ same_word v (folded f u)
unfolding same_value
kept_value f v u e = ap (λ z. same_word z (folded f u)) e

-- ---- under the bits that a search looks at first

-- a mask of n bytes keeps nothing above them
and_each : (c : ℕ) → c < 256 → (n m : ℕ) → bit_and m (each_byte (λ b. c) n m) ≡ each_byte (λ b. bit_and b c) n m
unfolding each_byte
and_each c h zero m = and_zero_r m
and_each c h (suc n) m =
    ap (λ k. bit_and k (each_byte (λ b. c) n (m / 256) * 256 + c)) (sym (div-add-mod' m 256))
    ∙ and_block 8 (m / 256) (each_byte (λ b. c) n (m / 256)) (m % 256) c (mod-lt m some) h
    ∙ ap (λ k. k * 256 + bit_and (m % 256) c) (and_each c h n (m / 256))

-- raising alters only the bit that the mask has not
raised_clear : (b : ℕ) → b < 256 → bit_and (raised b) 0xdf ≡ bit_and b 0xdf
unfolding all_from raised
raised_clear b h = eqb-true (bit_and (raised b) 0xdf) (bit_and b 0xdf) (each_byte_lem (λ b. eqb (bit_and (raised b) 0xdf) (bit_and b 0xdf)) refl b h)

clear_bits : (m : ℕ) → bit_and m (of_z w64 (first_mask true)) ≡ each_byte (λ b. bit_and b 0xdf) 8 m
unfolding each_byte first_mask
clear_bits m = and_each 0xdf (lit< tt) 8 m

-- a folded value has the bits of the value itself
masked_fold : (f : Bool) (v : ℤ) → masked (first_mask f) (folded f v) ≡ masked (first_mask f) v
unfolding masked
masked_fold true v =
    ap (to_z w64)
    (ap (λ n. bit_and n (of_z w64 (first_mask true))) (folded_bits v)
    ∙ clear_bits (each_byte raised 8 (of_z w64 v))
    ∙ each_each (λ b. bit_and b 0xdf) raised_byte 8 (of_z w64 v)
    ∙ each_same raised_clear 8 (of_z w64 v)
    ∙ sym (clear_bits (of_z w64 v)))
masked_fold false v = ap (masked (first_mask false)) (sym (not_folded false v refl))

-- so equal values are the same there
pub masked_same : (f : Bool) (a b : ℤ) → same_value f a b ≡ true → masked (first_mask f) a ≡ masked (first_mask f) b
unfolding same_value
masked_same f a b e = sym (masked_fold f a) ∙ ap (masked (first_mask f)) (same_eq (folded f a) (folded f b) e) ∙ masked_fold f b

-- ---- byte by byte

bytes_equal : (k m n : ℕ) → each_byte raised k m ≡ each_byte raised k n → same_bytes k m n ≡ true
unfolding each_byte same_bytes
bytes_equal zero m n e = refl
bytes_equal (suc k) m n e =
    let low : raised (m % 256) < 256 = raised_byte (m % 256) (mod-lt m some) in
    let low' : raised (n % 256) < 256 = raised_byte (n % 256) (mod-lt n some) in
    let first : raised (m % 256) ≡ raised (n % 256) = sym (digits_mod (each_byte raised k (m / 256)) low) ∙ ap (λ x. x % 256) e ∙ digits_mod (each_byte raised k (n / 256)) low' in
    let rest : each_byte raised k (m / 256) ≡ each_byte raised k (n / 256) = sym (digits_div (each_byte raised k (m / 256)) low) ∙ ap (λ x. x / 256) e ∙ digits_div (each_byte raised k (n / 256)) low' in
    and_both (eq-eqb _ _ first) (bytes_equal k (m / 256) (n / 256) rest)

equal_bytes : (k m n : ℕ) → same_bytes k m n ≡ true → each_byte raised k m ≡ each_byte raised k n
unfolding each_byte same_bytes
equal_bytes zero m n e = refl
equal_bytes (suc k) m n e =
    ap₂ (λ (a b : ℕ). a * 256 + b) (equal_bytes k (m / 256) (n / 256) (and_right (eqb (raised (m % 256)) (raised (n % 256))) _ e))
    (eqb-true _ _ (and_left (eqb (raised (m % 256)) (raised (n % 256))) _ e))

-- values of a folded column are equal exactly if their eight bytes are, one by one, "once 41 to 5A (hexadecimal) are raised by 20 (hexadecimal)"
pub byte_by_byte : (a b : ℤ) → same_value true a b ≡ same_bytes 8 (of_z w64 a) (of_z w64 b)
unfolding same_value
byte_by_byte a b =
    both_ways (same_word (folded true a) (folded true b)) (same_bytes 8 (of_z w64 a) (of_z w64 b))
    (λ h. bytes_equal 8 (of_z w64 a) (of_z w64 b) (sym (folded_bits a) ∙ ap (of_z w64) (same_eq (folded true a) (folded true b) h) ∙ folded_bits b))
    (λ h. ap (same_word (folded true a)) (folded_is b ∙ sym (ap (to_z w64) (equal_bytes 8 (of_z w64 a) (of_z w64 b) h)) ∙ sym (folded_is a)) ∙ same_refl (folded true a))
  where
    folded_is : (v : ℤ) → folded true v ≡ to_z w64 (each_byte raised 8 (of_z w64 v))
    folded_is v = sym (is_folded true v refl)
