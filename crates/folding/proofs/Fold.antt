-- Folding all bytes of a word at once.
-- Assumes nothing.
use mathlib.Core.Path.{◌≡◌, refl, sym, ap, ap₂, ◌∙◌}
use mathlib.Core.Bool.{Bool, true, ◌&&◌}
use Prim.Native.Nat.{ℕ, ◌+◌, ◌*◌, ◌/◌, ◌%◌, ◌<◌, ◌^◌}
use native.Mathlib.Nat.{mod-lt, mul-div_cancel, zero-add}
use native.Mathlib.Omega.{arith}
use borrow.Author.Tests.{eqb-true, ltb-true}
use lib.Bits.{bit_and, bit_or, bit_xor, and_le_r, and_lt, or_lt, xor_lt, and_block, or_block, xor_block}
use lib.Dec.{eqb, ltb, lit<}
use Rattle.schema.specs.Ranges.{all_from}
use Rattle.schema.proofs.RangeLaws.{all_at, and_left, and_right}
use Rattle.rules.specs.Values.{raised, each_byte}
use Rattle.folding.proofs.Bytes.{Bytewise, Apart, some, each_self, each_same, each_add, each_times, each_op}

-- a test that is computed for each byte
pub each_byte_lem : (p : ℕ → Bool) → all_from p 256 0 ≡ true → (b : ℕ) → b < 256 → p b ≡ true
each_byte_lem p e b h = rw zero-add at (all_at p 256 0 e b h)

pub raised_byte : Bytewise raised
unfolding all_from raised
raised_byte b h = ltb-true (raised b) 256 (each_byte_lem (λ b. ltb (raised b) 256) refl b h)

-- ---- one byte, step by step

-- the steps by which a number is made of n; every is a constant: one byte, eight times
pub data Steps (n : ℕ) : ℕ → Type 0 where
  itself : Steps n n
  every : {k : ℕ} → k % 256 * 0x0101010101010101 ≡ k → Steps n k
  and : {x y : ℕ} → Steps n x → Steps n y → Steps n (bit_and x y)
  or : {x y : ℕ} → Steps n x → Steps n y → Steps n (bit_or x y)
  xor : {x y : ℕ} → Steps n x → Steps n y → Steps n (bit_xor x y)
  sum : {x y : ℕ} → Steps n x → Steps n y → Steps n (x + y)
  quarter : {x : ℕ} → Steps n x → Steps n (x / 4)

-- what they make of a byte
unfoldable pub made : {n x : ℕ} → Steps n x → ℕ → ℕ
made itself b = b
made (every {k} e) b = k % 256
made (and p q) b = bit_and (made p b) (made q b)
made (or p q) b = bit_or (made p b) (made q b)
made (xor p q) b = bit_xor (made p b) (made q b)
made (sum p q) b = made p b + made q b
made (quarter p) b = made p b / 4

-- no step leaves the byte: no sum is above it, no bit of a quarter is below it
unfoldable pub within : {n x : ℕ} → Steps n x → Bool
within itself = true
within (every e) = true
within (and p q) = within p && within q
within (or p q) = within p && within q
within (xor p q) = within p && within q
within (sum p q) = (within p && within q) && all_from (λ b. ltb (made p b + made q b) 256) 256 0
within (quarter p) = within p && all_from (λ b. eqb (made p b) (made p b / 4 * 4)) 256 0

-- they raise each of the 256 bytes as the rules do
unfoldable pub raises : {n x : ℕ} → Steps n x → Bool
raises s = all_from (λ b. eqb (made s b) (raised b)) 256 0

-- ---- all bytes of a word

module _ {n : ℕ} (h : n < 2 ^ 64) where
  -- where a test passes, x has the bytes that f makes of the bytes of n
  abbrev Has : Bool → ℕ → (ℕ → ℕ) → Type 0
  Has u x f = u ≡ true → Bytewise f × (x ≡ each_byte f 8 n)

  every_has : {k : ℕ} → k % 256 * 0x0101010101010101 ≡ k → Has true k (λ b. k % 256)
  unfolding each_byte
  every_has {k} s e = ((λ b l. mod-lt k some), sym s ∙ omega arith)

  op_has : {u v : Bool} {x y : ℕ} {f g : ℕ → ℕ} (op : ℕ → ℕ → ℕ) → Apart op → Has u x f → Has v y g → Has (u && v) (op x y) (λ b. op (f b) (g b))
  op_has {u} {v} {f} {g} op o hx hy e =
      let p = hx (and_left u v e) in
      let q = hy (and_right u v e) in
      ((λ b l. o.low 8 (f b) (g b) (p.0 b l) (q.0 b l)), ap₂ op p.1 q.1 ∙ each_op op o p.0 q.0 8 n)

  sum_has : {u v : Bool} {x y : ℕ} {f g : ℕ → ℕ} → Has u x f → Has v y g → Has ((u && v) && all_from (λ b. ltb (f b + g b) 256) 256 0) (x + y) (λ b. f b + g b)
  sum_has {u} {v} {f} {g} hx hy e =
      let both = and_left (u && v) _ e in
      let low = each_byte_lem (λ b. ltb (f b + g b) 256) (and_right (u && v) _ e) in
      ((λ b l. ltb-true (f b + g b) 256 (low b l)), ap₂ ◌+◌ (hx (and_left u v both)).1 (hy (and_right u v both)).1 ∙ each_add f g 8 n)

  quarter_has : {u : Bool} {x : ℕ} {f : ℕ → ℕ} → Has u x f → Has (u && all_from (λ b. eqb (f b) (f b / 4 * 4)) 256 0) (x / 4) (λ b. f b / 4)
  quarter_has {u} {f} hx e =
      let p = hx (and_left u _ e) in
      let fours = each_byte_lem (λ b. eqb (f b) (f b / 4 * 4)) (and_right u _ e) in
      let all = p.1 ∙ each_same (λ b l. eqb-true (f b) (f b / 4 * 4) (fours b l)) 8 n ∙ each_times (λ b. f b / 4) 8 n in
      ((λ b l. omega (arith, p.0 b l)), ap (λ m. m / 4) all ∙ mul-div_cancel (each_byte (λ b. f b / 4) 8 n) (lit< tt))

  -- what steps make of a word has the bytes that they make of its bytes
  has : {x : ℕ} (s : Steps n x) → Has (within s) x (made s)
  unfolding made within
  has itself = λ e. ((λ b l. l), sym (each_self 8 n h))
  has (every e) = every_has e
  has (and p q) = op_has bit_and (record { none = refl; low = and_lt; block = and_block }) (has p) (has q)
  has (or p q) = op_has bit_or (record { none = refl; low = or_lt; block = or_block }) (has p) (has q)
  has (xor p q) = op_has bit_xor (record { none = refl; low = xor_lt; block = xor_block }) (has p) (has q)
  has (sum p q) = sum_has (has p) (has q)
  has (quarter p) = quarter_has (has p)

  -- so steps that raise each byte fold the word
  pub fold_all : {x : ℕ} (s : Steps n x) → within s ≡ true → raises s ≡ true → x ≡ each_byte raised 8 n
  unfolding raises
  fold_all s e r = (has s e).1 ∙ each_same (λ b l. eqb-true (made s b) (raised b) (each_byte_lem (λ b. eqb (made s b) (raised b)) r b l)) 8 n

pub add_fits : (n m k : ℕ) → m + k < 2 ^ 64 → bit_and n m + k < 2 ^ 64
add_fits n m k l = omega (arith, and_le_r n m)
