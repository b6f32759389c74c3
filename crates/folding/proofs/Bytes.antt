-- A number with each of its bytes changed.
-- Assumes nothing.
use mathlib.Core.Path.{◌≡◌, refl, sym, ap, ap₂, ◌∙◌}
use Prim.Native.Nat.{ℕ, zero, suc, ◌+◌, ◌*◌, ◌/◌, ◌%◌, ◌^◌, ◌<◌}
use native.Mathlib.Nat.{mod-lt, div-lt_iff_lt-mul, div-add-mod', pow-suc}
use native.Mathlib.Omega.{arith}
use lib.Arith.{digits_lt, digits_div, digits_mod, lt-one}
use lib.Dec.{lit<}
use Rattle.rules.specs.Values.{each_byte}

pub some : 0 < 256
some = lit< tt

-- bytes to bytes
abbrev pub Bytewise : (ℕ → ℕ) → Type 0
Bytewise f = (b : ℕ) → b < 256 → f b < 256

pub below_high : (k : ℕ) {n : ℕ} → n < 256 ^ suc k → n / 256 < 256 ^ k
below_high k h = (div-lt_iff_lt-mul some).1 (rw pow-suc at h)

pub each_self : (k n : ℕ) → n < 256 ^ k → each_byte (λ b. b) k n ≡ n
unfolding each_byte
each_self zero n h = sym (lt-one h)
each_self (suc k) n h = ap (λ m. m * 256 + n % 256) (each_self k (n / 256) (below_high k h)) ∙ div-add-mod' n 256

pub each_same : {f g : ℕ → ℕ} → ((b : ℕ) → b < 256 → f b ≡ g b) → (k n : ℕ) → each_byte f k n ≡ each_byte g k n
unfolding each_byte
each_same h zero n = refl
each_same h (suc k) n = ap₂ (λ (a b : ℕ). a * 256 + b) (each_same h k (n / 256)) (h (n % 256) (mod-lt n some))

pub each_add : (f g : ℕ → ℕ) (k n : ℕ) → each_byte f k n + each_byte g k n ≡ each_byte (λ b. f b + g b) k n
unfolding each_byte
each_add f g zero n = refl
each_add f g (suc k) n =
    let high = each_add f g k (n / 256) in
    omega (arith, high)

pub each_times : (f : ℕ → ℕ) (k n : ℕ) → each_byte (λ b. f b * 4) k n ≡ each_byte f k n * 4
unfolding each_byte
each_times f zero n = refl
each_times f (suc k) n =
    let high = each_times f k (n / 256) in
    omega (arith, high)

-- an operation that works on each run of digits apart
pub record Apart (op : ℕ → ℕ → ℕ) : Type 0 where
  pub none : op 0 0 ≡ 0
  pub low : (k a b : ℕ) → a < 2 ^ k → b < 2 ^ k → op a b < 2 ^ k
  pub block : (k a b r s : ℕ) → r < 2 ^ k → s < 2 ^ k → op (a * 2 ^ k + r) (b * 2 ^ k + s) ≡ op a b * 2 ^ k + op r s

-- works on each byte
pub each_op : {f g : ℕ → ℕ} (op : ℕ → ℕ → ℕ) → Apart op → Bytewise f → Bytewise g → (k n : ℕ) → op (each_byte f k n) (each_byte g k n) ≡ each_byte (λ b. op (f b) (g b)) k n
unfolding each_byte
each_op op o hf hg zero n = o.none
each_op {f} {g} op o hf hg (suc k) n =
    o.block 8 (each_byte f k (n / 256)) (each_byte g k (n / 256)) (f (n % 256)) (g (n % 256)) (hf (n % 256) (mod-lt n some)) (hg (n % 256) (mod-lt n some))
    ∙ ap (λ m. m * 256 + op (f (n % 256)) (g (n % 256))) (each_op op o hf hg k (n / 256))

pub each_below : {f : ℕ → ℕ} → Bytewise f → (k n : ℕ) → each_byte f k n < 256 ^ k
unfolding each_byte
each_below h zero n = lit< tt
each_below {f} h (suc k) n = rw pow-suc (digits_lt (each_below h k (n / 256)) (h (n % 256) (mod-lt n some)))

-- one change after the other
pub each_each : {f : ℕ → ℕ} (g : ℕ → ℕ) → Bytewise f → (k n : ℕ) → each_byte g k (each_byte f k n) ≡ each_byte (λ b. g (f b)) k n
unfolding each_byte
each_each g h zero n = refl
each_each {f} g h (suc k) n =
    let low = h (n % 256) (mod-lt n some) in
    ap₂ (λ (a b : ℕ). a * 256 + b) (ap (each_byte g k) (digits_div (each_byte f k (n / 256)) low) ∙ each_each g h k (n / 256))
    (ap g (digits_mod (each_byte f k (n / 256)) low))
