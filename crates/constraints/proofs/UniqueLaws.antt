-- The unique key of a mask: it has a column, and its twin is looked for among the other rows.
-- Assumes nothing.
use mathlib.Core.Path.{◌≡◌, refl, sym, ◌∙◌, ap}
use mathlib.Core.Bool.{Bool, true, ◌||◌}
use mathlib.Core.List.{List, [], ◌∷◌}
use Prim.Native.Nat.{ℕ, zero, suc, ◌≤◌, ◌<◌}
use native.Mathlib.Omega.{arith}
use borrow.Author.Tests.{leb-true, ne_eqb}
use lib.Dec.{leb, eqb}
use lib.ListN.{length, get_or}
use Rattle.schema.specs.Ranges.{all}
use Rattle.bridge.proofs.Tests.{all_head, all_tail}
use Rattle.rules.specs.Lists.{any, up_from, except}
use Rattle.schema.specs.Bytes.{bit}
use Rattle.rules.specs.Rows.{Row}
use Rattle.rules.specs.Keys.{mask_columns, mask_columns_from}
use Rattle.rules.specs.Change.{twice}
use Rattle.bridge.proofs.LoopLaws.{up_length, up_get}
use Rattle.rows.specs.Sought.{with_key}

-- ---- a mask that is not 0 has a column

masked : ℕ → Bool
masked m = eqb m 0 || leb 1 (length (mask_columns m))

all_at : (p : ℕ → Bool) (xs : List ℕ) (i : ℕ) → all p xs ≡ true → i < length xs → p (get_or xs i 0) ≡ true
all_at p [] i h l = absurd (omega arith)
all_at p (x ∷ xs) zero h l = all_head p x xs h
all_at p (x ∷ xs) (suc i) h l = all_at p xs i (all_tail p x xs h) (omega arith)

all_masked : all masked (up_from 0 256) ≡ true
unfolding all up_from masked mask_columns mask_columns_from bit
all_masked = refl

pub mask_some : (m : ℕ) → m < 256 → (m ≡ 0 → ⊥) → {n : ℕ} → n ≡ length (mask_columns m) → 1 ≤ n
unfolding masked
mask_some m h ne e =
    let at : masked m ≡ true = ap masked (up_get 256 m h) ∙ all_at masked (up_from 0 256) m all_masked (omega (arith, h, up_length 256)) in
    let some : leb 1 (length (mask_columns m)) ≡ true = sym (ap (λ b. b || leb 1 (length (mask_columns m))) (ne_eqb m 0 ne)) ∙ at in
    omega (arith, e, leb-true 1 (length (mask_columns m)) some)

-- ---- a twin among the other rows

pub twice_except : (fs : List Bool) (cs : List ℕ) (new : Row) (r : ℕ) (xs : List Row) → any (with_key fs cs cs new) (except r xs) ≡ twice fs cs r new xs
unfolding twice with_key
twice_except fs cs new r xs = refl
