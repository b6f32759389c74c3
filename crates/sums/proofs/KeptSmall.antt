-- Numbers in range are small, and so are differences of small numbers. Assumes nothing.
use mathlib.Core.Path.{◌≡◌, refl}
use mathlib.Core.Bool.{true, false≢true}
use mathlib.Core.List.{List, [], ◌∷◌}
use Prim.Native.Nat.{ℕ, zero, suc, ◌+◌, ◌≤◌}
use native.Mathlib.Omega.{arith}
use Rattle.std.proofs.lemmas.Int.{ints}
use lib.Dec.{leb→le}
use lib.IntN.{ℤ, pos, negsuc, nat_abs, ◌-ℤ◌}
use lib.ListN.{length, get_or, take, drop}
use Rattle.schema.specs.Ranges.{all}
use Rattle.schema.specs.Records.{Schema}
use Rattle.schema.proofs.SchemaLaws.{Valid, accepted_valid}
use Rattle.rules.specs.Lists.{𝟘, less}
use Rattle.rules.specs.Values.{in_range}
use Rattle.rules.specs.State.{kept_in_range}
use Rattle.rules.specs.Area.{view}
use Rattle.bridge.specs.Ready.{Sound}
use Rattle.bridge.proofs.Tests.{holds, all_head, all_tail}
use Rattle.bridge.proofs.CountBounds.{kept_limited}
use Rattle.bridge.proofs.SoundLaws.{parts}
use Rattle.sums.specs.Small.{Small}
use Rattle.sums.proofs.SumLaws.{get_less}

-- numbers from 0 to 1,024, and their differences

range_at : (xs : List ℤ) → all (in_range 1024) xs ≡ true → (i : ℕ) → in_range 1024 (get_or xs i 𝟘) ≡ true
unfolding in_range
range_at [] h i = refl
range_at (x ∷ xs) h zero = all_head (in_range 1024) x xs h
range_at (x ∷ xs) h (suc i) = range_at xs (all_tail (in_range 1024) x xs h) i

range_small : (x : ℤ) → in_range 1024 x ≡ true → nat_abs x ≤ 1024
unfolding in_range
range_small (pos n) h = leb→le n 1024 (holds h)
range_small (negsuc n) h = absurd (false≢true h)

range_between : (x y : ℤ) → in_range 1024 x ≡ true → in_range 1024 y ≡ true → nat_abs (x -ℤ y) ≤ 1024
unfolding in_range
range_between (pos a) (pos b) h k = let p = leb→le a 1024 (holds h) in let q = leb→le b 1024 (holds k) in omega (arith, ints)
range_between (pos a) (negsuc b) h k = absurd (false≢true k)
range_between (negsuc a) y h k = absurd (false≢true h)

pub range_all : (xs : List ℤ) → all (in_range 1024) xs ≡ true → Small 1024 xs
range_all xs h = record { small = λ i. range_small (get_or xs i 𝟘) (range_at xs h i) }

pub range_less : (x y : List ℤ) → length y ≡ length x → all (in_range 1024) x ≡ true → all (in_range 1024) y ≡ true → Small 1024 (less x y)
range_less x y l h k = record { small = λ i. rw (get_less x y i l) (range_between (get_or x i 𝟘) (get_or y i 𝟘) (range_at x h i) (range_at y k i)) }

pub kept_small : {s : Schema} → Valid s → (xs : List ℤ) → kept_in_range s s.keys xs ≡ true → Small 1024 xs
kept_small {s} v xs h = range_all xs (kept_limited v s.keys xs h)

-- the kept numbers of an area that refusal 10 lets pass
pub kept_bound : (b : List ℕ) {a : List ℤ} → Sound b a → Small 1024 (take 32 (drop 4 a))
unfolding view
kept_bound b {a} h = kept_small (accepted_valid b h.ready.accepted) (take 32 (drop 4 a)) (parts h.undamaged_is).kept

-- a bound may be raised
pub small_more : {m n : ℕ} {xs : List ℤ} → m ≤ n → Small m xs → Small n xs
small_more l h = record { small = λ k. let b = h.small k in omega arith }

-- bounds add up
pub less_small : {m n o : ℕ} (x y : List ℤ) → length y ≡ length x → Small m x → Small n y → m + n ≤ o → Small o (less x y)
less_small x y l h k le =
    record { small = λ i. let p = h.small i in let q = k.small i in rw (get_less x y i l) (omega (arith, ints)) }
