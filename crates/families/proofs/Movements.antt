-- Kept numbers key by key: when all of immediate keys are 0, and when two movements are the same.
-- Assumes nothing.
use mathlib.Core.Path.{◌≡◌, refl, sym, ◌∙◌, ap, ap₂}
use mathlib.Core.Bool.{Bool, true, ◌||◌}
use mathlib.Core.List.{List, [], ◌∷◌, ◌++◌, map}
use mathlib.Core.Logic.{inl, inr}
use Prim.Native.Nat.{◌-◌}
use lib.IntN.{ℤ, pos, ◌-ℤ◌, +ℤ_invr}
use lib.ListN.{length, get_or, replicate, length-map}
use Rattle.schema.specs.ParentKey.{Mem}
use Rattle.schema.specs.Records.{ForeignKey, Schema}
use Rattle.schema.proofs.RangeLaws.{and_left, and_right}
use Rattle.rules.specs.Lists.{𝟘, count, less}
use Rattle.rules.specs.Values.{same_word}
use Rattle.rules.specs.Rows.{Row, Tables}
use Rattle.rules.specs.Keys.{orphan, orphans, counts}
use Rattle.rules.specs.Statement.{immediate_zero}
use Rattle.bridge.proofs.Tests.{and_both}
use Rattle.bridge.proofs.BrokenKeys.{broken_none}

-- the number counted of a foreign key
abbrev pub counted : Tables → ForeignKey → ℤ
counted tabs k = pos (orphans tabs k)

-- it depends on two tables
pub orphans_same : (k : ForeignKey) (tabs tabs' : Tables) → get_or tabs k.child [] ≡ get_or tabs' k.child [] → get_or tabs k.parent [] ≡ get_or tabs' k.parent [] → counted tabs k ≡ counted tabs' k
unfolding orphans
orphans_same k tabs tabs' e f = ap₂ (λ (children parents : List Row). pos (count (orphan k parents) children)) e f

-- "A broken key has no orphans."
pub orphans_none : (k : ForeignKey) → k.broken ≡ true → (tabs : Tables) → counted tabs k ≡ 𝟘
orphans_none k h tabs = ap pos (broken_none k h tabs)

counts_are : (s : Schema) (tabs : Tables) → counts s tabs ≡ map (counted tabs) s.keys ++ replicate (32 - length s.keys) 𝟘
unfolding counts
counts_are s tabs = ap (λ n. map (counted tabs) s.keys ++ replicate (32 - n) 𝟘) (length-map s.keys (counted tabs))

-- ---- immediate keys

-- not an immediate key with orphans
abbrev pub zero_at : Tables → ForeignKey → Bool
zero_at tabs k = k.deferred || same_word 𝟘 (counted tabs k)

zero_in : (ks : List ForeignKey) (f : ForeignKey → ℤ) (z : List ℤ) → immediate_zero ks (map f ks ++ z) ≡ true → (k : ForeignKey) → Mem k ks → k.deferred || same_word 𝟘 (f k) ≡ true
unfolding immediate_zero Mem
zero_in [] f z h k m = absurd m
zero_in (j ∷ ks) f z h k (inl e) = rw e (and_left (j.deferred || same_word 𝟘 (f j)) _ h)
zero_in (j ∷ ks) f z h k (inr m) = zero_in ks f z (and_right (j.deferred || same_word 𝟘 (f j)) _ h) k m

zero_each : (ks : List ForeignKey) (f : ForeignKey → ℤ) (z : List ℤ) → ((k : ForeignKey) → Mem k ks → k.deferred || same_word 𝟘 (f k) ≡ true) → immediate_zero ks (map f ks ++ z) ≡ true
unfolding immediate_zero Mem
zero_each [] f [] h = refl
zero_each [] f (x ∷ z) h = refl
zero_each (j ∷ ks) f z h = and_both (h j (inl refl)) (zero_each ks f z (λ k m. h k (inr m)))

pub zero_at_lem : (s : Schema) (tabs : Tables) → immediate_zero s.keys (counts s tabs) ≡ true → (k : ForeignKey) → Mem k s.keys → zero_at tabs k ≡ true
zero_at_lem s tabs h = zero_in s.keys (counted tabs) _ (rw counts_are at h)

pub zero_all : (s : Schema) (tabs : Tables) → ((k : ForeignKey) → Mem k s.keys → zero_at tabs k ≡ true) → immediate_zero s.keys (counts s tabs) ≡ true
zero_all s tabs h = rw (counts_are s tabs) (zero_each s.keys (counted tabs) _ h)

-- ---- movements

less_each : (ks : List ForeignKey) (f g f' g' : ForeignKey → ℤ) (z : List ℤ) → ((k : ForeignKey) → Mem k ks → f k -ℤ g k ≡ f' k -ℤ g' k) → less (map f ks ++ z) (map g ks ++ z) ≡ less (map f' ks ++ z) (map g' ks ++ z)
unfolding less Mem
less_each [] f g f' g' z h = refl
less_each (j ∷ ks) f g f' g' z h = ap₂ (λ a l. a ∷ l) (h j (inl refl)) (less_each ks f g f' g' z (λ k m. h k (inr m)))

-- the orphans moved alike
pub less_same : (s : Schema) (after before after' before' : Tables) → ((k : ForeignKey) → Mem k s.keys → counted after k -ℤ counted before k ≡ counted after' k -ℤ counted before' k) → less (counts s after) (counts s before) ≡ less (counts s after') (counts s before')
less_same s after before after' before' h =
    rw (counts_are s after, counts_are s before, counts_are s after', counts_are s before')
    (less_each s.keys (counted after) (counted before) (counted after') (counted before') _ h)

-- a number less itself
pub none_moved : (x y : ℤ) → x -ℤ x ≡ y -ℤ y
none_moved x y = +ℤ_invr x ∙ sym (+ℤ_invr y)
