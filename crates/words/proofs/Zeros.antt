-- Words that are 0, one and all.
-- Assumes nothing.
use mathlib.Core.Path.{◌≡◌, refl, ◌∙◌}
use mathlib.Core.Bool.{Bool, true, false, ◌&&◌}
use mathlib.Core.List.{List, [], ◌∷◌}
use Prim.Native.Nat.{ℕ, ◌-◌, ◌≤◌, min}
use native.Mathlib.Omega.{arith}
use lib.Dec.{eqb}
use lib.IntN.{ℤ}
use lib.ListN.{length, take, drop, length-drop}
use lib.Seq.{take_all}
use mir.Syntax.{w64}
use mir.Val.{of_z, SFits}
use Rattle.std.specs.List.{list_all}
use Rattle.std.proofs.lemmas.List.{drop_min}
use Rattle.schema.specs.Ranges.{all}
use Rattle.rules.specs.Lists.{𝟘}
use Rattle.rules.specs.Values.{same_word, all_zero}
use Rattle.bridge.proofs.Bits.{same_bits}
use Rattle.bridge.proofs.KeyLaws.{same_sym}

-- a word is compared with 0 by its bits
pub zero_bits : (w : ℤ) → SFits w64 w → eqb (of_z w64 w) 0 ≡ same_word 𝟘 w
zero_bits w f = same_bits w 𝟘 f (record { sfits = omega arith }) ∙ same_sym w 𝟘

-- the library's word for a test of each element
all_is : {A : Type 0} (p : A → Bool) (xs : List A) → list_all p xs ≡ all p xs
unfolding all
all_is p [] = refl
all_is p (x ∷ xs) = rw (all_is p xs) (go (p x))
  where
    go : (a : Bool) → a && all p xs ≡ elim a [ true ↦ all p xs | false ↦ false ]
    go true = refl
    go false = refl

-- the words from a place on, where it may lie past the end
pub zero_rest : (ws : List ℤ) (from m : ℕ) → m ≡ min from (length ws) → list_all (same_word 𝟘) (take (length ws - m) (drop m ws)) ≡ all_zero (drop from ws)
unfolding all_zero
zero_rest ws from m e =
    let short : length (drop m ws) ≤ length ws - m = rw length-drop (omega arith) in
    let same : drop m ws ≡ drop from ws = rw e (drop_min from ws) in
    rw (take_all (length ws - m) (drop m ws) short, same) (all_is (same_word 𝟘) (drop from ws))
