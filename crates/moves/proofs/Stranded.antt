-- What turning one parent row into another does to the count of orphans.
-- Assumes nothing.
use mathlib.Core.Path.{◌≡◌, refl}
use mathlib.Core.Bool.{Bool, true, false, not, ◌&&◌, ◌||◌, true≢false}
use mathlib.Core.List.{List, [], ◌∷◌}
use Prim.Native.Nat.{◌+◌}
use native.Mathlib.Omega.{arith}
use Rattle.schema.specs.Records.{ForeignKey}
use Rattle.rules.specs.Lists.{any, count, one}
use Rattle.rules.specs.Rows.{Row}
use Rattle.rules.specs.Keys.{due, serves, orphan}
use Rattle.bridge.proofs.CountLaws.{any_cons, count_cons, count_none}
use Rattle.moves.specs.Movement.{unserved, stranded}

-- d due, a and b served by the old and by the new words, o by another
stranded_one : (d a b o : Bool)
    → one (d && not (b || o)) + one (d && (b && (not a && not o))) ≡ one (d && not (a || o)) + one (d && (a && (not b && not o)))
unfolding one
stranded_one false a b o = refl
stranded_one true true true o = refl
stranded_one true true false true = refl
stranded_one true true false false = refl
stranded_one true false true true = refl
stranded_one true false true false = refl
stranded_one true false false o = refl

neither : (d a b o : Bool) → a ≡ b → d && (a && (not b && not o)) ≡ false
neither true true true o e = refl
neither true true false o e = absurd (true≢false e)
neither true false b o e = refl
neither false a b o e = refl

module _ (k : ForeignKey) where
  pub stranded_count : (x y : Row) (ps cs : List Row)
      → count (orphan k (y ∷ ps)) cs + count (stranded k y x ps) cs ≡ count (orphan k (x ∷ ps)) cs + count (stranded k x y ps) cs
  unfolding count orphan stranded unserved
  stranded_count x y ps [] = refl
  stranded_count x y ps (c ∷ cs) =
      let e : count (orphan k (y ∷ ps)) cs + count (stranded k y x ps) cs ≡ count (orphan k (x ∷ ps)) cs + count (stranded k x y ps) cs
      = stranded_count x y ps cs in
      let f : one (orphan k (y ∷ ps) c) + one (stranded k y x ps c) ≡ one (orphan k (x ∷ ps) c) + one (stranded k x y ps c)
      = single c in
      omega (arith, count_cons (orphan k (y ∷ ps)) c cs, count_cons (orphan k (x ∷ ps)) c cs, count_cons (stranded k y x ps) c cs, count_cons (stranded k x y ps) c cs)
    where
      single : (c : Row) → one (orphan k (y ∷ ps) c) + one (stranded k y x ps c) ≡ one (orphan k (x ∷ ps) c) + one (stranded k x y ps c)
      single c = rw (any_cons (serves k c) x ps, any_cons (serves k c) y ps) (stranded_one (due k c) (serves k c x) (serves k c y) (any (serves k c) ps))

  -- old and new words serve the same rows
  pub stranded_same : (x y : Row) (ps cs : List Row) → ((c : Row) → serves k c x ≡ serves k c y) → count (stranded k x y ps) cs ≡ 0
  unfolding stranded unserved
  stranded_same x y ps cs e = count_none (stranded k x y ps) (λ c. neither (due k c) (serves k c x) (serves k c y) (any (serves k c) ps) (e c)) cs
