-- What is shown of answers.
-- Assumes nothing.
use mathlib.Core.Path.{◌≡◌, refl, ◌∙◌, ap}
use mathlib.Core.List.{List, [], ◌∷◌}
use Prim.Native.Nat.{ℕ}
use native.Mathlib.Omega.{arith}
use lib.IntN.{ℤ, pos}
use lib.ListN.{length, get_or}
use Rattle.rules.specs.Refusals.{Answer, shown}
use Rattle.rules.specs.Area.{AreaTurn}
use Rattle.rules.specs.Engine.{make_fresh}
use Rattle.capi.specs.Shown.{fresh_code}

-- three words, one by one
pub three : (ws : List ℤ) {a b c : ℤ} → length ws ≡ 3 → a ≡ get_or ws 0 (pos 0) → b ≡ get_or ws 1 (pos 0) → c ≡ get_or ws 2 (pos 0) → ◌≡◌ {A = List ℤ} (a ∷ b ∷ c ∷ []) ws
three [] h e f g = absurd (omega arith)
three (x ∷ []) h e f g = absurd (omega arith)
three (x ∷ y ∷ []) h e f g = absurd (omega arith)
three (x ∷ y ∷ z ∷ []) h e f g = rw (e, f, g) refl
three (x ∷ y ∷ z ∷ v ∷ ws) h e f g = absurd (omega arith)

pub fresh_code_lem : (bs : List ℕ) (ws : List ℤ) {x : ℤ} {a : Answer} {ws' : List ℤ} → (a, ws') ≡ make_fresh bs ws → x ≡ pos (shown a).0 → (x, ws') ≡ fresh_code bs ws
unfolding fresh_code
fresh_code_lem bs ws e f = λ i. ((f ∙ ap {B = ℤ} (λ (t : AreaTurn). pos (shown t.0).0) e) i, (e i).1)
