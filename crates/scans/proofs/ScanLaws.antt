-- The rows of a table but for one, in two parts.
-- Assumes nothing.
use mathlib.Core.Path.{◌≡◌, refl, sym, ◌∙◌, ap, ap₂}
use mathlib.Core.Bool.{Bool, true, false, ◌||◌}
use mathlib.Core.List.{List, [], ◌∷◌, ◌++◌}
use Prim.Native.Nat.{ℕ, zero, suc, ◌+◌, ◌*◌, ◌-◌, ◌≤◌, ◌<◌}
use native.Mathlib.Omega.{arith}
use native.Mathlib.Nat.{mul-le-mul_right, add-mul}
use lib.IntN.{ℤ}
use lib.ListN.{length, take, drop, length-drop}
use lib.Seq.{ext_get_or, length-take-le, get_or-take, get_or-drop}
use Rattle.rules.specs.Lists.{any, count, except}
use Rattle.rules.specs.Rows.{Row}
use Rattle.bridge.proofs.CountLaws.{any_append, count_append}
use Rattle.bridge.specs.Ready.{row_in}
use Rattle.rows.specs.declared.SoughtKey.{SoughtKey}
use Rattle.rows.specs.declared.TableRows.{TableRows}
use Rattle.rows.specs.Sought.{SoughtIn}
use Rattle.rows.specs.Standing.{Standing, rows_in}
use Rattle.rows.proofs.TableLaws.{rows_many, row_get}
use Rattle.scans.specs.Parts.{rows_before, rows_after}

-- ---- a list but for one place

except_parts : {A : Type 0} (r : ℕ) (xs : List A) → except r xs ≡ take r xs ++ drop (suc r) xs
unfolding except
except_parts zero [] = refl
except_parts (suc r) [] = refl
except_parts zero (x ∷ xs) = refl
except_parts (suc r) (x ∷ xs) = ap (λ l. x ∷ l) (except_parts r xs)

-- ---- the two parts of a table

mul_le : (a b w : ℕ) → a ≤ b → a * w ≤ b * w
mul_le a b w h = mul-le-mul_right w h

parts_all : (r n w : ℕ) → r < n → suc r * w + (n - suc r) * w ≡ n * w
parts_all r n w h =
    let whole : suc r + (n - suc r) ≡ n = omega (arith, h) in
    sym (add-mul (suc r) (n - suc r) w) ∙ ap (λ m. m * w) whole

module _ (a : List ℤ) (t : TableRows) (r : ℕ) (h : r < t.count) where
  before_are : rows_in a (rows_before t r) ≡ take r (rows_in a t)
  unfolding rows_before
  before_are =
      let many : length (rows_in a (rows_before t r)) ≡ r = rows_many a (rows_before t r) in
      let size : length (take r (rows_in a t)) ≡ r = length-take-le r (rows_in a t) (omega (arith, h, rows_many a t)) in
      ext_get_or [] (rows_in a (rows_before t r)) (take r (rows_in a t)) (many ∙ sym size)
      (λ j m.
      let below : j < r = omega (arith, m, many) in
      sym (row_get a (rows_before t r) j below) ∙ row_get a t j (omega (arith, below, h)) ∙ sym (get_or-take r (rows_in a t) j [] below))

  after_are : rows_in a (rows_after t r) ≡ drop (suc r) (rows_in a t)
  unfolding rows_after
  after_are =
      let many : length (rows_in a (rows_after t r)) ≡ t.count - suc r = rows_many a (rows_after t r) in
      let size : length (drop (suc r) (rows_in a t)) ≡ t.count - suc r = length-drop (suc r) (rows_in a t) ∙ ap (λ n. n - suc r) (rows_many a t) in
      ext_get_or [] (rows_in a (rows_after t r)) (drop (suc r) (rows_in a t)) (many ∙ sym size)
      (λ j m.
      let below : j < t.count - suc r = omega (arith, m, many) in
      let place : t.start + suc r * t.width + j * t.width ≡ t.start + (suc r + j) * t.width = omega arith in
      sym (row_get a (rows_after t r) j below)
      ∙ ap (λ p. row_in a p t.width) place
      ∙ row_get a t (suc r + j) (omega (arith, below))
      ∙ sym (get_or-drop (suc r) (rows_in a t) j []))

  pub before_stands : Standing a t → Standing a (rows_before t r)
  unfolding rows_before
  before_stands s =
      record {
        some = s.some;
        narrow = s.narrow;
        few = omega (arith, s.few, h);
        within = omega (arith, s.within, mul_le r t.count t.width (omega (arith, h)));
      }

  pub after_stands : Standing a t → Standing a (rows_after t r)
  unfolding rows_after
  after_stands s =
      let all : suc r * t.width + (t.count - suc r) * t.width ≡ t.count * t.width = parts_all r t.count t.width h in
      record {
        some = s.some;
        narrow = s.narrow;
        few = omega (arith, s.few);
        within = omega (arith, s.within, all);
      }

  -- what a scan requires holds of each part
  pub before_ready : {key : SoughtKey} {x : TableRows} → Standing a t → (1 ≤ key.n) × SoughtIn t.width key → x ≡ rows_before t r → Standing a x × ((1 ≤ key.n) × SoughtIn x.width key)
  unfolding rows_before
  before_ready s k e = rw e (before_stands s, k)

  pub after_ready : {key : SoughtKey} {x : TableRows} → Standing a t → (1 ≤ key.n) × SoughtIn t.width key → x ≡ rows_after t r → Standing a x × ((1 ≤ key.n) × SoughtIn x.width key)
  unfolding rows_after
  after_ready s k e = rw e (after_stands s, k)

  pub any_parts : (p : Row → Bool) {x y : TableRows} → x ≡ rows_before t r → y ≡ rows_after t r → any p (rows_in a x) || any p (rows_in a y) ≡ any p (except r (rows_in a t))
  any_parts p e f =
      ap₂ (λ xs ys. any p xs || any p ys) (ap (rows_in a) e ∙ before_are) (ap (rows_in a) f ∙ after_are)
      ∙ sym (any_append p (take r (rows_in a t)) (drop (suc r) (rows_in a t)))
      ∙ ap (any p) (sym (except_parts r (rows_in a t)))

  -- a row below row r is enough
  pub any_before : (p : Row → Bool) {x : TableRows} → x ≡ rows_before t r → any p (rows_in a x) ≡ true → any p (except r (rows_in a t)) ≡ true
  any_before p {x} e h = sym (any_parts p {x = x} {y = rows_after t r} e refl) ∙ ap (λ b. b || any p (rows_in a (rows_after t r))) h

  pub any_after : (p : Row → Bool) {x y : TableRows} → x ≡ rows_before t r → y ≡ rows_after t r → any p (rows_in a x) ≡ false → any p (rows_in a y) ≡ any p (except r (rows_in a t))
  any_after p {x} {y} e f h = ap (λ b. b || any p (rows_in a y)) (sym h) ∙ any_parts p e f

  pub count_parts : (p : Row → Bool) {x y : TableRows} → x ≡ rows_before t r → y ≡ rows_after t r → count p (rows_in a x) + count p (rows_in a y) ≡ count p (except r (rows_in a t))
  count_parts p e f =
      ap₂ (λ xs ys. count p xs + count p ys) (ap (rows_in a) e ∙ before_are) (ap (rows_in a) f ∙ after_are)
      ∙ sym (count_append p (take r (rows_in a t)) (drop (suc r) (rows_in a t)))
      ∙ ap (count p) (sym (except_parts r (rows_in a t)))

pub parts_few : (t : TableRows) (r : ℕ) → r < t.count → {x y : TableRows} {m n : ℕ} → x ≡ rows_before t r → y ≡ rows_after t r → m ≤ x.count → n ≤ y.count → m + n ≤ t.count
unfolding rows_before rows_after
parts_few t r h e f l k =
    let before = ap (λ (x : TableRows). x.count) e in
    let after = ap (λ (x : TableRows). x.count) f in
    omega (arith, h, before, after, l, k)
