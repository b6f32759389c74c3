-- States and values of a row, by its words, and its NULL columns.
-- Assumes nothing.
use mathlib.Core.Path.{◌≡◌, sym, ap, ap₂, ◌∙◌}
use mathlib.Core.Bool.{Bool, true, false, not, ◌&&◌}
use mathlib.Core.List.{List, [], ◌∷◌}
use Prim.Native.Nat.{ℕ, suc, ◌+◌, ◌-◌, ◌≤◌, ◌<◌}
use native.Mathlib.Nat.{add-zero}
use native.Mathlib.Numerals.{add-one}
use native.Mathlib.Omega.{arith}
use lib.Dec.{ltb}
use lib.IntN.{ℤ}
use lib.ListN.{length, get_or, take, drop, length-take, length-drop, drop_of_length-le}
use lib.Seq.{get_or-take, get_or-drop, drop-cons, length-take-le}
use Rattle.schema.specs.Bounds.{Columns}
use Rattle.schema.specs.Bytes.{bit}
use Rattle.schema.specs.Ranges.{all}
use Rattle.schema.specs.Records.{Table}
use Rattle.rules.specs.Lists.{𝟘, any, count, up_from}
use Rattle.rules.specs.Values.{nat_of}
use Rattle.rules.specs.Rows.{Row, live_state, live, null_at, value_at}
use Rattle.rules.specs.Keys.{full_key, half_key}
use Rattle.rules.specs.Change.{not_null_broken}
use Rattle.bridge.specs.Ready.{row_in}
use Rattle.rows.specs.Standing.{RowAt}
use Rattle.bridge.proofs.Tests.{and_same}
use Rattle.bridge.proofs.CountLaws.{count_some, count_not_all}

pub live_is : (x : Row) {n : ℕ} → n ≡ nat_of (get_or x 0 𝟘) → live_state n ≡ live x
unfolding live
live_is x e = ap live_state e

-- ---- a row as a part of the area
module _ (a : List ℤ) (p w : ℕ) where
  pub row_is : take (p + w - p) (drop p a) ≡ row_in a p w
  unfolding row_in
  row_is = let e : p + w - p ≡ w = omega arith in ap (λ (k : ℕ). take k (drop p a)) e

  pub row_long : RowAt a p w → length (take (p + w - p) (drop p a)) ≡ w
  row_long h = let e : p + w - p ≡ w = omega arith in simp (e, length-take) (omega (arith, h.within, length-drop p a))

-- ---- a word of a row
word_in : (a : List ℤ) (p w i : ℕ) → i < w → get_or (row_in a p w) i 𝟘 ≡ get_or a (p + i) 𝟘
unfolding row_in
word_in a p w i h = get_or-take w (drop p a) i 𝟘 h ∙ get_or-drop p a i 𝟘

pub value_in : (a : List ℤ) (p w c : ℕ) → suc c < w → value_at (row_in a p w) c ≡ get_or a (p + c + 1) 𝟘
unfolding value_at
value_in a p w c h =
    let e : p + suc c ≡ p + c + 1 = omega arith in
    word_in a p w (suc c) h ∙ ap (λ (i : ℕ). get_or a i 𝟘) e

pub state_in : (a : List ℤ) (p w : ℕ) → 0 < w → get_or (row_in a p w) 0 𝟘 ≡ get_or a p 𝟘
state_in a p w h = word_in a p w 0 h ∙ ap (λ (i : ℕ). get_or a i 𝟘) (add-zero p)

pub null_in_lem : (a : List ℤ) (p w c : ℕ) → 0 < w → null_at (row_in a p w) c ≡ bit c (nat_of (get_or a p 𝟘))
unfolding null_at
null_in_lem a p w c h = ap (λ (z : ℤ). bit c (nat_of z)) (state_in a p w h)

pub live_in : (a : List ℤ) (p w : ℕ) → 0 < w → live_state (nat_of (get_or a p 𝟘)) ≡ live (row_in a p w)
unfolding live
live_in a p w h = ap (λ (z : ℤ). live_state (nat_of z)) (sym (state_in a p w h))

-- ---- the first n of an array, from number i on
pub part_step : {A : Type 0} (d : A) (n : ℕ) (xs : List A) (i : ℕ) → i < n → n ≤ length xs → drop i (take n xs) ≡ get_or xs i d ∷ drop (i + 1) (take n xs)
part_step {A} d n xs i h l =
    let m : length (take n xs) ≡ n = length-take-le n xs l in
    drop-cons (take n xs) i d (omega arith) ∙ ap₂ (λ (x : A) (k : ℕ). x ∷ drop k (take n xs)) (get_or-take n xs i d h) (sym (add-one i))

pub columns_step : (n : ℕ) (cs : List ℕ) (i : ℕ) → i < n → n ≤ length cs → drop i (take n cs) ≡ get_or cs i 0 ∷ drop (i + 1) (take n cs)
columns_step = part_step 0

pub columns_end : (n : ℕ) (cs : List ℕ) (i : ℕ) → n ≤ i → drop i (take n cs) ≡ []
columns_end n cs i h = let l : length (take n cs) ≤ i = simp length-take (omega arith) in drop_of_length-le (take n cs) l

-- ---- NULL in a key
module _ (x : Row) {s : ℕ} (e : s ≡ nat_of (get_or x 0 𝟘)) (cs : List ℕ) where
  pub full_vacant : live_state s ≡ false → false ≡ full_key cs x
  unfolding full_key
  full_vacant f = let q : live x ≡ false = sym (live_is x e) ∙ f in rw q

  pub full_live : live_state s ≡ true → not (any (λ c. bit c s) cs) ≡ full_key cs x
  unfolding full_key null_at
  full_live f =
      let q : live x ≡ true = sym (live_is x e) ∙ f in
      ap (λ (z : ℕ). not (any (λ c. bit c z) cs)) e ∙ sym (ap (λ (b : Bool). b && not (any (null_at x) cs)) q)

  pub half_vacant : live_state s ≡ false → false ≡ half_key cs x
  unfolding half_key
  half_vacant f = let q : live x ≡ false = sym (live_is x e) ∙ f in rw q

  pub half_live : live_state s ≡ true → {m : ℕ} → m ≡ count (λ c. bit c s) cs → ltb 0 m && ltb m (length cs) ≡ half_key cs x
  unfolding half_key null_at
  half_live f {m} g =
      let q : live x ≡ true = sym (live_is x e) ∙ f in
      let nulls : m ≡ count (null_at x) cs = g ∙ ap (λ (z : ℕ). count (λ c. bit c z) cs) e in
      ap (λ (z : ℕ). ltb 0 z && ltb z (length cs)) nulls
      ∙ and_same (count_some (null_at x) cs) (count_not_all (null_at x) cs)
      ∙ sym (ap (λ (b : Bool). b && (any (null_at x) cs && not (all (null_at x) cs))) q)

-- ---- NOT NULL
pub broken_is : (t : Table) (new : Row) {m n s : ℕ} → m ≡ t.not_null → n ≡ t.columns → s ≡ nat_of (get_or new 0 𝟘) → any (λ (c : ℕ). bit c m && bit c s) (up_from 0 n) ≡ not_null_broken t new
unfolding not_null_broken null_at
broken_is t new e f g = rw (e, f, g)

-- ---- arrays of columns
pub widen : {w n : ℕ} {cs : List ℕ} → w ≤ 9 → Columns w n cs → Columns 9 n cs
widen {w} {n} {cs} h k =
    record { few = k.few; size = k.size; within = λ i l. let m : suc (get_or cs i 0) < w = k.within i l in omega arith }
