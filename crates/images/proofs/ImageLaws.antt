-- Images, word by word.
-- Assumes nothing.
use mathlib.Core.Path.{◌≡◌, refl, sym, ap, ap₂, ◌∙◌}
use mathlib.Core.Bool.{Bool, true, false}
use mathlib.Core.Logic.{◌⊎◌, inl, inr}
use mathlib.Core.List.{List, [], ◌∷◌, ◌++◌, append_assoc, append-nil}
use Prim.Native.Nat.{ℕ, suc, ◌+◌, ◌-◌, ◌%◌, ◌^◌, ◌≤◌, ◌<◌}
use native.Mathlib.Numerals.{add-one}
use native.Mathlib.Omega.{arith}
use lib.IntN.{ℤ, pos}
use lib.ListN.{length, get_or, set, take, drop, length-drop, drop_of_length-le}
use lib.Seq.{drop-cons, drop-drop, take_all, take-suc-set, drop-set-lt}
use Rattle.std.proofs.Math.Pow.{mod-mod-pow}
use Rattle.std.proofs.lemmas.List.{set-get_or}
use Rattle.std.specs.Option.{MatchOption, is_none, unwrap_or}
use Rattle.std.specs.declared.option.Option.{Option}
use Rattle.std.specs.declared.option.Option.TheVariants.{Some, None}
use Rattle.schema.specs.declared.Action.{Action}
use Rattle.schema.specs.declared.Action.TheVariants.{NoAction, Restrict, SetNull, SetDefault, Cascade}
use Rattle.schema.specs.Bytes.{bit}
use Rattle.schema.specs.Records.{Table, ForeignKey, Schema, table_of}
use Rattle.rules.specs.Lists.{𝟘, padded}
use Rattle.rules.specs.Values.{nat_of}
use Rattle.rules.specs.Rows.{Row, null_at, value_at, mask_of, held, live_image, normal}
use Rattle.rules.specs.Change.{flag, set_cell, fills_null, filler, refilled, child_image}
use Rattle.images.proofs.MaskLaws.{bit_low}

-- ---- a live row as it is written
module _ (m i : ℕ) where
  held_cons : (v : ℤ) (vs : List ℤ) {t : Bool} → bit i m ≡ t → held m i (v ∷ vs) ≡ elim t [ true ↦ 𝟘 | false ↦ v ] ∷ held m (suc i) vs
  unfolding held
  held_cons v vs e = rw e refl

-- the words so far, and the values to come
pub held_start : (columns m : ℕ) (x : Row) {z : ℤ} → length x ≡ 9 → z ≡ pos (256 + m % 2 ^ columns) → live_image columns m (drop 1 x) ≡ take (0 + 1) (set x 0 z) ++ held m 0 (drop (0 + 1) (set x 0 z))
unfolding live_image
held_start columns m [] l e = absurd (omega arith)
held_start columns m (w ∷ ws) l e = sym (rw e)

module _ (m i : ℕ) (x : Row) (h : i < 8) (l : length x ≡ 9) where
  step : (z : ℤ) → held m i (get_or x (i + 1) 𝟘 ∷ drop (suc (i + 1)) x) ≡ z ∷ held m (suc i) (drop (suc (i + 1)) x) → take (i + 1) x ++ held m i (drop (i + 1) x) ≡ take (i + 1 + 1) (set x (i + 1) z) ++ held m (i + 1) (drop (i + 1 + 1) (set x (i + 1) z))
  step z e =
      let k : ℕ = i + 1 in
      let q : k + 1 ≡ suc k = omega arith in
      ap (λ (y : List ℤ). take k x ++ held m i y) (drop-cons x k 𝟘 (omega arith))
      ∙ ap (λ (y : List ℤ). take k x ++ y) e
      ∙ ap (λ (j : ℕ). take k x ++ (z ∷ held m j (drop (suc k) x))) (sym (add-one i))
      ∙ sym (append_assoc (take k x) (z ∷ []) (held m (i + 1) (drop (suc k) x)))
      ∙ sym (rw (q, take-suc-set x k z (omega arith), drop-set-lt (suc k) x k z (omega arith)))

  pub held_null : bit i m ≡ true → take (i + 1) x ++ held m i (drop (i + 1) x) ≡ take (i + 1 + 1) (set x (i + 1) 𝟘) ++ held m (i + 1) (drop (i + 1 + 1) (set x (i + 1) 𝟘))
  held_null e = step 𝟘 (held_cons m i (get_or x (i + 1) 𝟘) (drop (suc (i + 1)) x) e)

  pub held_value : bit i m ≡ false → take (i + 1) x ++ held m i (drop (i + 1) x) ≡ take (i + 1 + 1) x ++ held m (i + 1) (drop (i + 1 + 1) x)
  held_value e =
      step (get_or x (i + 1) 𝟘) (held_cons m i (get_or x (i + 1) 𝟘) (drop (suc (i + 1)) x) e)
      ∙ ap (λ (y : Row). take (i + 1 + 1) y ++ held m (i + 1) (drop (i + 1 + 1) y)) (set-get_or x (i + 1) 𝟘)

pub held_end : (m i : ℕ) (x : Row) → 8 ≤ i → length x ≡ 9 → take (i + 1) x ++ held m i (drop (i + 1) x) ≡ x
unfolding held
held_end m i x h l =
    let n : length x ≤ i + 1 = omega arith in
    rw (drop_of_length-le x n, take_all (i + 1) x n) (append-nil x)

-- of a NULL mask the bits of eight columns count
held_low : (m i : ℕ) (vs : List ℤ) → i + length vs ≤ 8 → held m i vs ≡ held (m % 256) i vs
unfolding held
held_low m i [] h = refl
held_low m i (v ∷ vs) h =
    ap₂ (λ (b : Bool) (l : List ℤ). elim b [ true ↦ 𝟘 | false ↦ v ] ∷ l) (sym (bit_low i m (omega arith))) (held_low m (suc i) vs (omega arith))

pub live_normal : (columns : ℕ) (x : Row) → columns ≤ 8 → length x ≡ 9 → live_image columns (nat_of (get_or x 0 𝟘)) (drop 1 x) ≡ normal columns x
unfolding live_image normal mask_of
live_normal columns x h l =
    let n : ℕ = nat_of (get_or x 0 𝟘) in
    let whole : 8 - columns + columns ≡ 8 = omega arith in
    let few : 0 + length (drop 1 x) ≤ 8 = omega (arith, length-drop 1 x) in
    let low : n % 256 % 2 ^ columns ≡ n % 2 ^ columns = ap (λ (k : ℕ). n % 2 ^ k % 2 ^ columns) (sym whole) ∙ mod-mod-pow n (8 - columns) columns in
    ap₂ (λ (k : ℕ) (vs : List ℤ). pos (256 + k) ∷ vs) (sym low) (held_low n 0 (drop 1 x) few)

-- the nine words of a call from word 3 on have its values behind the mask
pub call_image : (call : List ℤ) → length call ≡ 12 → {x : Row} → x ≡ padded 9 (take 9 (drop 3 call)) → drop 1 x ≡ drop 4 call
call_image call l e =
    let n : length (drop 3 call) ≡ 9 = length-drop 3 call ∙ (omega arith) in
    let t : take 9 (drop 3 call) ≡ drop 3 call = take_all 9 (drop 3 call) (omega arith) in
    let p : padded 9 (drop 3 call) ≡ drop 3 call = rw n (append-nil (drop 3 call)) in
    ap (drop 1) (e ∙ ap (padded 9) t ∙ p) ∙ drop-drop 1 3 call

-- ---- what an action fills in

-- a value, or NULL
abbrev pub Fills : Action → Table → Row → ℕ → ℕ → Option ℤ → Type 0
Fills a t new c p o = MatchOption o (fills_null a t new c p ≡ true) (λ v. (fills_null a t new c p ≡ false) × (v ≡ filler a t new c p))

module _ (t : Table) (new : Row) (c p : ℕ) {a : Action} where
  pub fills_none : (a ≡ NoAction) ⊎ (a ≡ Restrict) → Fills a t new c p (Some 𝟘)
  unfolding fills_null filler
  fills_none (inl e) = (rw e refl, rw e refl)
  fills_none (inr e) = (rw e refl, rw e refl)

  pub fills_set : a ≡ SetNull → Fills a t new c p None
  unfolding fills_null
  fills_set e = rw e refl

  pub default_none : a ≡ SetDefault → bit c t.default_null ≡ true → Fills a t new c p None
  unfolding fills_null
  default_none e h = rw e h

  pub default_some : a ≡ SetDefault → bit c t.default_null ≡ false → {v : ℤ} → v ≡ get_or t.defaults c 𝟘 → Fills a t new c p (Some v)
  unfolding fills_null filler
  default_some e h f = (rw e h, rw e f)

  pub cascade_none : a ≡ Cascade → bit p (nat_of (get_or new 0 𝟘)) ≡ true → Fills a t new c p None
  unfolding fills_null null_at
  cascade_none e h = rw e h

  pub cascade_some : a ≡ Cascade → bit p (nat_of (get_or new 0 𝟘)) ≡ false → {v : ℤ} → v ≡ get_or new (p + 1) 𝟘 → Fills a t new c p (Some v)
  unfolding fills_null filler null_at value_at
  cascade_some e h f = (rw e h, rw e (f ∙ ap (λ (i : ℕ). get_or new i 𝟘) (add-one p)))

-- ---- a cell
pub cell_set : (c : ℕ) (null : Bool) (v : ℤ) (x : Row) {z st : ℤ} → st ≡ pos (256 + flag c null (nat_of (get_or x 0 𝟘) % 256)) → z ≡ v → set (set x 0 st) (c + 1) z ≡ set_cell c null v x
unfolding set_cell mask_of
cell_set c null v x e f = rw (e, f, add-one c) refl

pub cell_option : (c : ℕ) (value : Option ℤ) (x : Row) {null : Bool} {z st : ℤ} → null ≡ is_none value → st ≡ pos (256 + flag c null (nat_of (get_or x 0 𝟘) % 256)) → z ≡ unwrap_or value 𝟘
    → MatchOption value (set (set x 0 st) (c + 1) z ≡ set_cell c true 𝟘 x) (λ v. set (set x 0 st) (c + 1) z ≡ set_cell c false v x)
cell_option c None x n e f = cell_set c true 𝟘 x (e ∙ ap (λ (b : Bool). pos (256 + flag c b (nat_of (get_or x 0 𝟘) % 256))) n) f
cell_option c (Some v) x n e f = cell_set c false v x (e ∙ ap (λ (b : Bool). pos (256 + flag c b (nat_of (get_or x 0 𝟘) % 256))) n) f

-- ---- the child's image
pub child_is : (a : Action) (s : Schema) (k : ForeignKey) (new x : Row) {t c : ℕ} {cs ps : List ℕ} → t ≡ k.child → cs ≡ k.child_columns → ps ≡ k.parent_columns → c ≡ (table_of s t).columns
    → normal c (refilled a (table_of s t) new cs ps x) ≡ child_image a s k new x
unfolding child_image
child_is a s k new x e f g h = rw (h, f, g, e)
