-- Rows that are alike: the same once written, whatever stands under NULL.
-- Assumes nothing.
use mathlib.Core.Path.{◌≡◌, refl, sym, ap, ap₂, ◌∙◌}
use mathlib.Core.Bool.{Bool, true, false, false≢true}
use mathlib.Core.List.{List, [], ◌∷◌}
use Prim.Native.Nat.{ℕ, suc, ◌+◌, ◌%◌, ◌^◌, ◌≤◌, ◌<◌}
use native.Mathlib.Nat.{mod-lt}
use native.Mathlib.Omega.{arith}
use borrow.Author.Tests.{eqb-true, eqb-false}
use lib.Dec.{eqb, lit<}
use lib.IntN.{ℤ, pos}
use lib.ListN.{length, get_or, set, drop, length-set, length-drop, drop_of_length-le}
use lib.Seq.{get_or-set_same, get_or-set_other, get_or-drop, drop-cons}
use Rattle.std.specs.Option.{MatchOption}
use Rattle.std.specs.declared.option.Option.{Option}
use Rattle.std.specs.declared.option.Option.TheVariants.{Some, None}
use Rattle.schema.specs.Bytes.{bit}
use Rattle.schema.specs.Records.{Table}
use Rattle.schema.specs.declared.Action.{Action}
use Rattle.rules.specs.Lists.{𝟘}
use Rattle.rules.specs.Values.{nat_of}
use Rattle.rules.specs.Rows.{Row, value_at, mask_of, held, live_image, normal}
use Rattle.rules.specs.Change.{flag, set_cell, fills_null, filler, refilled}
use Rattle.rules.specs.Found.{row_set}
use Rattle.rows.specs.KeyColumns.{OfImage}
use Rattle.images.proofs.MaskLaws.{flag_low, flag_same, flag_beside}
use Rattle.images.proofs.ImageLaws.{Fills, live_normal}

pub record Alike (x y : Row) : Type 0 where
  pub long : length x ≡ 9
  pub as_long : length y ≡ 9
  pub mask : mask_of x ≡ mask_of y
  pub values : (i : ℕ) → i < 8 → bit i (mask_of x) ≡ false → value_at x i ≡ value_at y i

pub alike_self : (x : Row) → length x ≡ 9 → Alike x x
alike_self x l = record { long = l; as_long = l; mask = refl; values = λ i h e. refl }

pub alike_along : {x y z : Row} → Alike x y → Alike y z → Alike x z
alike_along a b =
    record { long = a.long; as_long = b.as_long; mask = a.mask ∙ b.mask; values = λ i h e. a.values i h e ∙ b.values i h (ap (bit i) (sym a.mask) ∙ e) }

-- ---- one column set

module _ (c : ℕ) (low : c < 8) (null : Bool) (v : ℤ) (x : Row) (long : length x ≡ 9) where
  small : mask_of x < 256
  unfolding mask_of
  small = mod-lt _ (lit< tt)

  pub cell_long : length (set_cell c null v x) ≡ 9
  unfolding set_cell
  cell_long = simp length-set long

  pub cell_mask : mask_of (set_cell c null v x) ≡ flag c null (mask_of x)
  unfolding set_cell mask_of nat_of
  cell_mask =
      let f : ℕ = flag c null (nat_of (get_or x 0 𝟘) % 256) in
      let k : f < 256 = flag_low c (nat_of (get_or x 0 𝟘) % 256) low (mod-lt _ (lit< tt)) null in
      let e : get_or (set (set x 0 (pos (256 + f))) (suc c) v) 0 𝟘 ≡ pos (256 + f) =
      get_or-set_other (set x 0 (pos (256 + f))) (suc c) 0 v 𝟘 (omega arith) ∙ get_or-set_same x 0 (pos (256 + f)) 𝟘 (omega (arith, long)) in
      let r : (256 + f) % 256 ≡ f = omega (arith, k) in
      ap (λ (z : ℤ). nat_of z % 256) e ∙ r

  cell_same : value_at (set_cell c null v x) c ≡ v
  unfolding set_cell value_at
  cell_same = get_or-set_same (set x 0 (pos (256 + flag c null (mask_of x)))) (suc c) v 𝟘 (simp length-set (omega (arith, low, long)))

  cell_other : (i : ℕ) → (i ≡ c → ⊥) → value_at (set_cell c null v x) i ≡ value_at x i
  unfolding set_cell value_at
  cell_other i n =
      get_or-set_other (set x 0 (pos (256 + flag c null (mask_of x)))) (suc c) (suc i) v 𝟘 (λ e. n (let q : i ≡ c = omega arith in q))
      ∙ get_or-set_other x 0 (suc i) (pos (256 + flag c null (mask_of x))) 𝟘 (omega arith)

-- what stands under NULL makes no difference
pub null_alike : (c : ℕ) → c < 8 → (u v : ℤ) (x : Row) → length x ≡ 9 → Alike (set_cell c true u x) (set_cell c true v x)
null_alike c low u v x l =
    record {
      long = cell_long c low true u x l;
      as_long = cell_long c low true v x l;
      mask = cell_mask c low true u x l ∙ sym (cell_mask c low true v x l);
      values = λ i h e. at i h e (eqb i c) refl;
    }
  where
    at : (i : ℕ) → i < 8 → bit i (mask_of (set_cell c true u x)) ≡ false → (t : Bool) → eqb i c ≡ t → value_at (set_cell c true u x) i ≡ value_at (set_cell c true v x) i
    at i h e true q =
        let s : i ≡ c = eqb-true i c q in
        let f : bit c (flag c true (mask_of x)) ≡ false = ap (λ (j : ℕ). bit j (flag c true (mask_of x))) (sym s) ∙ ap (bit i) (sym (cell_mask c low true u x l)) ∙ e in
        absurd (false≢true (sym f ∙ flag_same c (mask_of x) low (small c low true u x l)))
    at i h e false q = let n = eqb-false i c q in cell_other c low true u x l i n ∙ sym (cell_other c low true v x l i n)

pub cell_alike : (c : ℕ) → c < 8 → (null : Bool) (v : ℤ) {x y : Row} → Alike x y → Alike (set_cell c null v x) (set_cell c null v y)
cell_alike c low null v {x} {y} a =
    record {
      long = cell_long c low null v x a.long;
      as_long = cell_long c low null v y a.as_long;
      mask = cell_mask c low null v x a.long ∙ ap (flag c null) a.mask ∙ sym (cell_mask c low null v y a.as_long);
      values = λ i h e. at i h e (eqb i c) refl;
    }
  where
    at : (i : ℕ) → i < 8 → bit i (mask_of (set_cell c null v x)) ≡ false → (t : Bool) → eqb i c ≡ t → value_at (set_cell c null v x) i ≡ value_at (set_cell c null v y) i
    at i h e true q =
        let s : i ≡ c = eqb-true i c q in
        rw s (cell_same c low null v x a.long ∙ sym (cell_same c low null v y a.as_long))
    at i h e false q =
        let n = eqb-false i c q in
        let f : bit i (mask_of x) ≡ false =
        sym (flag_beside c (mask_of x) low (small c low null v x a.long) null i h n) ∙ ap (bit i) (sym (cell_mask c low null v x a.long)) ∙ e in
        cell_other c low null v x a.long i n ∙ a.values i h f ∙ sym (cell_other c low null v y a.as_long i n)

-- ---- a key's columns filled

module _ (a : Action) (t : Table) (new : Row) where
  pub filled_alike : (cs ps : List ℕ) → OfImage cs → {x y : Row} → Alike x y → Alike (refilled a t new cs ps x) (refilled a t new cs ps y)
  unfolding refilled
  filled_alike [] ps h s = s
  filled_alike (c ∷ cs) [] h s = s
  filled_alike (c ∷ cs) (p ∷ ps) h s =
      filled_alike cs ps (λ i l. h (suc i) (omega arith)) (cell_alike c (h 0 (omega arith)) (fills_null a t new c p) (filler a t new c p) s)

-- what an action puts in a column
pub filled_cell : (a : Action) (t : Table) (new : Row) (c p : ℕ) → c < 8 → (x y : Row) → length x ≡ 9 → (o : Option ℤ) → Fills a t new c p o → MatchOption o (y ≡ set_cell c true 𝟘 x) (λ v. y ≡ set_cell c false v x)
    → Alike y (set_cell c (fills_null a t new c p) (filler a t new c p) x)
filled_cell a t new c p low x y l None f e = rw (e, f) (null_alike c low 𝟘 (filler a t new c p) x l)
filled_cell a t new c p low x y l (Some v) f e =
    rw (e, f.0, ← f.1) (alike_self (set_cell c false v x) (cell_long c low false v x l))

module _ (a : Action) (t : Table) (new : Row) (cs ps : List ℕ) (h : OfImage cs) (many : length cs ≡ length ps) (i : ℕ) (x : Row) {whole : Row} where
  pub fill_next : i < length cs → (y : Row) → Alike y (set_cell (get_or cs i 0) (fills_null a t new (get_or cs i 0) (get_or ps i 0)) (filler a t new (get_or cs i 0) (get_or ps i 0)) x)
      → Alike (refilled a t new (drop i cs) (drop i ps) x) whole → Alike (refilled a t new (drop (i + 1) cs) (drop (i + 1) ps) y) whole
  unfolding refilled
  fill_next m y s w =
      let one : i + 1 ≡ suc i = omega arith in
      let first : drop i cs ≡ get_or cs i 0 ∷ drop (i + 1) cs = drop-cons cs i 0 m ∙ ap (λ (k : ℕ). get_or cs i 0 ∷ drop k cs) (sym one) in
      let second : drop i ps ≡ get_or ps i 0 ∷ drop (i + 1) ps = drop-cons ps i 0 (omega (arith, many)) ∙ ap (λ (k : ℕ). get_or ps i 0 ∷ drop k ps) (sym one) in
      let rest : OfImage (drop (i + 1) cs) = λ j k. rw get_or-drop (h (i + 1 + j) (omega (arith, length-drop (i + 1) cs))) in
      alike_along (filled_alike a t new (drop (i + 1) cs) (drop (i + 1) ps) rest s) (rw (first, second) at w)

  pub fill_end : length cs ≤ i → Alike (refilled a t new (drop i cs) (drop i ps) x) whole → Alike x whole
  unfolding refilled
  fill_end m w = rw (drop_of_length-le cs m) at w

-- ---- as they are written

held_same : (m i : ℕ) (vs us : List ℤ) → length vs ≡ length us → ((j : ℕ) → j < length vs → bit (i + j) m ≡ false → get_or vs j 𝟘 ≡ get_or us j 𝟘) → held m i vs ≡ held m i us
unfolding held
held_same m i [] [] l h = refl
held_same m i [] (u ∷ us) l h = absurd (omega arith)
held_same m i (v ∷ vs) [] l h = absurd (omega arith)
held_same m i (v ∷ vs) (u ∷ us) l h =
    ap₂ (λ (z : ℤ) (l : List ℤ). z ∷ l) (first (bit i m) refl)
    (held_same m (suc i) vs us (omega arith) (λ j k e. h (suc j) (omega arith) (let q : i + suc j ≡ suc i + j = omega arith in ap (λ (n : ℕ). bit n m) q ∙ e)))
  where
    first : (b : Bool) → bit i m ≡ b → ◌≡◌ {A = ℤ} (elim b [ true ↦ 𝟘 | false ↦ v ]) (elim b [ true ↦ 𝟘 | false ↦ u ])
    first true e = refl
    first false e = h 0 (omega arith) (let q : i + 0 ≡ i = omega arith in ap (λ (n : ℕ). bit n m) q ∙ e)

pub written_alike : (columns : ℕ) {x y : Row} → Alike x y → normal columns x ≡ normal columns y
unfolding normal live_image value_at
written_alike columns {x} {y} a =
    let many : length (drop 1 x) ≡ length (drop 1 y) = omega (arith, length-drop 1 x, length-drop 1 y, a.long, a.as_long) in
    ap₂ (λ (k : ℕ) (vs : List ℤ). pos (256 + k % 2 ^ columns) ∷ vs) a.mask
    (held_same (mask_of x) 0 (drop 1 x) (drop 1 y) many
    (λ j k e.
    let q : 0 + j ≡ j = omega arith in
    let r : 1 + j ≡ suc j = omega arith in
    let s : j < 8 = omega (arith, k, length-drop 1 x, a.long) in
    get_or-drop 1 x j 𝟘
    ∙ ap (λ (i : ℕ). get_or x i 𝟘) r
    ∙ a.values j s (ap (λ (n : ℕ). bit n (mask_of x)) (sym q) ∙ e)
    ∙ ap (λ (i : ℕ). get_or y i 𝟘) (sym r)
    ∙ sym (get_or-drop 1 y j 𝟘))
    ∙ ap (λ (m : ℕ). held m 0 (drop 1 y)) a.mask)

-- ---- a row with one column set

-- a cell set, and the row then written, are the row with its column set
pub row_set_is : (columns c : ℕ) (null : Bool) (v : ℤ) (x : Row) {u : ℤ} {y z : Row} → u ≡ v → y ≡ set_cell c null u x → z ≡ normal columns y → z ≡ row_set columns c null v x
unfolding row_set
row_set_is columns c null v x d e f = f ∙ ap (normal columns) (e ∙ ap (λ (u : ℤ). set_cell c null u x) d)

pub row_option : (columns : ℕ) → columns ≤ 8 → (c : ℕ) → c < 8 → (value : Option ℤ) (x : Row) → length x ≡ 9 → (y : Row) {z : Row} → MatchOption value (y ≡ set_cell c true 𝟘 x) (λ v. y ≡ set_cell c false v x)
    → z ≡ live_image columns (nat_of (get_or y 0 𝟘)) (drop 1 y) → MatchOption value ((u : ℤ) → z ≡ row_set columns c true u x) (λ v. z ≡ row_set columns c false v x)
unfolding row_set
row_option columns few c low None x l y e f =
    λ u. f ∙ live_normal columns _ few (ap length e ∙ cell_long c low true 𝟘 x l) ∙ ap (normal columns) e ∙ written_alike columns (null_alike c low 𝟘 u x l)
row_option columns few c low (Some v) x l y e f = f ∙ live_normal columns _ few (ap length e ∙ cell_long c low false v x l) ∙ ap (normal columns) e
