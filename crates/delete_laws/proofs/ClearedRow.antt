-- SET NULL on delete: the written row counts less in the sum, and no parent key of it changes.
-- Assumes nothing.
use mathlib.Core.Path.{◌≡◌, refl, sym, ap, ap₂, ◌∙◌, subst}
use mathlib.Core.Bool.{Bool, true, false, not, ◌&&◌, true≢false}
use mathlib.Core.List.{List, [], ◌∷◌, ◌++◌, map}
use mathlib.Core.Logic.{inl, inr}
use Prim.Native.Nat.{ℕ, suc, ◌<◌, ◌≤◌}
use native.Mathlib.Omega.{arith}
use borrow.Author.Tests.{eq-eqb, eqb-true, ltb-true, not-true}
use lib.Dec.{eqb, ltb}
use lib.ListN.{length, get_or, drop}
use Rattle.schema.specs.declared.Action.TheVariants.{SetNull}
use Rattle.schema.specs.Ranges.{all}
use Rattle.schema.specs.Records.{Window, ForeignKey, Schema, table_of, child_key, unique_columns, parent_key}
use Rattle.schema.specs.ParentKey.{Mem}
use Rattle.schema.proofs.RangeLaws.{and_left, and_right}
use Rattle.rules.specs.Lists.{any, padded}
use Rattle.rules.specs.Rows.{Row, overwrite, live, null_at, value_at}
use Rattle.rules.specs.Keys.{same_cell, same_key, full_key, same_window, maps_to, same_parent, same_parent_key, fires}
use Rattle.rules.specs.Change.{refilled, child_image}
use Rattle.rules.specs.DeleteBound.{is_set_null, clears, clearable, row_bound, bounded}
use Rattle.bridge.proofs.Tests.{and_both, all_cons, fails}
use Rattle.bridge.proofs.KeyLaws.{value_self, key_first, cell_filled, get_padded}
use Rattle.bridge.proofs.MapLaws.{pairs_equal}
use Rattle.bridge.proofs.Members.{any_mem, all_mem, none_mem, mem_left, mem_right, mem_map}
use Rattle.bridge.proofs.RowImages.{over_get, live_long, live_state_lem, null_state}
use Rattle.delete_laws.proofs.KeyShapes.{KeyShape, Shapes, apart}
use Rattle.delete_laws.proofs.ClearedColumns.{null_kept, null_first, null_beside, value_beside, normal_live, normal_null, normal_value}
use Rattle.delete_laws.proofs.BoundLaws.{count_less, live_part}

-- ---- keys, column by column

module _ (x y : Row) where
  -- rows equal in each column have the same key
  same_key_lem : (fs : List Bool) (cs : List ℕ) → ((c : ℕ) → Mem c cs → (f : Bool) → same_cell f x y c c ≡ true) → same_key fs cs cs x y ≡ true
  unfolding same_key Mem
  same_key_lem fs [] h = refl
  same_key_lem fs (c ∷ cs) h = rw (h c (inl refl) (get_or fs 0 false), same_key) (same_key_lem (drop 1 fs) cs (λ d m f. h d (inr m) f))

  same_windows : (ws : List Window) → ((w : Window) → Mem w ws → same_window x y w ≡ true) → all (same_window x y) ws ≡ true
  unfolding all Mem
  same_windows [] h = refl
  same_windows (w ∷ ws) h = all_cons (same_window x y) w ws (h w (inl refl)) (same_windows ws (λ v m. h v (inr m)))

-- cells of the same value that are not NULL
cell_same : (f : Bool) (x y : Row) (c : ℕ) → value_at x c ≡ value_at y c → null_at x c ≡ false → null_at y c ≡ false → same_cell f x y c c ≡ true
unfolding same_cell
cell_same f x y c v e g = rw (v, e, g) (and_both (value_self f (value_at y c)) refl)

-- an image of a row that has words has words
pub padded_long : (x : Row) → 0 < length x → 0 < length (padded 9 x)
padded_long [] h = absurd (omega arith)
padded_long (w ∷ x) h = omega arith

module _ {s : Schema} (shapes : Shapes s) (bound : bounded s ≡ true) (k : ForeignKey) (there : Mem k s.keys) (sets : k.on_delete ≡ SetNull) (parent : Row) where
  abbrev t : ℕ
  t = k.child

  abbrev C : ℕ
  C = (table_of s k.child).columns

  shape : KeyShape s k
  shape = shapes k there

  few : (table_of s k.child).columns ≤ 8
  few = shape.narrow

  -- x is the row's image
  module _ (x : Row) (long : 0 < length x) where
    y : Row
    y = refilled SetNull (table_of s k.child) parent k.child_columns k.parent_columns x

    image_null : (c : ℕ) → c < (table_of s k.child).columns → null_at (child_image SetNull s k parent x) c ≡ null_at y c
    unfolding child_image y
    image_null c h = normal_null C few y c h

    image_live : live (child_image SetNull s k parent x) ≡ true
    unfolding child_image y
    image_live = normal_live C few y

    -- ---- no parent key changes

    module _ (p : ForeignKey) (listed : Mem p s.keys) (whole : p.broken ≡ false) (own : p.parent ≡ k.child) (full : any (null_at x) (parent_key p) ≡ false) where
      outside : (c : ℕ) → Mem c (parent_key p) → Mem c k.child_columns → ⊥
      unfolding child_key
      outside c m n = apart s bound k there sets p listed whole own c (mem_left c k.child_columns (map (λ w. w.day) k.windows) n) m

      kept_cell : (c : ℕ) → Mem c (parent_key p) → (f : Bool) → same_cell f (child_image SetNull s k parent x) x c c ≡ true
      unfolding child_image y
      kept_cell c m f =
          let e : null_at x c ≡ false = none_mem c (null_at x) (parent_key p) full m in
          let l : c < C = ltb-true c C (subst (λ (i : ℕ). ltb c (table_of s i).columns ≡ true) own (all_mem c (λ c. ltb c (table_of s p.parent).columns) (parent_key p) ((shapes p listed).parent_in whole) m)) in
          let n : null_at y c ≡ null_at x c = null_beside (table_of s k.child) parent k.child_columns k.parent_columns x long c (omega (arith, few)) (outside c m) in
          let v : value_at y c ≡ value_at x c = value_beside (table_of s k.child) parent k.child_columns k.parent_columns x long c (outside c m) in
          cell_same f (child_image SetNull s k parent x) x c (normal_value C few y c l (n ∙ e) ∙ v) (image_null c l ∙ n ∙ e) e

      abbrev firsts : List ℕ
      firsts = map (λ w. w.first) p.windows

      abbrev ends : List ℕ
      ends = map (λ w. suc w.first) p.windows

      kept_pair : (c : ℕ) → Mem c p.parent_columns → (f : Bool) → same_cell f (child_image SetNull s k parent x) x c c ≡ true
      unfolding parent_key unique_columns
      kept_pair c m = kept_cell c (mem_left c (p.parent_columns ++ firsts) ends (mem_left c p.parent_columns firsts m))

      kept_window : (w : Window) → Mem w p.windows → same_window (child_image SetNull s k parent x) x w ≡ true
      unfolding same_window parent_key unique_columns
      kept_window w m =
          and_both
          (kept_cell w.first (mem_left w.first (p.parent_columns ++ firsts) ends (mem_right w.first p.parent_columns firsts (mem_map w (λ w. w.first) p.windows m))) false)
          (kept_cell (suc w.first) (mem_right (suc w.first) (p.parent_columns ++ firsts) ends (mem_map w (λ w. suc w.first) p.windows m)) false)

      kept_key : same_parent_key p x (child_image SetNull s k parent x) ≡ true
      unfolding same_parent_key same_parent
      kept_key =
          and_both
          (and_both image_live (same_key_lem (child_image SetNull s k parent x) x p.folds p.parent_columns kept_pair))
          (same_windows (child_image SetNull s k parent x) x p.windows kept_window)

    -- so no actions follow
    pub never_fires : (p : ForeignKey) → Mem p s.keys → fires (child_image SetNull s k parent x) k.child x p ≡ false
    unfolding fires full_key
    never_fires p m = by (eqb p.parent t) p.broken (live x) (any (null_at x) (parent_key p)) refl refl refl
      where
        by : (a b l n : Bool) → eqb p.parent t ≡ a → p.broken ≡ b → any (null_at x) (parent_key p) ≡ n
            → a && (not b && ((l && not n) && not (same_parent_key p x (child_image SetNull s k parent x)))) ≡ false
        by false b l n e g h = refl
        by true true l n e g h = refl
        by true false false n e g h = refl
        by true false true true e g h = refl
        by true false true false e g h = rw (kept_key p m g (eqb-true p.parent t e) h) refl

  -- ---- a column that counted no longer does

  module _ (x old : Row) (alive : live x ≡ true) (taken : maps_to k x old ≡ true) where
    abbrev image : Row
    image = child_image SetNull s k parent (padded 9 x)

    abbrev z : Row
    z = overwrite x (child_image SetNull s k parent (padded 9 x))

    long : 0 < length (padded 9 x)
    long = padded_long x (live_long x alive)

    over_live : live (overwrite x (child_image SetNull s k parent (padded 9 x))) ≡ true
    over_live = live_state_lem z image (over_get x image 0 (live_long x alive)) ∙ image_live (padded 9 x) long

    over_null : (c : ℕ) → c < (table_of s k.child).columns → null_at (overwrite x (child_image SetNull s k parent (padded 9 x))) c ≡ null_at (y (padded 9 x) long) c
    over_null c h = null_state z image (over_get x image 0 (live_long x alive)) c ∙ image_null (padded 9 x) long c h

    same_null : (c : ℕ) → null_at (padded 9 x) c ≡ null_at x c
    same_null c = null_state (padded 9 x) x (get_padded 9 x 0) c

    stays : (c : ℕ) → c < (table_of s k.child).columns → clearable s k.child (overwrite x (child_image SetNull s k parent (padded 9 x))) c ≡ true → clearable s k.child x c ≡ true
    unfolding clearable y
    stays c h e = and_both (by (null_at x c) refl) (and_right (not (null_at z c)) _ e)
      where
        full : null_at z c ≡ false
        full = not-true (null_at z c) (and_left (not (null_at z c)) _ e)

        by : (b : Bool) → null_at x c ≡ b → not b ≡ true
        by true q =
            absurd (true≢false
            (sym (over_null c h ∙ null_kept (table_of s k.child) parent k.child_columns k.parent_columns (padded 9 x) long c (omega (arith, few)) (same_null c ∙ q)) ∙ full))
        by false q = refl

    falls_at : (cs ps : List ℕ) → k.child_columns ≡ cs → k.parent_columns ≡ ps → row_bound s k.child (overwrite x (child_image SetNull s k parent (padded 9 x))) < row_bound s k.child x
    unfolding Mem clearable clears is_set_null child_key y
    falls_at [] ps e f = absurd (omega (arith, shape.some, ap length e))
    falls_at (d ∷ cs) [] e f = absurd (omega (arith, shape.same, ap length e, ap length f))
    falls_at (d ∷ cs) (p ∷ ps) e f =
        omega (arith, live_part s t z over_live, live_part s t x alive, count_less (clearable s t z) (clearable s t x) C 0 (λ c l u q. stays c (omega arith) q) d (omega arith) (omega (arith, inside)) counted gone)
      where
        listed : Mem d (child_key k)
        listed = mem_left d k.child_columns (map (λ w. w.day) k.windows) (subst (Mem d) (sym e) (inl refl))

        inside : d < C
        inside = ltb-true d C (all_mem d (λ c. ltb c C) (child_key k) shape.child_in listed)

        full : null_at x d ≡ false
        full =
            fails (null_at x d)
            (cell_filled x old _ d p
            (key_first x old k.folds d p cs ps (ap₂ (λ (a b : List ℕ). same_key k.folds a b x old) (sym e) (sym f) ∙ pairs_equal k old x taken))).0

        counted : clearable s t x d ≡ true
        counted =
            and_both (ap not full)
            (any_mem k (clears t d) s.keys there
            (and_both (ap is_set_null sets) (and_both (eq-eqb t t refl) (any_mem d (eqb d) (child_key k) listed (eq-eqb d d refl)))))

        null : null_at z d ≡ true
        null =
            over_null d inside
            ∙ ap₂ (λ (a b : List ℕ). null_at (refilled SetNull (table_of s k.child) parent a b (padded 9 x)) d) e f
            ∙ null_first (table_of s k.child) parent d p cs ps (padded 9 x) long (omega (arith, few, inside))

        gone : clearable s t z d ≡ false
        gone = rw null refl

    pub counts_less : row_bound s k.child (overwrite x (child_image SetNull s k parent (padded 9 x))) < row_bound s k.child x
    counts_less = falls_at k.child_columns k.parent_columns refl refl
