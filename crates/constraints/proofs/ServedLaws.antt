-- The parent rows that serve a child row, as a scan finds them, and whether a row is an orphan.
-- Assumes nothing.
use mathlib.Core.Path.{◌≡◌, sym, ap, ◌∙◌}
use mathlib.Core.Bool.{Bool, true, false, not, ◌&&◌}
use mathlib.Core.List.{List, []}
use Prim.Native.Nat.{ℕ, ◌≤◌}
use native.Mathlib.Omega.{arith}
use lib.ListN.{length, take}
use lib.Seq.{length-take-le}
use Rattle.schema.specs.Records.{ForeignKey, child_key}
use Rattle.schema.proofs.FieldLaws.{pairs_some}
use Rattle.rules.specs.Lists.{any}
use Rattle.rules.specs.Rows.{Row, live}
use Rattle.rules.specs.Keys.{full_key, half_due, serves, orphan}
use Rattle.bridge.proofs.KeyLaws.{key_sym}
use Rattle.bridge.proofs.MapLaws.{child_plain, maps_plain}
use Rattle.bridge.proofs.NullKeys.{whole_due, half_orphan}
use Rattle.rows.specs.KeyColumns.{PairColumns}
use Rattle.rows.specs.Sought.{with_key}

-- a foreign key has a pair of columns
pub some_columns : (b : List ℕ) (k n : ℕ) (cs ps : List ℕ) → PairColumns b k n cs ps → 1 ≤ n
some_columns b k n cs ps c =
    let size : length (take n cs) ≡ n = length-take-le n cs (omega (arith, c.child_within.few, c.child_within.size)) in
    omega (arith, size, ap length c.child_is, pairs_some b c.parents.whole_key.accepted k c.parents.whole_key.key)

-- a foreign key without a window
module _ (k : ForeignKey) (plain : k.windows ≡ []) {cs : List ℕ} (e : cs ≡ k.child_columns) (x : Row) where
  -- the parent rows with its key
  module _ {ps : List ℕ} (f : ps ≡ k.parent_columns) {fs : List Bool} (g : fs ≡ k.folds) where
    with_key_serves : (y : Row) → with_key fs ps cs x y ≡ serves k x y
    unfolding with_key serves
    with_key_serves y =
        rw (e, f, g)
        (ap (λ (b : Bool). live y && b) (key_sym y x k.folds k.parent_columns k.child_columns ∙ sym (maps_plain k plain x y)))

    pub any_serving : {ys zs : List Row} → ys ≡ zs → any (with_key fs ps cs x) ys ≡ any (serves k x) zs
    any_serving {ys} {zs} h = (λ i. any (λ y. with_key_serves y i) ys) ∙ ap (any (serves k x)) h

  -- of a key that is not broken, a row with no NULL in its key is an orphan if nobody serves it; any other if it is half filled and the match is full
  module _ (whole : k.broken ≡ false) (ys : List Row) {full : Bool} (h : full ≡ full_key cs x) where
    key_is : cs ≡ child_key k
    key_is = e ∙ sym (child_plain k plain)

    full_is : full_key (child_key k) x ≡ full
    full_is = sym (h ∙ ap (λ (ds : List ℕ). full_key ds x) key_is)

    pub orphan_half : length k.child_columns ≡ length k.parent_columns → full ≡ false → {half : Bool} → half ≡ half_due k.match cs x → half ≡ orphan k ys x
    orphan_half same t g = g ∙ ap (λ (ds : List ℕ). half_due k.match ds x) key_is ∙ sym (half_orphan k same x whole ys (full_is ∙ t))

    pub orphan_full : {served : Bool} → served ≡ any (serves k x) ys → full ≡ true → not served ≡ orphan k ys x
    unfolding orphan
    orphan_full g t = rw (whole_due k whole x, full_is ∙ t) (ap not g)
