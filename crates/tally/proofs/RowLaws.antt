-- A row written moves the orphans by what its old and its new words make.
-- Assumes nothing.
use mathlib.Core.Path.{◌≡◌, refl, sym, ap, ap₂, ◌∙◌}
use mathlib.Core.Bool.{Bool, true, false, not, ◌&&◌}
use mathlib.Core.List.{List, [], ◌∷◌, ◌++◌, map}
use Prim.Native.Nat.{ℕ, zero, suc, ◌+◌, ◌-◌, ◌≤◌, ◌<◌}
use native.Mathlib.Omega.{arith}
use lib.Dec.{eqb}
use lib.IntN.{ℤ, pos, nat_abs, ◌+ℤ◌, ◌-ℤ◌, +ℤ_assoc, +ℤ_comm, -ℤ-+ℤ_cancel}
use lib.ListN.{length, get_or, replicate, take, length-map}
use lib.Seq.{take_all}
use Rattle.schema.specs.Records.{ForeignKey, Schema, table_of}
use Rattle.schema.specs.Fields.{schema_of}
use Rattle.schema.proofs.SchemaLaws.{accepted_valid}
use Rattle.rules.specs.Lists.{𝟘, any, count, one, padded, plus, less, except}
use Rattle.rules.specs.Rows.{Row, Tables, row_at, put_row, overwrite, image}
use Rattle.rules.specs.Keys.{due, serves, orphan, orphans, counts}
use Rattle.rules.specs.Book.{Work, write}
use Rattle.bridge.specs.Fit.{work_of, Keeps}
use Rattle.bridge.specs.Ready.{Ready}
use Rattle.bridge.proofs.Counts.{length_counts_32}
use Rattle.bridge.proofs.CountLaws.{count_bound}
use Rattle.bridge.proofs.CountBounds.{rows_at, counts_in_range}
use Rattle.bridge.proofs.RowWords.{formed_fit, row_width, rows_length, overwrite_take}
use Rattle.bridge.proofs.Shapes.{Shaped, rows_short}
use Rattle.bridge.proofs.KeyLaws.{orphan_same, gives_same, get_padded}
use Rattle.sums.specs.Small.{Small}
use Rattle.sums.proofs.SumLaws.{length_less, length_plus}
use Rattle.sums.proofs.KeptSmall.{kept_small, range_all, less_small}
use Rattle.moves.specs.Movement.{pick, except_if, unserved, stranded, own_orphan, stranded_rows}
use Rattle.moves.specs.Tally.{ahead, Follows, Tallied, TalliedAt}
use Rattle.moves.proofs.Moved.{moved_counted, stranded_after}
use Rattle.moves.proofs.Telescope.{plus_zeros, less_zeros, less_turn, both_more}
use Rattle.rows.proofs.TableLaws.{columns_few}
use Rattle.row_orphans.specs.RowOrphans.{row_orphans, row_counts}

-- the row's old and new words move the orphans by what they make
row_moves : (t r : ℕ) (y : Row) (tabs : Tables) → r < length (get_or tabs t []) → (k : ForeignKey)
    → orphans tabs k + row_orphans k t r y (row_at t r tabs) (put_row t r y tabs) ≡ orphans (put_row t r y tabs) k + row_orphans k t r (row_at t r tabs) y tabs
unfolding row_orphans
row_moves t r y tabs h k =
    let after = stranded_after k t r (row_at t r tabs) y y tabs in
    omega (arith, moved_counted k t r y tabs h, after)

-- ---- images, which are rows with zeros after them
module _ (x : Row) where
  own_image : (k : ForeignKey) (t : ℕ) (tabs : Tables) → own_orphan k t (padded 9 x) tabs ≡ own_orphan k t x tabs
  unfolding own_orphan
  own_image k t tabs = ap (λ b. pick (eqb k.child t) (one b)) (orphan_same (padded 9 x) x (get_padded 9 x) k (get_or tabs k.parent []))

  gives_image : (k : ForeignKey) (c : Row) → serves k c (padded 9 x) ≡ serves k c x
  gives_image k c = gives_same (padded 9 x) x (get_padded 9 x) k c

module _ (x y : Row) (k : ForeignKey) (t r : ℕ) (tabs : Tables) where
  stranded_image : stranded_rows k t r (padded 9 x) (padded 9 y) tabs ≡ stranded_rows k t r x y tabs
  unfolding stranded_rows stranded unserved
  stranded_image =
      λ i. pick (eqb k.parent t)
      (count (λ c. due k c && (gives_image x k c i && (not (gives_image y k c i) && not (any (serves k c) (except r (get_or tabs k.parent []))))))
      (except_if (eqb k.child t) r (get_or tabs k.child [])))

row_image : (x y : Row) (k : ForeignKey) (t r : ℕ) (tabs : Tables) → row_orphans k t r (padded 9 x) (padded 9 y) tabs ≡ row_orphans k t r x y tabs
unfolding row_orphans
row_image x y k t r tabs = ap₂ (λ m n. m + n) (stranded_image y x k t r tabs) (own_image x k t tabs)

-- ---- the tally
regroup : (x u v : ℤ) → (x -ℤ u +ℤ v) +ℤ u ≡ x +ℤ v
regroup x u v =
    +ℤ_assoc (x -ℤ u) v u
    ∙ ap (λ (z : ℤ). (x -ℤ u) +ℤ z) (+ℤ_comm v u)
    ∙ sym (+ℤ_assoc (x -ℤ u) u v)
    ∙ ap (λ (z : ℤ). z +ℤ v) (-ℤ-+ℤ_cancel x u)

-- a count that moves from b to a, while u is taken from its tally x and v added
even_one : (b a u v : ℕ) (x : ℤ) → b + v ≡ a + u → pos a -ℤ (x -ℤ pos u +ℤ pos v) ≡ pos b -ℤ x
even_one b a u v x e =
    sym (both_more (pos a) (x -ℤ pos u +ℤ pos v) (pos u))
    ∙ ap₂ (λ (p q : ℤ). p -ℤ q) (ap pos (sym e)) (regroup x (pos u) (pos v))
    ∙ both_more (pos b) x (pos v)

module _ (n : ℕ) where
  abbrev listed : (ForeignKey → ℕ) → List ForeignKey → List ℤ
  listed f ks = map (λ k. pos (f k)) ks ++ replicate n 𝟘

  even_all : (b a u v : ForeignKey → ℕ) → ((k : ForeignKey) → b k + v k ≡ a k + u k) → (ks : List ForeignKey) (m : List ℤ) → length m ≡ length ks + n
      → less (listed a ks) (plus (less m (listed u ks)) (listed v ks)) ≡ less (listed b ks) m
  unfolding less plus
  even_all b a u v e [] m l = rw (less_zeros n m, plus_zeros n m)
  even_all b a u v e (k ∷ ks) [] l = absurd (omega arith)
  even_all b a u v e (k ∷ ks) (x ∷ m) l = ap₂ (λ (z : ℤ) (zs : List ℤ). z ∷ zs) (even_one (b k) (a k) (u k) (v k) x (e k)) (even_all b a u v e ks m (omega arith))

module _ (s : Schema) (few : length s.keys ≤ 32) (t : ℕ) where
  row_even : (r : ℕ) (y : Row) (tabs : Tables) → r < length (get_or tabs t []) → (m : List ℤ) → length m ≡ 32
      → less (counts s (put_row t r y tabs)) (plus (less m (row_counts s t r (padded 9 (row_at t r tabs)) (padded 9 y) tabs)) (row_counts s t r (padded 9 y) (padded 9 (row_at t r tabs)) (put_row t r y tabs)))
      ≡ less (counts s tabs) m
  unfolding counts row_counts
  row_even r y tabs h m l =
      simp length-map
      (even_all (32 - length s.keys) (orphans tabs) (orphans (put_row t r y tabs))
      (λ k. row_orphans k t r (padded 9 (row_at t r tabs)) (padded 9 y) tabs)
      (λ k. row_orphans k t r (padded 9 y) (padded 9 (row_at t r tabs)) (put_row t r y tabs))
      (λ k.
      let before = row_image (row_at t r tabs) y k t r tabs in
      let after = row_image y (row_at t r tabs) k t r (put_row t r y tabs) in
      omega (arith, row_moves t r y tabs h k, before, after))
      s.keys m (omega arith))

-- ---- bounds
few_except : (r : ℕ) (xs : List Row) → length (except r xs) ≤ length xs
unfolding except
few_except r [] = omega arith
few_except zero (x ∷ xs) = omega arith
few_except (suc r) (x ∷ xs) = let l = few_except r xs in omega arith

few_if : (b : Bool) (r : ℕ) (xs : List Row) → length (except_if b r xs) ≤ length xs
unfolding except_if
few_if true r xs = few_except r xs
few_if false r xs = omega arith

pick_less : (b : Bool) (n : ℕ) → pick b n ≤ n
unfolding pick
pick_less true n = omega arith
pick_less false n = omega arith

one_less : (b : Bool) → one b ≤ 1
unfolding one
one_less true = omega arith
one_less false = omega arith

row_less : (k : ForeignKey) (t r : ℕ) (x y : Row) (tabs : Tables) → row_orphans k t r x y tabs ≤ length (get_or tabs k.child []) + 1
unfolding row_orphans stranded_rows own_orphan
row_less k t r x y tabs =
    let children : List Row = get_or tabs k.child [] in
    let others : List Row = except r (get_or tabs k.parent []) in
    let rows : List Row = except_if (eqb k.child t) r children in
    let orphaned : Bool = orphan k (get_or tabs k.parent []) x in
    omega
    (arith, pick_less (eqb k.parent t) (count (stranded k y x others) rows), count_bound (stranded k y x others) rows, few_if (eqb k.child t) r children, pick_less (eqb k.child t) (one orphaned), one_less orphaned)

listed_small : (n m : ℕ) (f : ForeignKey → ℕ) → ((k : ForeignKey) → f k ≤ m) → (ks : List ForeignKey) (i : ℕ) → nat_abs (get_or (listed n f ks) i 𝟘) ≤ m
listed_small zero m f h [] i = omega arith
listed_small (suc n) m f h [] zero = omega arith
listed_small (suc n) m f h [] (suc i) = listed_small n m f h [] i
listed_small n m f h (k ∷ ks) zero = h k
listed_small n m f h (k ∷ ks) (suc i) = listed_small n m f h ks i

module _ {b : List ℕ} {a : List ℤ} (h : Ready b a) where
  counts_small : Small 1024 (counts (schema_of b) (work_of (schema_of b) a).tabs)
  unfolding work_of
  counts_small =
      kept_small (accepted_valid b h.accepted) (counts (schema_of b) (work_of (schema_of b) a).tabs)
      (counts_in_range (schema_of b) (work_of (schema_of b) a).tabs (formed_fit h.fit).shaped)

  pub row_small : (t r : ℕ) (x y : Row) → Small 2048 (row_counts (schema_of b) t r x y (work_of (schema_of b) a).tabs)
  unfolding row_counts work_of Shaped
  row_small t r x y =
      let s : Schema = schema_of b in
      let tabs : Tables = (work_of s a).tabs in
      record {
        small =
            rw (length-map s.keys (λ k. pos (row_orphans k t r x y tabs)))
            (listed_small (32 - length s.keys) 2048 (λ k. row_orphans k t r x y tabs)
            (λ k.
            let rows = rows_at s.tables tabs (formed_fit h.fit).shaped k.child in
            let short = rows_short (accepted_valid b h.accepted) k.child in
            omega (arith, row_less k t r x y tabs, rows, short))
            s.keys);
      }

-- a tally is a count less a count
pub tally_small : {b : List ℕ} {m a : List ℤ} → Tallied b m a → Small 2048 m
unfolding ahead
tally_small {b} {m} {a} h =
    let c : List ℤ = counts (schema_of b) (work_of (schema_of b) a).tabs in
    let l : length c ≡ 32 = length_counts_32 (schema_of b) (accepted_valid b h.ready.accepted).few (work_of (schema_of b) a).tabs in
    rw (less_turn c m (less c m) (h.size ∙ sym l) refl)
    (less_small c (less c m) (length_less c m) (counts_small h.ready) (range_all (less c m) h.small) (omega arith))

-- ---- a row written

-- the image that is cut to the row's width is that of the row written
cut_image : (s : Schema) (a image : List ℤ) (t r : ℕ) → Shaped s (work_of s a).tabs → r < (table_of s t).rows → (table_of s t).columns ≤ 8 → length image ≡ 9
    → padded 9 (take (suc (table_of s t).columns) image) ≡ padded 9 (overwrite (row_at t r (work_of s a).tabs) image)
cut_image s a image t r sh l few nine =
    let row : Row = row_at t r (work_of s a).tabs in
    let width : length row ≡ suc (table_of s t).columns = row_width s (work_of s a).tabs sh t r l in
    ap (padded 9) (sym (overwrite_take row image (omega (arith, width, few, nine)) ∙ ap (λ n. take n image) width))

-- an image cut to c columns
pub cut_is : (new : Row) {x : Row} {c d : ℕ} → length new ≡ 9 → x ≡ padded 9 (take (c + 1) (take 9 new)) → c ≡ d → x ≡ padded 9 (take (suc d) new)
cut_is new {x} {c} {d} nine e f =
    let all : take 9 new ≡ new = take_all 9 new (omega (arith, nine)) in
    let next : c + 1 ≡ suc d = omega (arith, f) in
    e ∙ ap₂ (λ n l. padded 9 (take n l)) next all

ready_shaped : {b : List ℕ} {a : List ℤ} → Ready b a → Shaped (schema_of b) (work_of (schema_of b) a).tabs
unfolding work_of
ready_shaped h = (formed_fit h.fit).shaped

pub follows_written : {b : List ℕ} {m a m' a' u v old cut : List ℤ} {t r : ℕ} (new : Row) → TalliedAt b m a t r → length new ≡ 9
    → work_of (schema_of b) a' ≡ write t r new (work_of (schema_of b) a) → Keeps (schema_of b) a a'
    → old ≡ image t r (work_of (schema_of b) a).tabs → cut ≡ padded 9 (take (suc (table_of (schema_of b) t).columns) new)
    → u ≡ row_counts (schema_of b) t r old cut (work_of (schema_of b) a).tabs → v ≡ row_counts (schema_of b) t r cut old (work_of (schema_of b) a').tabs → m' ≡ plus (less m u) v
    → Follows (schema_of b) m a m' a'
unfolding ahead image
follows_written {b} {m} {a} {m'} {a'} {u} {v} {old} {cut} {t} {r} new h nine w k eo ec eu ev em =
    let s : Schema = schema_of b in
    let tabs : Tables = (work_of s a).tabs in
    let y : Row = overwrite (row_at t r tabs) new in
    let ready = h.tallied.ready in
    let sh : Shaped s tabs = ready_shaped ready in
    let few : length s.keys ≤ 32 = (accepted_valid b ready.accepted).few in
    let columns : (table_of s t).columns ≤ 8 = columns_few b ready.accepted t h.table in
    let e : (work_of s a').tabs ≡ put_row t r y tabs = ap (λ (v : Work). v.tabs) w in
    let c : cut ≡ padded 9 y = ec ∙ cut_image s a new t r sh h.row columns nine in
    let rows : r < length (get_or tabs t []) = omega (arith, rows_length s tabs sh t, h.row) in
    record {
      keeps = k;
      even = rw (em, eu, ev, e, eo, c) (row_even s few t r y tabs rows m h.tallied.size);
      size = ap length em ∙ length_plus (less m u) v ∙ length_less m u;
    }
