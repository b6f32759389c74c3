-- The child rows that a write strands are those that the old row's actions take and that no other parent row serves.
-- Assumes nothing.
use mathlib.Core.Path.{◌≡◌, refl, sym, ◌∙◌, ap}
use mathlib.Core.Bool.{Bool, true, false, not, ◌&&◌, false≢true, and-false, and-true, and_comm}
use mathlib.Core.List.{List, [], ◌∷◌}
use Prim.Native.Nat.{ℕ}
use borrow.Author.Tests.{not-false}
use lib.Dec.{eqb}
use lib.ListN.{length, get_or}
use Rattle.schema.specs.Records.{Window, ForeignKey, child_key, parent_key}
use Rattle.schema.proofs.RangeLaws.{and_right}
use Rattle.rules.specs.Lists.{any, count, except}
use Rattle.rules.specs.Rows.{Row, Tables, live, null_at}
use Rattle.rules.specs.Keys.{full_key, half_key, maps_to, due, serves, takes, same_parent_key, fires}
use Rattle.rules.specs.Change.{clashes}
use Rattle.bridge.proofs.CountLaws.{any_less, count_none}
use Rattle.bridge.proofs.Tests.{fails}
use Rattle.bridge.proofs.MapLaws.{parent_full, served_same, served_twin, served_clashes}
use Rattle.bridge.proofs.NullKeys.{mapped_due, half_unserved}
use Rattle.bridge.proofs.BrokenKeys.{broken_due, broken_still}
use Rattle.moves.specs.Movement.{pick, except_if, unserved, stranded, stranded_rows}

-- ---- tests in another order

-- where m makes d and l the same
swap : (d l n m u : Bool) → (m ≡ true → d ≡ l) → d && ((n && m) && u) ≡ n && ((l && m) && u)
swap d l true true u h = ap (λ b. b && u) (h refl ∙ sym (and-true l))
swap d l false true u h = and-false d
swap d l n false u h = ap (λ b. d && (b && u)) (and-false n) ∙ and-false d ∙ sym (ap (λ b. n && (b && u)) (and-false l) ∙ and-false n)

-- a test that m turns into another
turned : (l m u g : Bool) → (m ≡ true → u ≡ g) → (l && m) && u ≡ (l && m) && g
turned l true u g h = ap (λ b. (l && true) && b) (h refl)
turned l false u g h = ap (λ b. b && u) (and-false l) ∙ sym (ap (λ b. b && g) (and-false l))

count_given : (b : Bool) (p : Row → Bool) (xs : List Row) → count (λ c. b && p c) xs ≡ pick b (count p xs)
unfolding pick
count_given true p xs = refl
count_given false p xs = count_none (λ c. false) (λ c. refl) xs

-- a half-filled child row is not stranded where x becomes y; nor is it mended, for what that mends is what y, becoming x, strands
pub half_stays : (k : ForeignKey) → length k.child_columns ≡ length k.parent_columns → (x y : Row) (others : List Row) (c : Row) → half_key (child_key k) c ≡ true → stranded k x y others c ≡ false
unfolding stranded
half_stays k e x y others c h = ap (λ b. due k c && (b && unserved k y others c)) (half_unserved k e c h x) ∙ and-false (due k c)

-- ---- one foreign key, its columns as many on both sides
module _ (k : ForeignKey) (same_count : length k.child_columns ≡ length k.parent_columns) (x y : Row) (others : List Row) where
  -- child rows that x's actions take and that then have no parent
  abbrev left : Row → Bool
  left c = takes k x c && unserved k y others c

  -- of a key that is not broken they are those that are stranded, where x is live
  stranded_left : k.broken ≡ false → (c : Row) → stranded k x y others c ≡ live x && left c
  unfolding stranded serves takes
  stranded_left whole c = swap (due k c) (live c) (live x) (maps_to k c x) (unserved k y others c) (mapped_due k same_count c whole x)

  -- none, where x has NULL in its key
  left_null : any (null_at x) (parent_key k) ≡ true → (c : Row) → left c ≡ false
  unfolding takes
  left_null h c = by (maps_to k c x) refl
    where
      by : (m : Bool) → maps_to k c x ≡ m → (live c && m) && unserved k y others c ≡ false
      by true e = absurd (false≢true (sym (parent_full k same_count x c e) ∙ h))
      by false e = ap (λ b. b && unserved k y others c) (and-false (live c))

  -- none, where y has x's key
  left_same : not (same_parent_key k x y) ≡ false → (c : Row) → left c ≡ false
  unfolding takes unserved
  left_same h c = by (maps_to k c x) refl
    where
      by : (m : Bool) → maps_to k c x ≡ m → (live c && m) && (not (serves k c y) && not (any (serves k c) others)) ≡ false
      by true e = ap (λ b. (live c && true) && (not b && not (any (serves k c) others))) (served_same k same_count x c e y (not-false (same_parent_key k x y) h)) ∙ and-false (live c && true)
      by false e = ap (λ b. b && (not (serves k c y) && not (any (serves k c) others))) (and-false (live c))

  -- where no other row's window clashes with x's, no other row serves a row that x's actions take
  left_clear : (w : Window) → k.windows ≡ w ∷ [] → any (clashes k x w) others ≡ false → (c : Row) → left c ≡ takes k x c && not (serves k c y)
  unfolding takes unserved
  left_clear w one h c =
      turned (live c) (maps_to k c x) (not (serves k c y) && not (any (serves k c) others)) (not (serves k c y))
      (λ e. ap (λ b. not (serves k c y) && not b) (any_less (serves k c) (clashes k x w) (served_clashes k same_count w one x c e) others h) ∙ and-true (not (serves k c y)))

  -- without a window: all of them, or none where another row has x's key
  left_twin : k.windows ≡ [] → (c : Row) → left c ≡ (not (same_parent_key k x y) && not (any (same_parent_key k x) others)) && takes k x c
  unfolding takes unserved
  left_twin none c =
      turned (live c) (maps_to k c x) (not (serves k c y) && not (any (serves k c) others)) (not (same_parent_key k x y) && not (any (same_parent_key k x) others))
      (λ e i. not (served_twin k same_count x c e none y i) && not (any (λ p. served_twin k same_count x c e none p i) others))
      ∙ and_comm (live c && maps_to k c x) (not (same_parent_key k x y) && not (any (same_parent_key k x) others))

pub pick_zero : (b : Bool) → pick b 0 ≡ 0
unfolding pick
pick_zero true = refl
pick_zero false = refl

picks : (p l m s : Bool) (n : ℕ) → (m ≡ true → n ≡ 0) → (s ≡ false → n ≡ 0) → pick p (pick l n) ≡ pick (p && ((l && not m) && s)) n
unfolding pick
picks false l m s n h g = refl
picks true false m s n h g = refl
picks true true true s n h g = h refl
picks true true false true n h g = refl
picks true true false false n h g = g refl

-- ---- in tables
module _ (k : ForeignKey) (t r : ℕ) (x y : Row) (tabs : Tables) where
  abbrev others_of : List Row
  others_of = except r (get_or tabs k.parent [])

  abbrev children_of_lem : List Row
  children_of_lem = except_if (eqb k.child t) r (get_or tabs k.child [])

  -- a broken key's child rows need no parent
  pub stranded_broken : k.broken ≡ true → stranded_rows k t r x y tabs ≡ 0
  unfolding stranded_rows stranded
  stranded_broken u =
      ap (pick (eqb k.parent t))
      (count_none (stranded k x y others_of) (λ c. ap (λ b. b && (serves k c x && unserved k y others_of c)) (broken_due k u c)) children_of_lem)
      ∙ pick_zero (eqb k.parent t)

  module _ (same_count : length k.child_columns ≡ length k.parent_columns) where
    abbrev left_rows : ℕ
    left_rows = count (λ c. takes k x c && unserved k y others_of c) children_of_lem

    scan_whole : k.broken ≡ false → stranded_rows k t r x y tabs ≡ pick (fires y t x k) left_rows
    unfolding stranded_rows fires full_key
    scan_whole u =
        ap (pick (eqb k.parent t))
        ((λ i. count (λ c. stranded_left k same_count x y others_of u c i) children_of_lem)
        ∙ count_given (live x) (λ c. takes k x c && unserved k y others_of c) children_of_lem)
        ∙ picks (eqb k.parent t) (live x) (any (null_at x) (parent_key k)) (not (same_parent_key k x y)) left_rows
        (λ h. count_none (λ c. takes k x c && unserved k y others_of c) (left_null k same_count x y others_of h) children_of_lem)
        (λ h. count_none (λ c. takes k x c && unserved k y others_of c) (left_same k same_count x y others_of h) children_of_lem)
        ∙ ap (λ b. pick (eqb k.parent t && (not b && ((live x && not (any (null_at x) (parent_key k))) && not (same_parent_key k x y)))) left_rows) (sym u)

    -- child row by child row: those that the old row's actions take and that no other parent row serves. Whatever the tables: windows may overlap, and two parent rows serve one child
    pub stranded_scan :
        stranded_rows k t r x y tabs
        ≡ pick (fires y t x k) (count (λ c. takes k x c && unserved k y (except r (get_or tabs k.parent [])) c) (except_if (eqb k.child t) r (get_or tabs k.child [])))
    unfolding pick
    stranded_scan = go k.broken refl
      where
        go : (b : Bool) → k.broken ≡ b → stranded_rows k t r x y tabs ≡ pick (fires y t x k) left_rows
        go false u = scan_whole u
        go true u = stranded_broken u ∙ sym (ap (λ b. pick b left_rows) (broken_still k u y t x))

    -- where no other parent row's window clashes with the old row's, no other parent row is looked for
    pub stranded_clear : (w : Window) → k.windows ≡ w ∷ [] → any (clashes k x w) (except r (get_or tabs k.parent [])) ≡ false
        → stranded_rows k t r x y tabs
        ≡ pick (fires y t x k) (count (λ c. takes k x c && not (serves k c y)) (except_if (eqb k.child t) r (get_or tabs k.child [])))
    stranded_clear w one h = stranded_scan ∙ ap (pick (fires y t x k)) (λ i. count (λ c. left_clear k same_count x y others_of w one h c i) children_of_lem)

    fires_changed : fires y t x k ≡ true → not (same_parent_key k x y) ≡ true
    unfolding fires
    fires_changed h =
        let whole = and_right (eqb k.parent t) (not k.broken && (full_key (parent_key k) x && not (same_parent_key k x y))) h in
        let full = and_right (not k.broken) (full_key (parent_key k) x && not (same_parent_key k x y)) whole in
        and_right (full_key (parent_key k) x) (not (same_parent_key k x y)) full

    -- without a window another parent row with the old key is looked for once
    pub stranded_rows_lem : k.windows ≡ [] → stranded_rows k t r x y tabs ≡ pick (fires y t x k && not (any (same_parent_key k x) (except r (get_or tabs k.parent [])))) (count (takes k x) (except_if (eqb k.child t) r (get_or tabs k.child [])))
    unfolding pick
    stranded_rows_lem none =
        stranded_scan
        ∙ ap (pick (fires y t x k))
        ((λ i. count (λ c. left_twin k same_count x y others_of none c i) children_of_lem)
        ∙ count_given (not (same_parent_key k x y) && not (any (same_parent_key k x) others_of)) (takes k x) children_of_lem)
        ∙ fired (fires y t x k) (not (same_parent_key k x y)) (not (any (same_parent_key k x) others_of)) (count (takes k x) children_of_lem) fires_changed
      where
        fired : (f s o : Bool) (n : ℕ) → (f ≡ true → s ≡ true) → pick f (pick (s && o) n) ≡ pick (f && o) n
        fired true s o n h = ap (λ b. pick true (pick (b && o) n)) (h refl)
        fired false s o n h = refl

    -- and a row that the actions take does not map to the new row: RESTRICT refuses at the first
    pub restrict_first : k.windows ≡ [] → fires y t x k ≡ true → (c : Row) → takes k x c ≡ true → serves k c y ≡ false
    unfolding takes
    restrict_first none f c h =
        served_twin k same_count x c (and_right (live c) (maps_to k c x) h) none y ∙ fails (same_parent_key k x y) (fires_changed f)
