-- One row write moves the orphans of each foreign key as the counts say: any tables, damaged ones and self-reference included.
-- Assumes nothing.
use mathlib.Core.Path.{◌≡◌, refl, sym, ◌∙◌, ap, ap₂, subst}
use mathlib.Core.Logic.{◌≢◌}
use mathlib.Core.Bool.{Bool, true, false, not, ◌&&◌, ◌||◌, false≢true}
use mathlib.Core.List.{List, [], ◌∷◌}
use Prim.Native.Nat.{ℕ, zero, suc, ◌+◌, ◌<◌}
use native.Mathlib.Omega.{arith}
use lib.Dec.{eqb, eqb→eq, eqb_refl}
use lib.IntN.{pos, ◌+ℤ◌, ◌-ℤ◌, +ℤ_assoc, -ℤ-+ℤ_cancel, +ℤ-neg_ℤ_cancel}
use lib.ListN.{length, get_or, set}
use lib.Seq.{get_or-set_same, get_or-set_other, lt-length-set}
use Rattle.schema.specs.Records.{ForeignKey}
use Rattle.rules.specs.Lists.{any, count, one, except}
use Rattle.rules.specs.Rows.{Row, Tables, row_at, put_row}
use Rattle.rules.specs.Keys.{due, serves, orphan, orphans}
use Rattle.bridge.proofs.Tests.{holds, passes}
use Rattle.bridge.proofs.CountLaws.{any_cons}
use Rattle.moves.specs.Movement.{pick, except_if, stranded, own_orphan, stranded_rows, movement}
use Rattle.moves.proofs.ExceptLaws.{any_except, count_except, except_set}
use Rattle.moves.proofs.Stranded.{stranded_count, stranded_same}

module _ (k : ForeignKey) where
  -- the parent at r in front
  front : (r : ℕ) (ps : List Row) (d : Row) → r < length ps → orphan k ps ≡ orphan k (get_or ps r d ∷ except r ps)
  unfolding orphan
  front r ps d h = λ i c. due k c && not (moved_up c i)
    where
      moved_up : (c : Row) → any (serves k c) ps ≡ any (serves k c) (get_or ps r d ∷ except r ps)
      moved_up c = any_except (serves k c) r ps d h ∙ sym (any_cons (serves k c) (get_or ps r d) (except r ps))

  module _ (r : ℕ) (y d : Row) where
    count_set : (p : Row → Bool) (cs : List Row) → r < length cs → count p (set cs r y) ≡ one (p y) + count p (except r cs)
    count_set p cs h =
        let l : r < length (set cs r y) = lt-length-set cs r y h in
        count_except p r (set cs r y) d l ∙ rw (get_or-set_same cs r y d h, except_set r cs y)

    front_set : (ps : List Row) → r < length ps → orphan k (set ps r y) ≡ orphan k (y ∷ except r ps)
    front_set ps h =
        let l : r < length (set ps r y) = lt-length-set ps r y h in
        front r (set ps r y) d l ∙ rw (get_or-set_same ps r y d h, except_set r ps y)

    stranded_set : (ps cs : List Row) → r < length ps
        → count (orphan k (set ps r y)) cs + count (stranded k y (get_or ps r d) (except r ps)) cs
        ≡ count (orphan k ps) cs + count (stranded k (get_or ps r d) y (except r ps)) cs
    stranded_set ps cs h = rw (front r ps d h, front_set ps h) (stranded_count k (get_or ps r d) y (except r ps) cs)

    pub as_child : (ps cs : List Row) → r < length cs
        → count (orphan k ps) (set cs r y) + (0 + one (orphan k ps (get_or cs r d)))
        ≡ count (orphan k ps) cs + (0 + one (orphan k ps y))
    as_child ps cs h = omega (arith, count_set (orphan k ps) cs h, count_except (orphan k ps) r cs d h)

    pub as_parent : (ps cs : List Row) → r < length ps
        → count (orphan k (set ps r y)) cs + (count (stranded k y (get_or ps r d) (except r ps)) cs + 0)
        ≡ count (orphan k ps) cs + (count (stranded k (get_or ps r d) y (except r ps)) cs + 0)
    as_parent ps cs h = omega (arith, stranded_set ps cs h)

    pub as_both : (ps : List Row) → r < length ps
        → count (orphan k (set ps r y)) (set ps r y)
        + (count (stranded k y (get_or ps r d) (except r ps)) (except r ps) + one (orphan k ps (get_or ps r d)))
        ≡ count (orphan k ps) ps
        + (count (stranded k (get_or ps r d) y (except r ps)) (except r ps) + one (orphan k (set ps r y) y))
    as_both ps h =
        omega
        (arith, stranded_set ps (except r ps) h, count_set (orphan k (set ps r y)) ps h, count_except (orphan k ps) r ps d h)

-- the written table, and any other
rows_same : (t r : ℕ) (y : Row) (tabs : Tables) → get_or (put_row t r y tabs) t [] ≡ set (get_or tabs t []) r y
unfolding put_row
rows_same t r y [] = refl
rows_same zero r y (x ∷ tabs) = refl
rows_same (suc t) r y (x ∷ tabs) = rows_same t r y tabs

rows_here : (a t r : ℕ) (y : Row) (tabs : Tables) → a ≡ t → get_or (put_row t r y tabs) a [] ≡ set (get_or tabs a []) r y
rows_here a t r y tabs e = subst (λ b. get_or (put_row t r y tabs) b [] ≡ set (get_or tabs b []) r y) (sym e) (rows_same t r y tabs)

row_here : (a t r : ℕ) (tabs : Tables) → a ≡ t → row_at t r tabs ≡ get_or (get_or tabs a []) r []
unfolding row_at
row_here a t r tabs e = ap (λ b. get_or (get_or tabs b []) r []) (sym e)

pub rows_other : (a t r : ℕ) (y : Row) (tabs : Tables) → a ≢ t → get_or (put_row t r y tabs) a [] ≡ get_or tabs a []
unfolding put_row
rows_other a t r y tabs h = get_or-set_other tabs t a (set (get_or tabs t []) r y) [] h

pub other : (a t : ℕ) → eqb a t ≡ false → a ≢ t
other a t e = λ p. false≢true (sym e ∙ rw p (passes (eqb t t) (eqb_refl t)))

module _ (k : ForeignKey) (t r : ℕ) (y : Row) (tabs : Tables) (h : r < length (get_or tabs t [])) where
  here : (a : ℕ) → a ≡ t → r < length (get_or tabs a [])
  here a e = rw e h

  cases : (a b : Bool) → eqb k.child t ≡ a → eqb k.parent t ≡ b
      → orphans (put_row t r y tabs) k + (stranded_rows k t r y (row_at t r tabs) tabs + own_orphan k t (row_at t r tabs) tabs)
      ≡ orphans tabs k + (stranded_rows k t r (row_at t r tabs) y tabs + own_orphan k t y (put_row t r y tabs))
  unfolding orphans stranded_rows own_orphan pick except_if
  cases true true ea eb =
      let c : k.child ≡ t = eqb→eq k.child t (holds ea) in
      let p : k.parent ≡ t = eqb→eq k.parent t (holds eb) in
      let one_table : get_or tabs k.child [] ≡ get_or tabs k.parent [] = ap (λ a. get_or tabs a []) (c ∙ sym p) in
      rw (ea, eb, rows_here k.child t r y tabs c, rows_here k.parent t r y tabs p, one_table, row_here k.parent t r tabs p)
      (as_both k r y [] (get_or tabs k.parent []) (here k.parent p))
  cases true false ea eb =
      let c : k.child ≡ t = eqb→eq k.child t (holds ea) in
      rw (ea, eb, rows_other k.parent t r y tabs (other k.parent t eb), rows_here k.child t r y tabs c, row_here k.child t r tabs c)
      (as_child k r y [] (get_or tabs k.parent []) (get_or tabs k.child []) (here k.child c))
  cases false true ea eb =
      let p : k.parent ≡ t = eqb→eq k.parent t (holds eb) in
      rw (ea, eb, rows_other k.child t r y tabs (other k.child t ea), rows_here k.parent t r y tabs p, row_here k.parent t r tabs p)
      (as_parent k r y [] (get_or tabs k.parent []) (get_or tabs k.child []) (here k.parent p))
  cases false false ea eb =
      rw (ea, eb, rows_other k.child t r y tabs (other k.child t ea), rows_other k.parent t r y tabs (other k.parent t eb)) refl

  -- the orphans after, and those mended, are the orphans before, and those made
  pub moved_counted :
      orphans (put_row t r y tabs) k + (stranded_rows k t r y (row_at t r tabs) tabs + own_orphan k t (row_at t r tabs) tabs)
      ≡ orphans tabs k + (stranded_rows k t r (row_at t r tabs) y tabs + own_orphan k t y (put_row t r y tabs))
  moved_counted = cases (eqb k.child t) (eqb k.parent t) refl refl

-- signed: before and the move is after
signed : (a b g m : ℕ) → a + m ≡ b + g → pos b +ℤ (pos g -ℤ pos m) ≡ pos a
signed a b g m e =
    let l : (pos b +ℤ (pos g -ℤ pos m)) +ℤ pos m ≡ pos a +ℤ pos m = +ℤ_assoc (pos b) (pos g -ℤ pos m) (pos m) ∙ rw (-ℤ-+ℤ_cancel (pos g) (pos m)) (ap pos (sym e)) in
    sym (+ℤ-neg_ℤ_cancel (pos b +ℤ (pos g -ℤ pos m)) (pos m)) ∙ ap (λ z. z -ℤ pos m) l ∙ +ℤ-neg_ℤ_cancel (pos a) (pos m)

pub moved_is : (k : ForeignKey) (t r : ℕ) (y : Row) (tabs : Tables) → r < length (get_or tabs t [])
    → pos (orphans tabs k) +ℤ movement k t r (row_at t r tabs) y tabs (put_row t r y tabs) ≡ pos (orphans (put_row t r y tabs) k)
unfolding movement
moved_is k t r y tabs h = signed _ _ _ _ (moved_counted k t r y tabs h)

-- what turning x into y frees may be counted before or after the write
rest_after : (a t r : ℕ) (z : Row) (tabs : Tables) (b : Bool) → eqb a t ≡ b → except_if b r (get_or (put_row t r z tabs) a []) ≡ except_if b r (get_or tabs a [])
unfolding except_if
rest_after a t r z tabs true e =
    let p : a ≡ t = eqb→eq a t (holds e) in
    rw (p, rows_same t r z tabs) (except_set r (get_or tabs t []) z)
rest_after a t r z tabs false e = rows_other a t r z tabs (other a t e)

pub stranded_after : (k : ForeignKey) (t r : ℕ) (x y z : Row) (tabs : Tables) → stranded_rows k t r x y (put_row t r z tabs) ≡ stranded_rows k t r x y tabs
unfolding stranded_rows except_if pick
stranded_after k t r x y z tabs = go (eqb k.parent t) refl
  where
    go : (b : Bool) → eqb k.parent t ≡ b
        → pick b (count (stranded k x y (except r (get_or (put_row t r z tabs) k.parent []))) (except_if (eqb k.child t) r (get_or (put_row t r z tabs) k.child [])))
        ≡ pick b (count (stranded k x y (except r (get_or tabs k.parent []))) (except_if (eqb k.child t) r (get_or tabs k.child [])))
    go true e =
        ap₂ (λ ps cs. count (stranded k x y ps) cs) (rest_after k.parent t r z tabs true e) (rest_after k.child t r z tabs (eqb k.child t) refl)
    go false e = refl

-- a write that alters neither what the row needs nor whom it serves moves nothing
module _ (k : ForeignKey) (x y : Row) (needs : due k x ≡ due k y) (asks : (p : Row) → serves k x p ≡ serves k y p) (gives : (c : Row) → serves k c x ≡ serves k c y) where
  own_same : (ps : List Row) → orphan k ps x ≡ orphan k ps y
  unfolding orphan
  own_same ps = λ i. needs i && not (any (λ p. asks p i) ps)

  served_same : (ps : List Row) → orphan k (x ∷ ps) ≡ orphan k (y ∷ ps)
  unfolding orphan any
  served_same ps = λ i c. due k c && not (any_front c i)
    where
      any_front : (c : Row) → any (serves k c) (x ∷ ps) ≡ any (serves k c) (y ∷ ps)
      any_front c = any_cons (serves k c) x ps ∙ ap (λ b. b || any (serves k c) ps) (gives c) ∙ sym (any_cons (serves k c) y ps)

  own_unmoved : (t r : ℕ) (tabs : Tables) → r < length (get_or tabs t []) → x ≡ row_at t r tabs → own_orphan k t x tabs ≡ own_orphan k t y (put_row t r y tabs)
  unfolding own_orphan
  own_unmoved t r tabs h e = go (eqb k.parent t) refl
    where
      go : (b : Bool) → eqb k.parent t ≡ b
          → pick (eqb k.child t) (one (orphan k (get_or tabs k.parent []) x))
          ≡ pick (eqb k.child t) (one (orphan k (get_or (put_row t r y tabs) k.parent []) y))
      go true f =
          let p : k.parent ≡ t = eqb→eq k.parent t (holds f) in
          let ps : List Row = get_or tabs k.parent [] in
          let at : r < length ps = rw p h in
          let l : orphan k ps ≡ orphan k (set ps r y)
          = front k r ps [] at
          ∙ rw (← (e ∙ row_here k.parent t r tabs p)) (served_same (except r ps))
          ∙ sym (front_set k r y [] ps at) in
          rw (rows_here k.parent t r y tabs p) (ap (λ b. pick (eqb k.child t) (one b)) (own_same ps ∙ (λ i. l i y)))
      go false f = rw (rows_other k.parent t r y tabs (other k.parent t f)) (ap (λ b. pick (eqb k.child t) (one b)) (own_same (get_or tabs k.parent [])))

  stranded_unmoved : (t r : ℕ) (tabs : Tables) → (stranded_rows k t r x y tabs ≡ 0) × (stranded_rows k t r y x tabs ≡ 0)
  unfolding stranded_rows pick
  stranded_unmoved t r tabs = (go x y (λ c. gives c), go y x (λ c. sym (gives c)))
    where
      none : (b : Bool) (n : ℕ) → n ≡ 0 → pick b n ≡ 0
      none true n h = h
      none false n h = refl

      go : (x y : Row) → ((c : Row) → serves k c x ≡ serves k c y) → stranded_rows k t r x y tabs ≡ 0
      go x y g = none (eqb k.parent t) _ (stranded_same k x y (except r (get_or tabs k.parent [])) (except_if (eqb k.child t) r (get_or tabs k.child [])) g)

  pub unmoved : (t r : ℕ) (tabs : Tables) → r < length (get_or tabs t []) → x ≡ row_at t r tabs → orphans (put_row t r y tabs) k ≡ orphans tabs k
  unmoved t r tabs h e =
      let m : orphans (put_row t r y tabs) k + (stranded_rows k t r y x tabs + own_orphan k t x tabs) ≡ orphans tabs k + (stranded_rows k t r x y tabs + own_orphan k t y (put_row t r y tabs))
      = rw e (moved_counted k t r y tabs h) in
      let g : (stranded_rows k t r x y tabs ≡ 0) × (stranded_rows k t r y x tabs ≡ 0) = stranded_unmoved t r tabs in
      let o : own_orphan k t x tabs ≡ own_orphan k t y (put_row t r y tabs) = own_unmoved t r tabs h e in
      omega arith
