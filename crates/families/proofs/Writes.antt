-- Rows written one after the other: what a list of writes does to tables and journal, and that writes to different tables may change places.
-- Assumes nothing.
use mathlib.Core.Path.{◌≡◌, refl, sym, ◌∙◌, ap, ap₂, subst}
use mathlib.Core.Bool.{Bool, true, false, ◌||◌, true≢false}
use mathlib.Core.List.{List, [], ◌∷◌, ◌++◌, append_assoc}
use mathlib.Core.Logic.{◌≢◌}
use Prim.Native.Nat.{ℕ, zero, suc}
use lib.Dec.{eqb, eqb→eq, eqb_refl}
use lib.ListN.{length, get_or, set, drop, length-append}
use lib.Seq.{get_or-set_other, set_comm, drop-drop}
use Rattle.rules.specs.Lists.{padded}
use Rattle.rules.specs.Rows.{Row, Tables, row_at, put_row, overwrite, image}
use Rattle.rules.specs.Book.{Entry, Work, entry, write, undo_one, undo_all}
use Rattle.bridge.proofs.Books.{work_path}
use Rattle.bridge.proofs.Tests.{holds, passes}
use Rattle.bridge.proofs.Undo.{undo_write, undo_all_append}

-- a row write: table, row, the new image
pub record Write : Type 0 where
  pub table : ℕ
  pub row : ℕ
  pub new : Row

-- the tables after a write
unfoldable pub put : Write → Tables → Tables
put x tabs = put_row x.table x.row (overwrite (row_at x.table x.row tabs) x.new) tabs

unfoldable pub put_all : List Write → Tables → Tables
put_all [] tabs = tabs
put_all (x ∷ xs) tabs = put_all xs (put x tabs)

-- the journal records of writes, newest first
unfoldable pub entries : List Write → Tables → List Entry
entries [] tabs = []
entries (x ∷ xs) tabs = entries xs (put x tabs) ++ (entry x.table x.row tabs ∷ [])

-- writes one after the other
unfoldable pub write_all : List Write → Work → Work
write_all xs w = record { tabs = put_all xs w.tabs; used = entries xs w.tabs ++ w.used; spare = drop (length xs) w.spare }

-- ---- lists of writes, one after the other

put_all_append : (xs ys : List Write) (tabs : Tables) → put_all (xs ++ ys) tabs ≡ put_all ys (put_all xs tabs)
unfolding put_all
put_all_append [] ys tabs = refl
put_all_append (x ∷ xs) ys tabs = put_all_append xs ys (put x tabs)

entries_append : (xs ys : List Write) (tabs : Tables) → entries (xs ++ ys) tabs ≡ entries ys (put_all xs tabs) ++ entries xs tabs
unfolding put_all entries
entries_append [] ys tabs = sym (append_none (entries ys tabs))
  where
    append_none : (l : List Entry) → l ++ [] ≡ l
    append_none [] = refl
    append_none (e ∷ l) = ap (λ r. e ∷ r) (append_none l)
entries_append (x ∷ xs) ys tabs =
    ap (λ l. l ++ (entry x.table x.row tabs ∷ [])) (entries_append xs ys (put x tabs)) ∙ simp append_assoc

pub write_all_append : (xs ys : List Write) (w : Work) → write_all (xs ++ ys) w ≡ write_all ys (write_all xs w)
unfolding write_all
write_all_append xs ys w =
    work_path
    (put_all_append xs ys w.tabs)
    (ap (λ l. l ++ w.used) (entries_append xs ys w.tabs) ∙ append_assoc (entries ys (put_all xs w.tabs)) (entries xs w.tabs) w.used)
    (ap (λ n. drop n w.spare) (length-append xs ys) ∙ sym (drop-drop (length ys) (length xs) w.spare))

pub write_all_none : (w : Work) → write_all [] w ≡ w
unfolding write_all put_all entries
write_all_none w = refl

pub write_all_one : (x : Write) (w : Work) → write_all (x ∷ []) w ≡ write x.table x.row x.new w
unfolding write_all put_all entries put
write_all_one x w = refl

-- the records undo the writes
pub undo_entries : (xs : List Write) (tabs : Tables) → undo_all (entries xs tabs) (put_all xs tabs) ≡ tabs
unfolding undo_all entries put_all put
undo_entries [] tabs = refl
undo_entries (x ∷ xs) tabs =
    undo_all_append (entries xs (put x tabs)) (entry x.table x.row tabs ∷ []) (put_all xs (put x tabs))
    ∙ ap (λ tabs'. undo_one (entry x.table x.row tabs) tabs') (undo_entries xs (put x tabs))
    ∙ undo_write tabs x.table x.row x.new

-- ---- a table after a write

get_put : (f : List Row → List Row) → f [] ≡ [] → (tabs : Tables) (t : ℕ) → get_or (set tabs t (f (get_or tabs t []))) t [] ≡ f (get_or tabs t [])
get_put f e [] t = sym e
get_put f e (rows ∷ tabs) zero = refl
get_put f e (rows ∷ tabs) (suc t) = get_put f e tabs t

-- the rows of the written table
abbrev rows_put : Write → List Row → List Row
rows_put x rows = set rows x.row (overwrite (get_or rows x.row []) x.new)

put_there : (x : Write) (tabs : Tables) → get_or (put x tabs) x.table [] ≡ rows_put x (get_or tabs x.table [])
unfolding put put_row row_at
put_there x tabs = get_put (rows_put x) refl tabs x.table

put_other : (x : Write) (tabs : Tables) (t : ℕ) → t ≢ x.table → get_or (put x tabs) t [] ≡ get_or tabs t []
unfolding put put_row
put_other x tabs t h = get_or-set_other tabs x.table t _ [] h

differs : (t u : ℕ) → eqb t u ≡ false → t ≢ u
differs t u e q = true≢false (sym (passes (eqb t t) (eqb_refl t)) ∙ ap (eqb t) q ∙ e)

-- ---- tables that agree on those of P

abbrev pub Agree : (ℕ → Type 0) → Tables → Tables → Type 0
Agree P tabs tabs' = (t : ℕ) → P t → get_or tabs t [] ≡ get_or tabs' t []

-- every write is to a table of P
abbrev pub Within : (ℕ → Type 0) → List Write → Type 0
Within P [] = Unit {0}
Within P (x ∷ xs) = P x.table × Within P xs

module _ (P : ℕ → Type 0) where
  pub within_append : (xs ys : List Write) → Within P xs → Within P ys → Within P (xs ++ ys)
  within_append [] ys p q = q
  within_append (x ∷ xs) ys p q = (p.0, within_append xs ys p.1 q)

  agree_put : (x : Write) (tabs tabs' : Tables) → Agree P tabs tabs' → Agree P (put x tabs) (put x tabs')
  agree_put x tabs tabs' a t p = by (eqb t x.table) refl
    where
      by : (b : Bool) → eqb t x.table ≡ b → get_or (put x tabs) t [] ≡ get_or (put x tabs') t []
      by true e =
          let q : t ≡ x.table = eqb→eq t x.table (holds e) in
          rw q (put_there x tabs ∙ ap (rows_put x) (a x.table (subst P q p)) ∙ sym (put_there x tabs'))
      by false e = put_other x tabs t (differs t x.table e) ∙ a t p ∙ sym (put_other x tabs' t (differs t x.table e))

  pub agree_all : (xs : List Write) (tabs tabs' : Tables) → Agree P tabs tabs' → Agree P (put_all xs tabs) (put_all xs tabs')
  unfolding put_all
  agree_all [] tabs tabs' a = a
  agree_all (x ∷ xs) tabs tabs' a = agree_all xs (put x tabs) (put x tabs') (agree_put x tabs tabs' a)

  -- the same writes to tables that agree have the same records
  pub entries_agree : (xs : List Write) (tabs tabs' : Tables) → Agree P tabs tabs' → Within P xs → entries xs tabs ≡ entries xs tabs'
  unfolding entries image row_at
  entries_agree [] tabs tabs' a p = refl
  entries_agree (x ∷ xs) tabs tabs' a p =
      ap₂ (λ es (rows : List Row). es ++ (record { table = x.table; row = x.row; old = padded 9 (get_or rows x.row []) } ∷ []))
      (entries_agree xs (put x tabs) (put x tabs') (agree_put x tabs tabs' a) p.1)
      (a x.table p.0)

-- ---- whether table t is written

unfoldable pub hit : ℕ → List Write → Bool
hit t [] = false
hit t (x ∷ xs) = eqb t x.table || hit t xs

pub missed : (t : ℕ) (xs : List Write) (tabs : Tables) → hit t xs ≡ false → get_or (put_all xs tabs) t [] ≡ get_or tabs t []
unfolding hit put_all
missed t [] tabs h = refl
missed t (x ∷ xs) tabs h = by (eqb t x.table) refl h (missed t xs (put x tabs))
  where
    by : (b : Bool) → eqb t x.table ≡ b → b || hit t xs ≡ false → (hit t xs ≡ false → get_or (put_all xs (put x tabs)) t [] ≡ get_or (put x tabs) t []) → get_or (put_all xs (put x tabs)) t [] ≡ get_or tabs t []
    by true e h k = absurd (true≢false h)
    by false e h k = k h ∙ put_other x tabs t (differs t x.table e)

pub hit_within : (P : ℕ → Type 0) (t : ℕ) (xs : List Write) → Within P xs → hit t xs ≡ true → P t
unfolding hit
hit_within P t [] p h = absurd (true≢false (sym h))
hit_within P t (x ∷ xs) p h = by (eqb t x.table) refl h (hit_within P t xs p.1)
  where
    by : (b : Bool) → eqb t x.table ≡ b → b || hit t xs ≡ true → (hit t xs ≡ true → P t) → P t
    by true e h k = subst P (sym (eqb→eq t x.table (holds e))) p.0
    by false e h k = k h

-- a table that is not of P is not written
pub outside : (P : ℕ → Type 0) (t : ℕ) (xs : List Write) (tabs : Tables) → Within P xs → ¬ P t → get_or (put_all xs tabs) t [] ≡ get_or tabs t []
outside P t xs tabs p h = by (hit t xs) refl
  where
    by : (b : Bool) → hit t xs ≡ b → get_or (put_all xs tabs) t [] ≡ get_or tabs t []
    by true e = absurd (h (hit_within P t xs p e))
    by false e = missed t xs tabs e

-- ---- writes to different tables change places

put_put : (x y : Write) (tabs : Tables) → x.table ≢ y.table → put x (put y tabs) ≡ put y (put x tabs)
unfolding put put_row row_at
put_put x y tabs h =
    let a : get_or (set tabs y.table (rows_put y (get_or tabs y.table []))) x.table [] ≡ get_or tabs x.table [] = get_or-set_other tabs y.table x.table _ [] h in
    let b : get_or (set tabs x.table (rows_put x (get_or tabs x.table []))) y.table [] ≡ get_or tabs y.table [] = get_or-set_other tabs x.table y.table _ [] (λ e. h (sym e)) in
    ap (λ rows. set (set tabs y.table (rows_put y (get_or tabs y.table []))) x.table (rows_put x rows)) a
    ∙ set_comm tabs y.table x.table (rows_put y (get_or tabs y.table [])) (rows_put x (get_or tabs x.table [])) (λ e. h (sym e))
    ∙ ap (λ rows. set (set tabs x.table (rows_put x (get_or tabs x.table []))) y.table (rows_put y rows)) (sym b)

module _ (P Q : ℕ → Type 0) (disjoint : (t : ℕ) → P t → Q t → ⊥) where
  put_past : (x : Write) (ys : List Write) (tabs : Tables) → P x.table → Within Q ys → put x (put_all ys tabs) ≡ put_all ys (put x tabs)
  unfolding put_all
  put_past x [] tabs p q = refl
  put_past x (y ∷ ys) tabs p q =
      put_past x ys (put y tabs) p q.1
      ∙ ap (put_all ys) (put_put x y tabs (λ e. disjoint x.table p (subst Q (sym e) q.0)))

  pub put_all_swap : (xs ys : List Write) (tabs : Tables) → Within P xs → Within Q ys → put_all xs (put_all ys tabs) ≡ put_all ys (put_all xs tabs)
  unfolding put_all
  put_all_swap [] ys tabs p q = refl
  put_all_swap (x ∷ xs) ys tabs p q = ap (put_all xs) (put_past x ys tabs p.0 q) ∙ put_all_swap xs ys (put x tabs) p.1 q
