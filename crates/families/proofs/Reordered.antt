-- Books that differ in the order of some journal records.
-- Assumes nothing.
use mathlib.Core.Path.{◌≡◌, refl, ap, subst}
use mathlib.Core.Bool.{Bool, true, false, ◌||◌}
use mathlib.Core.List.{List, ◌++◌}
use Prim.Native.Nat.{ℕ, ◌+◌}
use native.Mathlib.Omega.{arith}
use lib.Dec.{leb}
use lib.IntN.{ℤ}
use lib.ListN.{length, length-append}
use Rattle.schema.specs.Ranges.{all}
use Rattle.rules.specs.declared.Refusal.{Refusal}
use Rattle.rules.specs.Refusals.{did}
use Rattle.rules.specs.Book.{Entry, Level, Book, undo_all, cleared}
use Rattle.rules.specs.State.{in_transaction}
use Rattle.rules.specs.Statement.{Turn, check, demand}

-- the book with these records in use
abbrev pub with_used : List Entry → Book → Book
with_used us b = record { opener = b.opener; kept = b.kept; levels = b.levels; closed = b.closed; work = record { tabs = b.work.tabs; used = us; spare = b.work.spare } }

-- records in use: `old` are the same in both books; then come, newest first, `one` in the one book and `other` in the other, as many
pub record Order : Type 0 where
  pub old : List Entry
  pub one : List Entry
  pub other : List Entry
  pub sizes : length other ≡ length one

-- how many records there are below those that stand otherwise, and up to the last of them
abbrev pub bottom : Order → ℕ
bottom o = length o.old

abbrev pub top : Order → ℕ
top o = length o.one + length o.old

-- the level was opened when at most n records were in use
unfoldable pub opened_by : ℕ → Level → Bool
opened_by n l = leb l.base n

-- it was opened before those records or after them
unfoldable pub clear_of : Order → Level → Bool
clear_of o l = opened_by (bottom o) l || leb (top o) l.base

module _ (o : Order) where
  -- a transaction is open, no level was opened between the records that stand otherwise, and undoing them in either order comes to the same rows; `since` are the records after them
  pub record Reordering (b : Book) (since : List Entry) : Type 0 where
    pub running : in_transaction b.levels ≡ true
    pub clear : all (clear_of o) b.levels ≡ true
    pub undone : undo_all o.one (undo_all since b.work.tabs) ≡ undo_all o.other (undo_all since b.work.tabs)

  -- the books are the same, or differ in the order of records
  pub data Alike : Book → Book → Type 0 where
    same : {b : Book} → Alike b b
    reordered : (b : Book) (since : List Entry) → Reordering b since → Alike (with_used (since ++ (o.one ++ o.old)) b) (with_used (since ++ (o.other ++ o.old)) b)

  pub record AlikeTurns (t t' : Turn) : Type 0 where
    pub answer : t'.0 ≡ t.0
    pub books : Alike t.1 t'.1

  pub alike_path : {b b' c c' : Book} → b ≡ c → b' ≡ c' → Alike b b' → Alike c c'
  alike_path {b} {b'} {c} {c'} e f a = subst (λ x. Alike x c') e (subst (Alike b) f a)

  pub alike_same : {b b' : Book} → b ≡ b' → Alike b b'
  alike_same {b} e = subst (Alike b) e same

  pub alike_cleared : {b b' : Book} → Alike b b' → Alike (cleared b) (cleared b')
  unfolding cleared
  alike_cleared same = same
  alike_cleared (reordered b since p) = reordered (cleared b) since (record { running = p.running; clear = p.clear; undone = p.undone })

  module _ {b b' : Book} (a : Alike b b') (t : Bool) (r : Refusal) (k k' : Book → Turn) where
    pub alike_check : (t ≡ true → AlikeTurns (k b) (k' b')) → AlikeTurns (check t r k b) (check t r k' b')
    unfolding check
    alike_check h = by t refl
      where
        by : (x : Bool) → t ≡ x → AlikeTurns (check x r k b) (check x r k' b')
        by true e = h e
        by false e = record { answer = refl; books = a }

    pub alike_demand : AlikeTurns (k b) (k' b') → AlikeTurns (demand t r k b) (demand t r k' b')
    unfolding demand
    alike_demand h = by t
      where
        by : (x : Bool) → AlikeTurns (demand x r k b) (demand x r k' b')
        by true = h
        by false = record { answer = refl; books = alike_cleared a }

  -- as many records are in use in both
  pub use_is : (since xs : List Entry) → length (since ++ (xs ++ o.old)) ≡ length since + (length xs + length o.old)
  use_is since xs = simp length-append refl

  pub same_use : (since : List Entry) → length (since ++ (o.other ++ o.old)) ≡ length (since ++ (o.one ++ o.old))
  same_use since = omega (arith, use_is since o.one, use_is since o.other, o.sizes)

pub done_rows : {m n : ℕ} {d : ℤ} → m ≡ n → did m d ≡ did n d
done_rows {d = d} e = ap (λ n. did n d) e
