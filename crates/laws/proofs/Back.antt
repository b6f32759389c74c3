-- What a rollback gives does not change as calls are made after the level opened.
-- Assumes nothing.
use mathlib.Core.Path.{◌≡◌, refl, sym, ◌∙◌, ap, subst}
use mathlib.Core.Bool.{true, false, false≢true, true≢false}
use mathlib.Core.List.{List, [], ◌∷◌, ◌++◌, append_assoc}
use Prim.Native.Nat.{ℕ, zero, suc, ◌+◌, ◌-◌, ◌≤◌, ◌<◌}
use native.Mathlib.Omega.{arith}
use native.Mathlib.Nat.{zero-add}
use lib.Dec.{eqb→eq}
use lib.IntN.{ℤ}
use lib.ListN.{length, take, drop, replicate, length-append, length-drop, replicate-append-replicate}
use lib.Seq.{take-append-add, drop-append-add, drop-drop, take-add}
use Rattle.bridge.proofs.Shapes.{Shaped}
use Rattle.bridge.proofs.Tests.{holds}
use Rattle.bridge.proofs.Undo.{Undoes, undo_all_append, nine}
use Rattle.rules.specs.Book.{Level, Work, Book, zero_records, zero_levels, undo_all, undo, undo_to, emptied, close, back_to, back, first_kept, ended, abort, push}
use Rattle.rules.specs.Keys.{counts}
use Rattle.rules.specs.State.{in_transaction, opener_fits, kept_in_range, saved_in_range, placed}
use Rattle.schema.specs.Ranges.{all}
use Rattle.schema.specs.Records.{Schema}
use Rattle.bridge.proofs.Books.{sized, work_path, book_path}
use Rattle.bridge.proofs.Zeros.{clean_front}

module _ {A : Type 0} (z : A) where
  -- a clean list's front may be written as so many zeros
  clean_swap : (n k : ℕ) (xs ys : List A) → length xs ≡ n → xs ++ ys ≡ replicate (length (xs ++ ys)) z → replicate (n + k) z ++ ys ≡ replicate k z ++ (xs ++ ys)
  clean_swap n k xs ys l e =
      let f : xs ≡ replicate n z = clean_front z xs ys e ∙ ap (λ m. replicate m z) l in
      let c : n + k ≡ k + n = omega arith in
      rw c (rw (← (replicate-append-replicate k n z)) (rw append_assoc (ap (λ l. replicate k z ++ (l ++ ys)) (sym f))))

abbrev pub Uses : ℕ → List Level → Type 0
Uses n [] = n ≡ 0
Uses n (l ∷ ls) = (l.base ≤ n) × Uses l.base ls

-- what holds of every book that calls lead to
pub record Good (s : Schema) (b : Book) : Type 0 where
  pub clean : b.work.spare ≡ zero_records (length b.work.spare)
  pub closed_zero : b.closed ≡ zero_levels (length b.closed)
  pub uses : Uses (length b.work.used) b.levels
  pub counted : b.kept ≡ counts s b.work.tabs
  pub heading : opener_fits (in_transaction b.levels) b.opener ≡ true
  pub fits : kept_in_range s s.keys b.kept ≡ true
  pub saved : all (saved_in_range s) b.levels ≡ true
  pub places : all (placed s) b.work.used ≡ true
  pub shaped : Shaped s b.work.tabs
  pub olds : all nine b.work.used ≡ true
  pub sizes : all sized b.levels ≡ true
  pub levels_nine : length b.levels + length b.closed ≡ 9
  pub room : length b.work.used + length b.work.spare ≡ s.room

module _ {s : Schema} {w w' : Work} (u : Undoes s w w') (clean : w.spare ≡ zero_records (length w.spare)) where
  undo_through : (k : ℕ) → undo (length u.new + k) w' ≡ undo k w
  unfolding undo
  undo_through k =
      work_path
      (rw u.used_is (rw take-append-add (undo_all_append u.new (take k w.used) w'.tabs ∙ ap (undo_all (take k w.used)) u.tabs_is)))
      (rw u.used_is (drop-append-add u.new w.used k))
      (clean_swap _ (length u.new) k u.gone w'.spare u.sizes (subst (λ l. l ≡ zero_records (length l)) u.spare_is clean) ∙ ap (λ l. zero_records k ++ l) (sym u.spare_is))

  undo_to_through : (n : ℕ) → n ≤ length w.used → undo_to n w' ≡ undo_to n w
  unfolding undo_to
  undo_to_through n h =
      ap (λ k. undo k w') (ap (λ l. length l - n) u.used_is ∙ simp length-append (omega arith)) ∙ undo_through (length w.used - n)

zeros_zeros : {A : Type 0} (z : A) (k j : ℕ) (ys : List A) → replicate k z ++ (replicate j z ++ ys) ≡ replicate (j + k) z ++ ys
zeros_zeros z k j ys =
    let c : j + k ≡ k + j = omega arith in
    rw c (rw (← (replicate-append-replicate k j z)) (simp append_assoc))

undo_undo : (k j : ℕ) (w : Work) → undo k (undo j w) ≡ undo (j + k) w
unfolding undo
undo_undo k j w =
    work_path
    (sym (undo_all_append (take j w.used) (take k (drop j w.used)) w.tabs) ∙ ap (λ l. undo_all l w.tabs) (sym (take-add j k w.used)))
    (drop-drop k j w.used)
    (zeros_zeros _ k j w.spare)

undo_to_undo_to : (m n : ℕ) (w : Work) → m ≤ n → n ≤ length w.used → undo_to m (undo_to n w) ≡ undo_to m w
unfolding undo_to undo
undo_to_undo_to m n w h h' =
    let e : length (drop (length w.used - n) w.used) - m ≡ n - m = simp length-drop (omega arith) in
    let f : length w.used - n + (n - m) ≡ length w.used - m = omega arith in
    ap (λ k. undo k (undo (length w.used - n) w)) e ∙ undo_undo (n - m) (length w.used - n) w ∙ ap (λ k. undo k w) f

-- the newest of the levels was opened at a use of at most n
abbrev Newest : ℕ → List Level → Type 0
Newest n [] = ⊥
Newest n (l ∷ ls) = l.base ≤ n

newest : (n k : ℕ) (ls : List Level) → Uses n ls → k < length ls → Newest n (drop k ls)
newest n k [] u h = absurd (omega arith)
newest n zero (l ∷ ls) u h = u.0
newest n (suc k) (l ∷ ls) u h = weaken (drop k ls) (newest l.base k ls u.1 (omega arith))
  where
    weaken : (ms : List Level) → Newest l.base ms → Newest n ms
    weaken [] p = p
    weaken (m ∷ ms) p = omega (arith, u.0)

-- rollback gives the same from two books that agree on the levels left, and on what undoing gives
back_to_agree : (ls : List Level) (n k k' : ℕ) (b b' : Book) → Newest n ls → b'.opener ≡ b.opener → zero_levels k' ++ b'.closed ≡ zero_levels k ++ b.closed → ((m : ℕ) → m ≤ n → undo_to m b'.work ≡ undo_to m b.work) → back_to ls k' b' ≡ back_to ls k b
unfolding back_to
back_to_agree [] n k k' b b' h o z u = absurd h
back_to_agree (l ∷ ls) n k k' b b' h o z u = book_path o refl refl z (u l.base h)

back_agree : (n k k' : ℕ) (b b' : Book) → Newest n (drop k b.levels) → drop k' b'.levels ≡ drop k b.levels → b'.opener ≡ b.opener → zero_levels k' ++ b'.closed ≡ zero_levels k ++ b.closed → ((m : ℕ) → m ≤ n → undo_to m b'.work ≡ undo_to m b.work) → back k' b' ≡ back k b
unfolding back
back_agree n k k' b b' h e o z u = ap (λ ls. back_to ls k' b') e ∙ back_to_agree (drop k b.levels) n k k' b b' h o z u

abort_agree : (b b' : Book) → first_kept b'.levels b'.kept ≡ first_kept b.levels b.kept → zero_levels (length b'.levels) ++ b'.closed ≡ zero_levels (length b.levels) ++ b.closed → undo_to 0 b'.work ≡ undo_to 0 b.work → abort b' ≡ abort b
unfolding abort ended
abort_agree b b' f z u = book_path refl f refl z (ap emptied u)

first_drop : (k : ℕ) (ls : List Level) (d : List ℤ) → k < length ls → first_kept (drop k ls) d ≡ first_kept ls d
unfolding first_kept
first_drop k [] d h = absurd (omega arith)
first_drop zero (l ∷ ls) d h = refl
first_drop (suc k) (l ∷ []) d h = absurd (omega arith)
first_drop (suc k) (l ∷ m ∷ ls) d h = first_drop k (m ∷ ls) d (omega arith) ∙ refl

drop_some : {A : Type 0} (k : ℕ) (xs : List A) → k < length xs → (x : A) × (ys : List A) × (drop k xs ≡ x ∷ ys)
drop_some k [] h = absurd (omega arith)
drop_some zero (x ∷ xs) h = (x, xs, refl)
drop_some (suc k) (x ∷ xs) h = drop_some k xs (omega arith)

first_any : (ls : List Level) (d e : List ℤ) → in_transaction ls ≡ true → first_kept ls d ≡ first_kept ls e
unfolding first_kept in_transaction
first_any [] d e h = absurd (false≢true h)
first_any (l ∷ ls) d e h = refl

pub open_some : (ls : List Level) → in_transaction ls ≡ true → 0 < length ls
unfolding in_transaction
open_some [] h = absurd (false≢true h)
open_some (l ∷ ls) h = omega arith

pub some_open : (ls : List Level) {k : ℕ} → k < length ls → in_transaction ls ≡ true
unfolding in_transaction
some_open [] h = absurd (omega arith)
some_open (l ∷ ls) h = refl

pub length_zero : {A : Type 0} (xs : List A) → length xs ≡ 0 → xs ≡ []
length_zero [] h = refl
length_zero (x ∷ xs) h = absurd (omega arith)

abbrev pub UsesOf : List Level → Type 0
UsesOf [] = Unit {0}
UsesOf (l ∷ ls) = Uses l.base ls

pub uses_drop : (j n : ℕ) (ls : List Level) → Uses n ls → UsesOf (drop j ls)
uses_drop zero n [] u = tt
uses_drop (suc j) n [] u = tt
uses_drop zero n (l ∷ ls) u = u.1
uses_drop (suc j) n (l ∷ ls) u = uses_drop j l.base ls u.1

-- a statement inside a transaction
abbrev pub moved : List ℤ → Work → Book → Book
moved kept w b = record { opener = b.opener; kept = kept; levels = b.levels; closed = b.closed; work = w }

module _ {s : Schema} {b : Book} (g : Good s b) where
  use_bound : (k : ℕ) → k < length b.levels → Newest (length b.work.used) (drop k b.levels)
  use_bound k h = newest (length b.work.used) k b.levels g.uses h

  pub back_moved : (kept : List ℤ) (w : Work) → Undoes s b.work w → (k : ℕ) → k < length b.levels → back k (moved kept w b) ≡ back k b
  back_moved kept w u k h = back_agree _ k k b (moved kept w b) (use_bound k h) refl refl refl (undo_to_through u g.clean)

  pub abort_moved : (kept : List ℤ) (w : Work) → Undoes s b.work w → in_transaction b.levels ≡ true → abort (moved kept w b) ≡ abort b
  abort_moved kept w u h = abort_agree b (moved kept w b) (first_any b.levels kept b.kept h) refl (undo_to_through u g.clean 0 (omega arith))

  pub back_push_top : (o : ℕ) (closed : List (List ℤ)) → back 0 (push o closed b) ≡ push o closed b
  unfolding back back_to push undo_to undo undo_all
  back_push_top o closed =
      let e : length b.work.used - length b.work.used ≡ 0 = omega arith in
      book_path refl refl refl refl (ap (λ k. undo k b.work) e)

  push_closed : (x : List ℤ) (closed : List (List ℤ)) (k : ℕ) → b.closed ≡ x ∷ closed → zero_levels (suc k) ++ closed ≡ zero_levels k ++ b.closed
  push_closed x closed k e =
      let c : 1 + k ≡ suc k = omega arith in
      ap (λ m. zero_levels m ++ closed) (sym c) ∙ clean_swap _ 1 k (x ∷ []) closed refl (subst (λ l. l ≡ zero_levels (length l)) e g.closed_zero) ∙ ap (λ l. zero_levels k ++ l) (sym e)

  pub back_push : (o : ℕ) (x : List ℤ) (closed : List (List ℤ)) → b.closed ≡ x ∷ closed → (in_transaction b.levels ≡ true → o ≡ b.opener) → (k : ℕ) → k < length b.levels → back (suc k) (push o closed b) ≡ back k b
  unfolding push
  back_push o x closed e p k h =
      back_agree _ k (suc k) b (push o closed b) (use_bound k h) refl (p (some_open b.levels h)) (push_closed x closed k e) (λ m h. refl)

  pub abort_push : (o : ℕ) (x : List ℤ) (closed : List (List ℤ)) → b.closed ≡ x ∷ closed → in_transaction b.levels ≡ true → abort (push o closed b) ≡ abort b
  unfolding push first_kept
  abort_push o x closed e h = abort_agree b (push o closed b) refl (push_closed x closed (length b.levels) e) refl

  -- no transaction: the journal is empty, and ending what has just been opened gives the book back
  pub unused : in_transaction b.levels ≡ false → (b.levels ≡ []) × (b.work.used ≡ [])
  unfolding in_transaction
  unused h = go b.levels h g.uses
    where
      go : (ls : List Level) → in_transaction ls ≡ false → Uses (length b.work.used) ls → (ls ≡ []) × (b.work.used ≡ [])
      go [] h u = (refl, length_zero b.work.used u)
      go (l ∷ ls) h u = absurd (true≢false h)

  opener_none : in_transaction b.levels ≡ false → b.opener ≡ 0
  unfolding opener_fits
  opener_none h = eqb→eq b.opener 0 (holds (subst (λ i. opener_fits i b.opener ≡ true) h g.heading))

  pub abort_push_first : (o : ℕ) (x : List ℤ) (closed : List (List ℤ)) → b.closed ≡ x ∷ closed → in_transaction b.levels ≡ false → abort (push o closed b) ≡ b
  unfolding push first_kept abort ended undo_to undo emptied undo_all
  abort_push_first o x closed e h =
      let ls : b.levels ≡ [] = (unused h).0 in
      let us : b.work.used ≡ [] = (unused h).1 in
      book_path
      (sym (opener_none h))
      (ap (λ l. first_kept l b.kept) ls)
      (sym ls)
      (ap (λ l. zero_levels (suc (length l)) ++ closed) ls ∙ push_closed x closed 0 e)
      (work_path (rw us refl) (sym us) (rw us (rw zero-add (sym g.clean))))

  close_closed : (j k : ℕ) → zero_levels k ++ (zero_levels j ++ b.closed) ≡ zero_levels (j + k) ++ b.closed
  close_closed j k = zeros_zeros _ k j b.closed

  pub back_close : (j k : ℕ) → j + k < length b.levels → back k (close j b) ≡ back (j + k) b
  unfolding close
  back_close j k h = back_agree _ (j + k) k b (close j b) (use_bound (j + k) h) (drop-drop k j b.levels) refl (close_closed j k) (λ m h. refl)

  all_closed : (j : ℕ) → j ≤ length b.levels → zero_levels (length (drop j b.levels)) ++ (zero_levels j ++ b.closed) ≡ zero_levels (length b.levels) ++ b.closed
  all_closed j h =
      let e : j + length (drop j b.levels) ≡ length b.levels = simp length-drop (omega arith) in
      close_closed j (length (drop j b.levels)) ∙ ap (λ m. zero_levels m ++ b.closed) e

  pub abort_close : (j : ℕ) → j < length b.levels → abort (close j b) ≡ abort b
  unfolding close
  abort_close j h = abort_agree b (close j b) (first_drop j b.levels b.kept h) (all_closed j (omega arith)) refl

  -- a rollback to a level, and one more
  back_is : (j : ℕ) (l : Level) (ls : List Level) → drop j b.levels ≡ l ∷ ls → back j b ≡ record { opener = b.opener; kept = l.kept; levels = l ∷ ls; closed = zero_levels j ++ b.closed; work = undo_to l.base b.work }
  unfolding back back_to
  back_is j l ls e = ap (λ m. back_to m j b) e

  pub levels_back : (j : ℕ) → j < length b.levels → (back j b).levels ≡ drop j b.levels
  levels_back j h = let (l, ls, e) = drop_some j b.levels h in ap (λ c. c.levels) (back_is j l ls e) ∙ sym e

  module _ (j : ℕ) (l : Level) (ls : List Level) (e : drop j b.levels ≡ l ∷ ls) where
    base_bound : j < length b.levels → l.base ≤ length b.work.used
    base_bound h = subst (Newest (length b.work.used)) e (use_bound j h)

    below : Uses l.base ls
    below = subst UsesOf e (uses_drop j (length b.work.used) b.levels g.uses)

    size : length b.levels - j ≡ suc (length ls)
    size = sym (length-drop j b.levels) ∙ ap length e

  pub back_back : (j k : ℕ) → j + k < length b.levels → back k (back j b) ≡ back (j + k) b
  back_back j k h =
      let (l, ls, e) = drop_some j b.levels (omega arith) in
      let f : drop k (l ∷ ls) ≡ drop (j + k) b.levels = ap (drop k) (sym e) ∙ drop-drop k j b.levels in
      ap (back k) (back_is j l ls e)
      ∙ back_agree l.base (j + k) k b _
      (subst (Newest l.base) f (newest l.base k (l ∷ ls) (omega arith, below j l ls e) (omega (arith, size j l ls e))))
      f refl (close_closed j k)
      (λ m h'. undo_to_undo_to m l.base b.work h' (base_bound j l ls e (omega arith)))

  pub abort_back : (j : ℕ) → j < length b.levels → abort (back j b) ≡ abort b
  abort_back j h =
      let (l, ls, e) = drop_some j b.levels h in
      ap abort (back_is j l ls e)
      ∙ abort_agree b _
      (ap (λ m. first_kept m l.kept) (sym e) ∙ first_drop j b.levels l.kept h ∙ first_any b.levels l.kept b.kept (some_open b.levels h))
      (ap (λ m. zero_levels (length m) ++ (zero_levels j ++ b.closed)) (sym e) ∙ all_closed j (omega arith))
      (undo_to_undo_to 0 l.base b.work (omega arith) (base_bound j l ls e h))
