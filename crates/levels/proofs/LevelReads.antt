-- Open levels, read from an area's words.
-- Assumes nothing.
use mathlib.Core.Path.{◌≡◌, refl, sym, ◌∙◌, ap, ap₂}
use mathlib.Core.List.{List, [], ◌∷◌, map, reverse}
use Prim.Native.Nat.{ℕ, zero, suc, ◌+◌, ◌-◌, ◌*◌, ◌≤◌, ◌<◌}
use native.Mathlib.Omega.{arith}
use borrow.Author.Tests.{le-leb}
use lib.Dec.{leb, leb→le}
use lib.IntN.{ℤ}
use lib.ListN.{length, get_or, take, drop, length-map, length-reverse, length-take, get_or-map, drop_of_length-le}
use lib.Seq.{drop-drop, drop-cons, get_or-take}
use Rattle.schema.specs.Records.{Schema}
use Rattle.schema.specs.Sizes.{area_size}
use Rattle.schema.proofs.RangeLaws.{every_at}
use Rattle.rules.specs.Lists.{𝟘, chunks}
use Rattle.rules.specs.Values.{nat_of}
use Rattle.rules.specs.Book.{Level, Book, with_work, undo_to, close, back, back_to, first_kept}
use Rattle.rules.specs.State.{in_transaction}
use Rattle.rules.specs.Area.{view, level_of, level_part, legible}
use Rattle.bridge.specs.Fit.{Fit}
use Rattle.bridge.proofs.Tests.{holds}
use Rattle.bridge.proofs.Views.{length_chunks}
use Rattle.bridge.proofs.RowWords.{get_d_chunks, part_take}
use Rattle.levels.specs.Parts.{with_kept}
use Rattle.levels.proofs.Stacks.{reverse_take, drop_reverse}

abbrev no_level : Level
no_level = record { base = 0; kept = [] }

-- a transaction is open where a level is
pub inside_is : (ls : List Level) → in_transaction ls ≡ leb 1 (length ls)
unfolding in_transaction
inside_is [] = refl
inside_is (l ∷ ls) = sym (le-leb 1 (suc (length ls)) (omega arith))

-- a rollback to a level: its kept numbers, the levels above it closed, the journal undone to its use
pub back_parts : (k : ℕ) (b : Book) (l : Level) (ls : List Level) → drop k b.levels ≡ l ∷ ls → back k b ≡ with_kept l.kept (close k (with_work (undo_to l.base b.work) b))
unfolding back back_to close
back_parts k b l ls e = ap (λ m. back_to m k b) e ∙ (λ i. record { opener = b.opener; kept = l.kept; levels = sym e i; closed = (close k b).closed; work = undo_to l.base b.work })

first_last : (k : ℕ) (ls : List Level) (l : Level) (d : List ℤ) → drop k ls ≡ l ∷ [] → first_kept ls d ≡ l.kept
unfolding first_kept
first_last zero ls l d e = ap (λ m. first_kept m d) e
first_last (suc k) [] l d e = absurd (let z : ◌≡◌ {A = ℕ} 0 1 = ap length e in omega arith)
first_last (suc k) (m ∷ ls) l d e = first_last k ls l m.kept e

module _ {s : Schema} {a : List ℤ} (f : Fit s a) where
  few : nat_of (get_or a 0 𝟘) ≤ 9
  unfolding legible
  few = leb→le _ 9 (holds (every_at _ f.legible_is 1 (omega arith)))

  pub level_count : length (view s a).levels ≡ nat_of (get_or a 0 𝟘)
  unfolding view level_part
  level_count = simp (length-reverse, length-map, length-take, length_chunks) (omega (arith, few))

  pub levels_few : length (view s a).levels ≤ 9
  levels_few = omega (arith, few, level_count)

  -- level i, counted from 0 at the bottom
  abbrev level_at : ℕ → Level
  level_at i = record { base = nat_of (get_or a (36 + i * 33) 𝟘); kept = take 32 (drop (37 + i * 33) a) }

  level_words : (i : ℕ) → i < 9 → level_of (get_or (level_part a) i []) ≡ record { base = nat_of (get_or a (36 + i * 33) 𝟘); kept = take 32 (drop (37 + i * 33) a) }
  unfolding level_part level_of area_size
  level_words i h =
      let p : ℕ = 36 + i * 33 in
      let e : suc p ≡ 37 + i * 33 = omega arith in
      let q : 4 + 32 + i * 33 ≡ p = omega arith in
      let r : get_or (chunks 33 9 (take 297 (drop 32 (drop 4 a)))) i [] ≡ take 33 (drop p a) =
      get_d_chunks 33 9 i (take 297 (drop 32 (drop 4 a))) h
      ∙ part_take 33 (i * 33) 297 (drop 32 (drop 4 a)) (omega arith)
      ∙ ap (λ l. take 33 (drop (i * 33) l)) (drop-drop 32 4 a)
      ∙ ap (take 33) (drop-drop (i * 33) 36 a) in
      ap level_of (r ∙ ap (take 33) (drop-cons a p 𝟘 (omega (arith, f.size)) ∙ ap (λ n. get_or a p 𝟘 ∷ drop n a) e))

  pub level_found : (i : ℕ) → i < length (view s a).levels
      → drop (length (view s a).levels - suc i) (view s a).levels ≡ record { base = nat_of (get_or a (36 + i * 33) 𝟘); kept = take 32 (drop (37 + i * 33) a) } ∷ drop (length (view s a).levels - i) (view s a).levels
  unfolding view level_of
  level_found i h =
      let n : ℕ = nat_of (get_or a 0 𝟘) in
      let xs : List Level = map level_of (take n (level_part a)) in
      let lx : length xs ≡ n = sym (length-reverse xs) ∙ level_count in
      let lr : length (reverse xs) ≡ length xs = length-reverse xs in
      let p : length xs - (length (reverse xs) - suc i) ≡ suc i = omega arith in
      let q : length xs - (length (reverse xs) - i) ≡ i = omega arith in
      let at : get_or xs i no_level ≡ level_at i =
      get_or-map level_of (take n (level_part a)) i [] ∙ ap level_of (get_or-take n (level_part a) i [] (omega arith)) ∙ level_words i (omega (arith, few)) in
      drop_reverse (length (reverse xs) - suc i) xs (omega arith)
      ∙ ap (λ k. reverse (take k xs)) p
      ∙ reverse_take xs i no_level (omega arith)
      ∙ ap₂ (λ x l. x ∷ l) at (sym (drop_reverse (length (reverse xs) - i) xs (omega arith) ∙ ap (λ k. reverse (take k xs)) q))

  pub first_kept_lem : 0 < length (view s a).levels → (d : List ℤ) → first_kept (view s a).levels d ≡ take 32 (drop 37 a)
  first_kept_lem h d =
      let n : ℕ = length (view s a).levels in
      let none : drop (n - 0) (view s a).levels ≡ [] = drop_of_length-le (view s a).levels {i = n - 0} (omega arith) in
      first_last (n - 1) (view s a).levels (level_at 0) d (level_found 0 h ∙ ap (λ l. level_at 0 ∷ l) none)
