-- The journal's words past the records in use, where they are zero.
-- Assumes nothing.
use mathlib.Core.Path.{◌≡◌, refl, sym, ap, subst, ◌∙◌}
use mathlib.Core.Bool.{Bool}
use mathlib.Core.List.{List, ◌++◌, append_assoc}
use Prim.Native.Nat.{ℕ, ◌+◌, ◌*◌, ◌-◌, ◌≤◌}
use native.Mathlib.Omega.{arith}
use lib.IntN.{ℤ}
use lib.ListN.{length, get_or, take, drop, replicate, drop_of_length-le, replicate-append-replicate}
use lib.Seq.{take-take, drop_at, length-take-le}
use Rattle.schema.specs.Records.{Schema}
use Rattle.schema.specs.Sizes.{rows_size, rows_start}
use Rattle.rules.specs.Lists.{𝟘}
use Rattle.rules.specs.Values.{nat_of}
use Rattle.rules.specs.Area.{words, view}
use Rattle.rules.specs.Book.{Work, zero_records, undo, undo_to, cleared}
use Rattle.bridge.specs.Fit.{work_of, Fit, Keeps}
use Rattle.bridge.proofs.Books.{work_path, book_path}
use Rattle.bridge.proofs.ClearWords.{words_cleared}
use Rattle.bridge.proofs.Undo.{Undoes}
use Rattle.bridge.proofs.Views.{words_view}
use Rattle.bridge.proofs.Zeros.{clean_rest, clean_more}
use Rattle.area.specs.Spare.{Spare, DirtyEnd}
use Rattle.area.specs.Undone.{Undone}
use Rattle.area.proofs.Places.{area_long}
use Rattle.area.proofs.Journal.{use_in_room}

-- what is undone leaves zeros
pub undone_clean : (n : ℕ) (w : Work) → w.spare ≡ zero_records (length w.spare) → (undo_to n w).spare ≡ zero_records (length (undo_to n w).spare)
unfolding undo_to undo
undone_clean n w e = clean_more _ (length w.used - n) w.spare e

module _ {s : Schema} {a : List ℤ} (f : Fit s a) (clean : (work_of s a).spare ≡ zero_records (length (work_of s a).spare)) where
  -- there is nothing to clear
  pub cleared_same : a ≡ words (cleared (view s a))
  unfolding cleared work_of
  cleared_same =
      let same : cleared (view s a) ≡ view s a = book_path refl refl refl refl (work_path refl refl (sym clean)) in
      sym (ap words same ∙ words_view s a f.size f.legible_is)

  -- every word past the records in use is zero
  pub used_end : (p : ℕ) → p ≡ rows_start + rows_size s.tables + nat_of (get_or a 2 𝟘) * 10 → DirtyEnd s a p
  used_end p e =
      let inside : p ≤ length a = omega (arith, use_in_room f, area_long f) in
      let whole : a ≡ take p a ++ replicate (length a - p) 𝟘 = cleared_same ∙ words_cleared f p e in
      record { after = omega arith; inside = inside; zeros = ap (drop p) whole ∙ drop_at (take p a) (replicate (length a - p) 𝟘) p (length-take-le p a inside) }

-- undone to the use n, and clean before it
pub undone_same : {s : Schema} (n : ℕ) {a a' : List ℤ} → (work_of s a).spare ≡ zero_records (length (work_of s a).spare) → work_of s a' ≡ undo_to n (work_of s a) → Keeps s a a' → Undone s n a a'
undone_same {s} n {a} {a'} clean e k =
    let now_clean : (work_of s a').spare ≡ zero_records (length (work_of s a').spare) = rw e (undone_clean n (work_of s a) clean) in
    record { mid = a'; keeps = k; work = e; cleared_is = cleared_same k.fit now_clean }

-- nothing is known: they may reach to the end
pub whole_end : {s : Schema} {a : List ℤ} → Fit s a → DirtyEnd s a (length a)
whole_end {s} {a} f =
    let n : length a - length a ≡ 0 = omega arith in
    record { after = omega (arith, area_long f); inside = omega arith; zeros = rw n (drop_of_length-le a {i = length a} (omega arith)) }

-- the part up to where the zeros begin
module _ {s : Schema} {a : List ℤ} {p : ℕ} (d : DirtyEnd s a p) where
  pub part_length : length (take (p - 0) a) ≡ p
  part_length = let z : p - 0 ≡ p = omega arith in rw z (length-take-le p a d.inside)

  -- zeroed from `at` on: so all is zero from `at` on
  pub part_cleared : (at : ℕ) → at ≤ p → {part : List ℤ} → part ≡ take at (take (p - 0) a) ++ replicate (length (take (p - 0) a) - at) 𝟘 → part ++ drop (p - 0) a ≡ take at a ++ replicate (length a - at) 𝟘
  part_cleared at h e =
      let z : p - 0 ≡ p = omega arith in
      let n : p - at + (length a - p) ≡ length a - at = omega (arith, d.inside) in
      rw (e, part_length, z, take-take at p a h, d.zeros, append_assoc, replicate-append-replicate (p - at) (length a - p) 𝟘, n) refl

-- what is known of them after a step
module _ (s : Schema) (a a' : List ℤ) {clean : Bool} (h : Spare clean s a) where
  pub spare_same : work_of s a' ≡ work_of s a → Spare clean s a'
  spare_same e c = rw e (h c)

  pub spare_undone : (n : ℕ) → work_of s a' ≡ undo_to n (work_of s a) → Spare clean s a'
  spare_undone n e c = rw e (undone_clean n (work_of s a) (h c))

  pub spare_changed : Undoes s (work_of s a) (work_of s a') → Spare clean s a'
  spare_changed u c = clean_rest _ u.gone (work_of s a').spare (subst (λ l. l ≡ zero_records (length l)) u.spare_is (h c))
