-- Every call leaves a good book good; and what each call can come to.
-- Assumes nothing.
use mathlib.Core.Path.{◌≡◌, refl, sym, ◌∙◌, ap, ap₂, subst}
use mathlib.Core.Bool.{true, false, false≢true}
use mathlib.Core.List.{List, [], ◌∷◌, ◌++◌, map}
use Prim.Native.Nat.{ℕ, zero, suc, ◌+◌, ◌-◌, ◌≤◌, ◌<◌}
use native.Mathlib.Omega.{arith}
use lib.Dec.{leb, eqb, le→leb}
use lib.IntN.{ℤ, pos}
use lib.ListN.{length, drop, get_or, length-drop, replicate, length-append, length-replicate, replicate-append-replicate}
use Rattle.bridge.proofs.Books.{sized, work_path, book_path}
use Rattle.bridge.proofs.Shapes.{shaped_fresh}
use Rattle.bridge.proofs.Tests.{and_both, passes, all_cons, all_append, all_drop}
use Rattle.bridge.proofs.NullKeys.{vacant_orphan}
use Rattle.bridge.proofs.Zeros.{clean_rest, clean_more}
use Rattle.bridge.proofs.Undo.{Undoes, nine, shaped_after}
use Rattle.laws.proofs.Back.{Good, Uses, some_open, moved, unused}
use Rattle.rules.specs.Book.{Level, Work, Book, zero_records, zero_levels, emptied, cleared, close, ended, blank, fresh, push}
use Rattle.rules.specs.Keys.{counts, orphans, orphan}
use Rattle.rules.specs.Lists.{𝟘, count}
use Rattle.rules.specs.Rows.{Row, live, live_state}
use Rattle.rules.specs.State.{in_transaction, opener_fits, kept_in_range, saved_in_range, placed, uses_rise, undamaged}
use Rattle.rules.specs.Statement.{after_statement, journal_after}
use Rattle.rules.specs.Values.{nat_of, same_word, in_range}
use Rattle.schema.proofs.SchemaLaws.{Valid}
use Rattle.schema.specs.Ranges.{all}
use Rattle.schema.specs.Records.{table_of, Schema, ForeignKey, Table}
use Rattle.bridge.proofs.Counts.{length_counts_32}

clean_zeros : {A : Type 0} (z : A) (n : ℕ) → replicate n z ≡ replicate (length (replicate n z)) z
clean_zeros z n = ap (λ m. replicate m z) (sym (length-replicate n z))

uses_raise : (n m : ℕ) (ls : List Level) → in_transaction ls ≡ true → n ≤ m → Uses n ls → Uses m ls
unfolding in_transaction
uses_raise n m [] h le u = absurd (false≢true h)
uses_raise n m (l ∷ ls) h le u = (omega (arith, u.0), u.1)

open_drop : (j : ℕ) (ls : List Level) → j < length ls → in_transaction (drop j ls) ≡ true
unfolding in_transaction
open_drop j [] h = absurd (omega arith)
open_drop zero (l ∷ ls) h = refl
open_drop (suc j) (l ∷ ls) h = open_drop j ls (omega arith)

uses_keep : (j n : ℕ) (ls : List Level) → j < length ls → Uses n ls → Uses n (drop j ls)
uses_keep j n [] h u = absurd (omega arith)
uses_keep zero n (l ∷ ls) h u = u
uses_keep (suc j) n (l ∷ ls) h u =
    uses_raise l.base n (drop j ls) (open_drop j ls (omega arith)) u.0 (uses_keep j l.base ls (omega arith) u.1)

module _ {s : Schema} {b : Book} (g : Good s b) where
  pub cleared_is : cleared b ≡ b
  unfolding cleared
  cleared_is = book_path refl refl refl refl (work_path refl refl (sym g.clean))

  room_after : (w : Work) → Undoes s b.work w → length w.used + length w.spare ≡ s.room
  room_after w u =
      let p : length w.used ≡ length u.new + length b.work.used = ap length u.used_is ∙ length-append u.new b.work.used in
      let q : length b.work.spare ≡ length u.gone + length w.spare = ap length u.spare_is ∙ length-append u.gone w.spare in
      omega (arith, u.sizes, g.room)

  pub good_moved : (w : Work) → Undoes s b.work w → in_transaction b.levels ≡ true → kept_in_range s s.keys (counts s w.tabs) ≡ true → Good s (moved (counts s w.tabs) w b)
  good_moved w u h f =
      record {
        clean = clean_rest _ u.gone w.spare (subst (λ l. l ≡ zero_records (length l)) u.spare_is g.clean);
        closed_zero = g.closed_zero;
        uses = uses_raise (length b.work.used) (length w.used) b.levels h (rw u.used_is (simp length-append (omega arith))) g.uses;
        counted = refl;
        heading = g.heading;
        fits = f;
        saved = g.saved;
        places = rw u.used_is (all_append (placed s) u.new b.work.used u.places g.places);
        shaped = shaped_after u g.shaped;
        olds = rw u.used_is (all_append nine u.new b.work.used u.olds g.olds);
        sizes = g.sizes;
        levels_nine = g.levels_nine;
        room = room_after w u;
      }

  pub good_push : (o : ℕ) (x : List ℤ) (closed : List (List ℤ)) → b.closed ≡ x ∷ closed → opener_fits true o ≡ true → length s.keys ≤ 32 → Good s (push o closed b)
  unfolding push in_transaction saved_in_range sized
  good_push o x closed e t few =
      record {
        clean = g.clean;
        closed_zero = clean_rest _ (x ∷ []) closed (subst (λ l. l ≡ zero_levels (length l)) e g.closed_zero);
        uses = (omega arith, g.uses);
        counted = g.counted;
        heading = t;
        fits = g.fits;
        saved = all_cons (saved_in_range s) _ b.levels g.fits g.saved;
        places = g.places;
        shaped = g.shaped;
        olds = g.olds;
        sizes = all_cons sized _ b.levels (ap (λ l. eqb (length l) 32) g.counted ∙ ap (λ n. eqb n 32) (length_counts_32 s few b.work.tabs)) g.sizes;
        levels_nine = omega (arith, ap length e, g.levels_nine);
        room = g.room;
      }

  zero_closed : (n : ℕ) → zero_levels n ++ b.closed ≡ zero_levels (length (zero_levels n ++ b.closed))
  zero_closed n = clean_more _ n b.closed g.closed_zero

  pub good_close : (j : ℕ) → j < length b.levels → Good s (close j b)
  unfolding close
  good_close j h =
      record {
        clean = g.clean;
        closed_zero = zero_closed j;
        uses = uses_keep j (length b.work.used) b.levels h g.uses;
        counted = g.counted;
        heading = subst (λ i. opener_fits i b.opener ≡ true) (some_open b.levels h ∙ sym (open_drop j b.levels h)) g.heading;
        fits = g.fits;
        saved = all_drop (saved_in_range s) j b.levels g.saved;
        places = g.places;
        shaped = g.shaped;
        olds = g.olds;
        sizes = all_drop sized j b.levels g.sizes;
        levels_nine = simp (length-append, length-drop, length-replicate) (omega (arith, g.levels_nine));
        room = g.room;
      }

  pub good_ended : Good s (ended b.kept b.work b)
  unfolding ended emptied in_transaction opener_fits all
  good_ended =
      record {
        clean = clean_zeros (replicate 10 𝟘) (length b.work.used + length b.work.spare);
        closed_zero = zero_closed (length b.levels);
        uses = refl;
        counted = g.counted;
        heading = refl;
        fits = g.fits;
        saved = refl;
        places = refl;
        shaped = g.shaped;
        olds = refl;
        sizes = refl;
        levels_nine = simp (length-append, length-replicate) (omega (arith, g.levels_nine));
        room = simp length-replicate (omega (arith, g.room));
      }

  pub good_alone : (w : Work) → Undoes s b.work w → in_transaction b.levels ≡ false → kept_in_range s s.keys (counts s w.tabs) ≡ true → Good s (after_statement w (counts s w.tabs) b)
  unfolding after_statement journal_after emptied all
  good_alone w u h f =
      rw h (record {
        clean = clean_zeros _ (length w.used + length w.spare);
        closed_zero = g.closed_zero;
        uses = subst (Uses 0) (sym (unused g h).0) refl;
        counted = refl;
        heading = g.heading;
        fits = f;
        saved = g.saved;
        places = refl;
        shaped = shaped_after u g.shaped;
        olds = refl;
        sizes = g.sizes;
        levels_nine = g.levels_nine;
        room = simp length-replicate (omega (arith, room_after w u));
      })

-- no row of a fresh area is live
module _ (k : ForeignKey) (parents : List Row) where
  none_live : (n c : ℕ) → count (orphan k parents) (replicate n (replicate (suc c) 𝟘)) ≡ 0
  unfolding count live live_state nat_of
  none_live zero c = refl
  none_live (suc n) c = rw (vacant_orphan k parents (replicate (suc c) 𝟘) refl, count) (none_live n c)

  none_orphaned : (ts : List Table) (i : ℕ) → count (orphan k parents) (get_or (map blank ts) i []) ≡ 0
  unfolding blank
  none_orphaned [] i = none_live 0 0
  none_orphaned (t ∷ ts) zero = none_live t.rows t.columns
  none_orphaned (t ∷ ts) (suc i) = none_orphaned ts i

map_zero : {A : Type 0} (f : A → ℤ) (xs : List A) → ((x : A) → f x ≡ 𝟘) → map f xs ≡ replicate (length xs) 𝟘
map_zero f [] h = refl
map_zero f (x ∷ xs) h = ap₂ (λ a l. a ∷ l) (h x) (map_zero f xs h)

fresh_counts : (s : Schema) → length s.keys ≤ 32 → replicate 32 𝟘 ≡ counts s (map blank s.tables)
unfolding counts orphans
fresh_counts s few =
    let f : ForeignKey → ℤ = λ k. pos (orphans (map blank s.tables) k) in
    let e : map f s.keys ≡ replicate (length s.keys) 𝟘 = map_zero f s.keys (λ k. ap pos (none_orphaned k (get_or (map blank s.tables) k.parent []) s.tables k.child)) in
    let n : length s.keys + (32 - length s.keys) ≡ 32 = omega arith in
    sym (ap (λ l. l ++ replicate (32 - length l) 𝟘) e ∙ ap (λ m. replicate (length s.keys) 𝟘 ++ replicate (32 - m) 𝟘) (length-replicate (length s.keys) 𝟘) ∙ replicate-append-replicate (length s.keys) (32 - length s.keys) 𝟘 ∙ ap (λ m. replicate m 𝟘) n)

zeros_in_range : (s : Schema) (ks : List ForeignKey) (n : ℕ) → kept_in_range s ks (replicate n 𝟘) ≡ true
unfolding kept_in_range same_word in_range
zeros_in_range s ks zero = refl
zeros_in_range s [] (suc n) = zeros_in_range s [] n
zeros_in_range s (k ∷ ks) (suc n) = and_both (passes (leb 0 (table_of s k.child).rows) (le→leb 0 (table_of s k.child).rows (omega arith))) (zeros_in_range s ks n)

pub good_fresh : {s : Schema} → Valid s → Good s (fresh s)
unfolding fresh opener_fits in_transaction all
good_fresh {s} v = record { clean = clean_zeros _ s.room; closed_zero = refl; uses = refl; counted = fresh_counts s v.few; heading = refl; fits = zeros_in_range s s.keys 32; saved = refl; places = refl; shaped = shaped_fresh s; olds = refl; sizes = refl; levels_nine = refl; room = simp length-replicate (omega arith) }

uses_rise_lem : (n : ℕ) (ls : List Level) → Uses n ls → uses_rise n ls ≡ true
unfolding uses_rise
uses_rise_lem n [] u = rw u refl
uses_rise_lem n (l ∷ ls) u = and_both (passes (leb l.base n) (le→leb l.base n u.0)) (uses_rise_lem l.base ls u.1)

-- a good book is never refused by 10
pub good_undamaged : {s : Schema} {b : Book} → Good s b → undamaged s b ≡ true
unfolding undamaged
good_undamaged {s} {b} g =
    and_both (and_both (and_both (and_both g.heading g.fits) g.saved) (uses_rise_lem (length b.work.used) b.levels g.uses)) g.places
