-- Levels opened and closed, kept numbers and opener replaced, by an area's words.
-- Assumes nothing.
use mathlib.Core.Path.{◌≡◌, refl, sym, ◌∙◌, ap, ap₂}
use mathlib.Core.Bool.{true}
use mathlib.Core.List.{List, [], ◌∷◌, ◌++◌, map, reverse, reverse-reverse}
use Prim.Native.Nat.{ℕ, suc, ◌+◌, ◌-◌, ◌*◌, ◌≤◌, ◌<◌}
use native.Mathlib.Nat.{zero-add, le_of_lt}
use native.Mathlib.Omega.{arith}
use lib.Dec.{eqb}
use lib.IntN.{ℤ, pos}
use lib.ListN.{length, get_or, set, take, drop, replicate, length-map, length-reverse, length-append, length-replicate, length-drop}
use lib.Seq.{sets, drop-cons, drop_at, take-append-le}
use Rattle.std.proofs.lemmas.List.{take-map}
use Rattle.schema.specs.Ranges.{all}
use Rattle.schema.specs.Records.{Schema}
use Rattle.schema.specs.Sizes.{area_size}
use Rattle.rules.specs.Lists.{𝟘, flat}
use Rattle.rules.specs.Book.{Level, Book, zero_levels, push, close}
use Rattle.rules.specs.Area.{words, view, level_words, entry_words}
use Rattle.bridge.specs.Fit.{Fit, Holds}
use Rattle.bridge.proofs.Tests.{all_cons, all_append, all_drop}
use Rattle.bridge.proofs.Books.{sized}
use Rattle.bridge.proofs.Views.{splice, splice_right, splice_left, splice_whole, flat_set, words_view}
use Rattle.bridge.proofs.JournalWords.{flat_sized, sized_at}
use Rattle.bridge.proofs.RoundTrip.{Formed, of_size, all_zeros, level_list, levels_sized, levels_count, levels_length, flat_zeros}
use Rattle.bridge.proofs.RowWords.{formed_fit, sets_splice}
use Rattle.bridge.proofs.HoldLaws.{holds_words, then_step}
use Rattle.bridge.proofs.AreaParts.{flat_append}
use Rattle.levels.specs.Parts.{with_kept, with_opener}
use Rattle.levels.proofs.Stacks.{flat_take, flat_drop, drop_reverse, stack_push}

-- the words of all levels, and the words past them
abbrev levels_of : Book → List (List ℤ)
levels_of b = map level_words (reverse b.levels) ++ b.closed

abbrev rest_of : Book → List ℤ
rest_of b = flat (map flat b.work.tabs) ++ flat (map entry_words (reverse b.work.used) ++ b.work.spare)

-- a book that differs in its levels only
words_levels : (b b' : Book) (m : ℕ) (ys : List ℤ) → length b.kept ≡ 32 → b'.opener ≡ b.opener → b'.kept ≡ b.kept → b'.work ≡ b.work → m + length ys ≤ length (flat (levels_of b))
    → flat (levels_of b') ≡ splice m ys (flat (levels_of b))
    → words b' ≡ set (splice (36 + m) ys (words b)) 0 (pos (length b'.levels))
unfolding words
words_levels b b' m ys k32 eo ek ew le el =
    let hs : List ℤ = pos (length b.levels) ∷ pos b.opener ∷ pos (length b.work.used) ∷ 𝟘 ∷ [] in
    let ls : List ℤ = flat (levels_of b) in
    let e : splice (4 + (length b.kept + m)) ys (words b) ≡ hs ++ (b.kept ++ (splice m ys ls ++ rest_of b)) =
    splice_right hs (length b.kept + m) ys (b.kept ++ (ls ++ rest_of b))
    ∙ ap (λ z. hs ++ z) (splice_right b.kept m ys (ls ++ rest_of b) ∙ ap (λ z. b.kept ++ z) (splice_left ls m ys (rest_of b) le)) in
    let q : 36 + m ≡ 4 + (length b.kept + m) = omega arith in
    ap₂ (λ o w. (pos (length b'.levels) ∷ pos o ∷ pos (length w.used) ∷ 𝟘 ∷ []) ++ (b'.kept ++ (flat (levels_of b') ++ (flat (map flat w.tabs) ++ flat (map entry_words (reverse w.used) ++ w.spare))))) eo ew
    ∙ ap₂ (λ k l. (pos (length b'.levels) ∷ pos b.opener ∷ pos (length b.work.used) ∷ 𝟘 ∷ []) ++ (k ++ (l ++ rest_of b))) ek el
    ∙ ap (λ z. set z 0 (pos (length b'.levels))) (sym (ap (λ n. splice n ys (words b)) q ∙ e))

words_kept : (b : Book) (kept : List ℤ) → length kept ≡ length b.kept → words (with_kept kept b) ≡ splice 4 kept (words b)
unfolding words
words_kept b kept l =
    let hs : List ℤ = pos (length b.levels) ∷ pos b.opener ∷ pos (length b.work.used) ∷ 𝟘 ∷ [] in
    sym (splice_right hs 0 kept (b.kept ++ (flat (levels_of b) ++ rest_of b))
    ∙ ap (λ z. hs ++ z) (splice_left b.kept 0 kept (flat (levels_of b) ++ rest_of b) (rw zero-add (omega arith)) ∙ ap (λ z. z ++ (flat (levels_of b) ++ rest_of b)) (splice_whole b.kept kept l)))

module _ {s : Schema} {a : List ℤ} (f : Fit s a) where
  formed : Formed s (view s a)
  formed = formed_fit f

  all_words : words (view s a) ≡ a
  all_words = words_view s a f.size f.legible_is

  long : 333 ≤ length a
  unfolding area_size
  long = omega (arith, f.size)

  levels_all : all (of_size 33) (levels_of (view s a)) ≡ true
  unfolding level_list
  levels_all = levels_sized formed

  levels_nine : length (levels_of (view s a)) ≡ 9
  unfolding level_list
  levels_nine = levels_count formed

  flat_297 : length (flat (levels_of (view s a))) ≡ 297
  unfolding level_list
  flat_297 = levels_length formed

  -- ---- kept numbers and opener

  pub kept_put : {a' : List ℤ} (kept : List ℤ) → length kept ≡ 32 → a' ≡ sets a 4 kept → Holds s a' (with_kept kept (view s a))
  kept_put kept l e =
      holds_words
      (record {
        kept_length = l;
        sizes = formed.sizes;
        shuts = formed.shuts;
        levels_nine = formed.levels_nine;
        shaped = formed.shaped;
        olds = formed.olds;
        places = formed.places;
        spares = formed.spares;
        room = formed.room;
      })
      (e ∙ sym (words_kept (view s a) kept (l ∙ sym formed.kept_length) ∙ ap (splice 4 kept) all_words ∙ sets_splice 4 kept a (omega (arith, long))))

  pub opener_put : {a' : List ℤ} (opener : ℕ) → a' ≡ set a 1 (pos opener) → Holds s a' (with_opener opener (view s a))
  unfolding words
  opener_put opener e =
      holds_words
      (record {
        kept_length = formed.kept_length;
        sizes = formed.sizes;
        shuts = formed.shuts;
        levels_nine = formed.levels_nine;
        shaped = formed.shaped;
        olds = formed.olds;
        places = formed.places;
        spares = formed.spares;
        room = formed.room;
      })
      (e ∙ ap (λ l. set l 1 (pos opener)) (sym all_words))

  -- ---- the next level

  module _ (some : 0 < length (view s a).closed) where
    abbrev b : Book
    b = view s a

    abbrev n : ℕ
    n = length (view s a).levels

    abbrev l : Level
    l = record { base = length (view s a).work.used; kept = (view s a).kept }

    closed_is : (view s a).closed ≡ get_or (view s a).closed 0 [] ∷ drop 1 (view s a).closed
    closed_is = drop-cons (view s a).closed 0 [] some

    level_33 : length (level_words (record { base = length (view s a).work.used; kept = (view s a).kept })) ≡ 33
    unfolding level_words
    level_33 = ap suc formed.kept_length

    below_nine : length (view s a).levels < 9
    below_nine = omega (arith, formed.levels_nine, some)

    push_flat : flat (levels_of (push (view s a).opener (drop 1 (view s a).closed) (view s a))) ≡ splice (length (view s a).levels * 33) (level_words (record { base = length (view s a).work.used; kept = (view s a).kept })) (flat (levels_of (view s a)))
    unfolding push
    push_flat =
        let lt : n < length (levels_of b) = omega (arith, levels_nine, below_nine) in
        ap flat (stack_push level_words l b.levels (get_or b.closed 0 []) (drop 1 b.closed) ∙ ap (λ c. set (map level_words (reverse b.levels) ++ c) n (level_words l)) (sym closed_is))
        ∙ flat_set (levels_of b) n (level_words l) lt (level_33 ∙ sym (sized_at 33 (levels_of b) levels_all n lt))
        ∙ ap (λ m. splice m (level_words l) (flat (levels_of b))) (flat_sized 33 n (levels_of b) levels_all (le_of_lt lt))

    push_formed : Formed s (push (view s a).opener (drop 1 (view s a).closed) (view s a))
    unfolding push sized
    push_formed =
        record {
          kept_length = formed.kept_length;
          sizes = all_cons sized l b.levels (ap (λ n. eqb n 32) formed.kept_length) formed.sizes;
          shuts = all_drop (of_size 33) 1 b.closed formed.shuts;
          levels_nine = simp length-drop (omega (arith, formed.levels_nine, some));
          shaped = formed.shaped;
          olds = formed.olds;
          places = formed.places;
          spares = formed.spares;
          room = formed.room;
        }

    pub level_opened : {a' : List ℤ} → a' ≡ set (sets a (36 + length (view s a).levels * 33) (level_words (record { base = length (view s a).work.used; kept = (view s a).kept }))) 0 (pos (suc (length (view s a).levels)))
        → Holds s a' (push (view s a).opener (drop 1 (view s a).closed) (view s a))
    unfolding push
    level_opened e =
        let fits : 36 + n * 33 + length (level_words l) ≤ length a = omega (arith, level_33, below_nine, long) in
        holds_words push_formed
        (e
        ∙ sym (words_levels b (push (view s a).opener (drop 1 b.closed) b) (n * 33) (level_words l) formed.kept_length refl refl refl (omega (arith, level_33, below_nine, flat_297)) push_flat
        ∙ ap (λ z. set (splice (36 + n * 33) (level_words l) z) 0 (pos (suc n))) all_words
        ∙ ap (λ z. set z 0 (pos (suc n))) (sets_splice (36 + n * 33) (level_words l) a fits)))

  -- ---- levels closed

  module _ (n : ℕ) (le : n ≤ length (view s a).levels) where
    abbrev b' : Book
    b' = view s a

    abbrev left : ℕ
    left = length (view s a).levels - n

    stack_length : length (map level_words (reverse (view s a).levels)) ≡ length (view s a).levels
    stack_length = simp (length-map, length-reverse)

    reverse_back : (xs : List Level) → n ≤ length xs → reverse (drop n xs) ≡ take (length xs - n) (reverse xs)
    reverse_back xs h =
        let q : length (reverse xs) ≡ length xs = length-reverse xs in
        ap (λ l. reverse (drop n l)) (sym (reverse-reverse xs))
        ∙ ap reverse (drop_reverse n (reverse xs) (omega arith))
        ∙ reverse-reverse (take (length (reverse xs) - n) (reverse xs))
        ∙ ap (λ k. take (k - n) (reverse xs)) q

    close_flat : flat (levels_of (close n (view s a))) ≡ splice ((length (view s a).levels - n) * 33) (replicate (n * 33) 𝟘) (flat (levels_of (view s a)))
    unfolding close
    close_flat =
        let st : List (List ℤ) = map level_words (reverse b'.levels) in
        let k9 : length b'.levels ≤ length (levels_of b') = simp (length-append, length-map, length-reverse) (omega arith) in
        let front : map level_words (reverse (drop n b'.levels)) ≡ take left (levels_of b') =
        ap (map level_words) (reverse_back b'.levels le) ∙ sym (take-map level_words left (reverse b'.levels)) ∙ sym (take-append-le left st b'.closed (omega (arith, stack_length))) in
        let back : b'.closed ≡ drop (length b'.levels) (levels_of b') = sym (drop_at st b'.closed (length b'.levels) stack_length) in
        let zs : flat (zero_levels n) ≡ replicate (n * 33) 𝟘 = flat_zeros 𝟘 33 n in
        let q : left * 33 + length (replicate (n * 33) 𝟘) ≡ length b'.levels * 33 = simp length-replicate (omega arith) in
        ap₂ (λ x y. flat (x ++ (zero_levels n ++ y))) front back
        ∙ flat_append (take left (levels_of b')) (zero_levels n ++ drop (length b'.levels) (levels_of b'))
        ∙ ap (λ z. flat (take left (levels_of b')) ++ z) (flat_append (zero_levels n) (drop (length b'.levels) (levels_of b')))
        ∙ ap₂ (λ x y. x ++ (flat (zero_levels n) ++ y)) (sym (flat_take 33 left (levels_of b') levels_all (omega (arith, k9)))) (sym (flat_drop 33 (length b'.levels) (levels_of b') levels_all k9))
        ∙ ap₂ (λ z m. take (left * 33) (flat (levels_of b')) ++ (z ++ drop m (flat (levels_of b')))) zs (sym q)

    close_formed : Formed s (close n (view s a))
    unfolding close
    close_formed =
        record {
          kept_length = formed.kept_length;
          sizes = all_drop sized n b'.levels formed.sizes;
          shuts = all_append (of_size 33) (zero_levels n) b'.closed (all_zeros 33 𝟘 n) formed.shuts;
          levels_nine = simp (length-append, length-drop, length-replicate) (omega (arith, formed.levels_nine));
          shaped = formed.shaped;
          olds = formed.olds;
          places = formed.places;
          spares = formed.spares;
          room = formed.room;
        }

    pub levels_closed : {a' : List ℤ} → a' ≡ set (sets a (36 + (length (view s a).levels - n) * 33) (replicate (n * 33) 𝟘)) 0 (pos (length (view s a).levels - n)) → Holds s a' (close n (view s a))
    unfolding close words
    levels_closed e =
        let m : ℕ = left * 33 in
        let zs : List ℤ = replicate (n * 33) 𝟘 in
        let lz : length zs ≡ n * 33 = length-replicate (n * 33) 𝟘 in
        let nine : length b'.levels ≤ 9 = omega (arith, formed.levels_nine) in
        let q : length (drop n b'.levels) ≡ left = length-drop n b'.levels in
        let fits : 36 + m + length zs ≤ length a = omega (arith, long) in
        holds_words close_formed
        (e
        ∙ sym (words_levels b' (close n b') m zs formed.kept_length refl refl refl (omega (arith, flat_297)) close_flat
        ∙ ap₂ (λ z k. set (splice (36 + m) zs z) 0 (pos k)) all_words q
        ∙ ap (λ z. set z 0 (pos left)) (sets_splice (36 + m) zs a fits)))

-- the kept numbers replaced, after another step
pub then_kept : {s : Schema} {a a' : List ℤ} {b : Book} → Holds s a b → (kept : List ℤ) → length kept ≡ 32 → a' ≡ sets a 4 kept → Holds s a' (with_kept kept b)
then_kept h kept l e = then_step (with_kept kept) h (kept_put h.fit kept l e)
