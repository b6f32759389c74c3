-- The steps of a transaction's calls, from what a function wrote to the book that the area then holds.
-- Assumes nothing.
use mathlib.Core.Path.{◌≡◌, refl, sym, ◌∙◌, ap, ap₂, subst}
use mathlib.Core.List.{List, [], ◌∷◌}
use Prim.Native.Nat.{ℕ, zero, suc, ◌+◌, ◌-◌, ◌*◌, ◌≤◌, ◌<◌}
use native.Mathlib.Numerals.{add-one}
use native.Mathlib.Omega.{arith}
use mathlib.Core.Bool.{Bool, true, false, ◌&&◌}
use lib.Dec.{leb, leb→le}
use lib.IntN.{ℤ, pos}
use lib.ListN.{length, get_or, set, take, drop, replicate, length-drop}
use lib.Seq.{sets, length-take-le}
use Rattle.schema.specs.Records.{Schema}
use Rattle.schema.specs.Fields.{schema_of}
use Rattle.schema.proofs.RangeLaws.{every_at, and_left, and_right}
use Rattle.schema.proofs.FieldLaws.{room_few}
use Rattle.schema.proofs.SchemaLaws.{accepted_valid}
use Rattle.sums.specs.Small.{Small}
use Rattle.sums.proofs.KeptSmall.{kept_small}
use Rattle.rules.specs.Refusals.{did}
use Rattle.rules.specs.Lists.{𝟘, sum, less}
use Rattle.rules.specs.Values.{nat_of}
use Rattle.rules.specs.Book.{Level, Book, with_work, emptied, undo_to, push, close, back, ended, first_kept, abort}
use Rattle.rules.specs.Statement.{Turn}
use Rattle.rules.specs.State.{in_transaction, opener_fits, level_open}
use Rattle.rules.specs.Step.{opener_of, rolled}
use Rattle.rules.specs.Area.{view, level_words, legible}
use Rattle.bridge.specs.Fit.{work_of, Fit, Keeps, Holds}
use Rattle.bridge.specs.Ready.{Ready, Sound}
use Rattle.bridge.proofs.SoundLaws.{parts, level_saved, level_base}
use Rattle.bridge.proofs.Tests.{holds}
use Rattle.bridge.proofs.RowWords.{use_is, formed_fit}
use Rattle.bridge.proofs.UndoWords.{to_length}
use Rattle.bridge.proofs.HoldLaws.{holds_view, then_step}
use Rattle.levels.specs.Parts.{with_kept, with_opener}
use Rattle.levels.proofs.LevelWrites.{opener_put, level_opened, levels_closed}
use Rattle.levels.proofs.LevelReads.{inside_is, level_count, levels_few, level_found, first_kept_lem, back_parts}
use Rattle.transactions.proofs.Turns.{ended_parts}
pub use Rattle.sums.proofs.KeptSmall.{kept_bound}
pub use Rattle.bridge.proofs.HoldLaws.{area_long, then_work}
pub use Rattle.bridge.proofs.LevelWords.{kept_at}
pub use Rattle.levels.proofs.LevelWrites.{then_kept}

pub then_opener : {s : Schema} {a a' : List ℤ} {b : Book} → Holds s a b → (o : ℕ) → a' ≡ set a 1 (pos o) → Holds s a' (with_opener o b)
then_opener h o e = then_step (with_opener o) h (opener_put h.fit o e)

pub then_close : {s : Schema} {a a' : List ℤ} {b : Book} → Holds s a b → (n : ℕ) → n ≤ length b.levels
    → a' ≡ set (sets a (36 + (nat_of (get_or a 0 𝟘) - n) * 33) (replicate (n * 33) 𝟘)) 0 (pos (nat_of (get_or a 0 𝟘) - n)) → Holds s a' (close n b)
then_close {s} {a} h n le e =
    let c : length (view s a).levels ≡ nat_of (get_or a 0 𝟘) = level_count h.fit in
    let le' : n ≤ length (view s a).levels = omega (arith, le, ap (λ (b : Book). length b.levels) h.is) in
    then_step (close n) h (levels_closed h.fit n le' (e ∙ ap (λ m. set (sets a (36 + (m - n) * 33) (replicate (n * 33) 𝟘)) 0 (pos (m - n))) (sym c)))

-- the next level opened, by its words
pub opened_words : {s : Schema} {a a' : List ℤ} (f : Fit s a) → 0 < length (view s a).closed
    → a' ≡ set (sets a (36 + nat_of (get_or a 0 𝟘) * 33) (pos (nat_of (get_or a 2 𝟘)) ∷ take 32 (drop 4 a))) 0 (pos (nat_of (get_or a 0 𝟘) + 1))
    → Holds s a' (push (view s a).opener (drop 1 (view s a).closed) (view s a))
unfolding level_words work_of view
opened_words {s} {a} f h e =
    let c : length (view s a).levels ≡ nat_of (get_or a 0 𝟘) = level_count f in
    let u : length (view s a).work.used ≡ nat_of (get_or a 2 𝟘) = use_is f in
    level_opened f h
    (e
    ∙ ap₂ (λ m v. set (sets a (36 + m * 33) (pos v ∷ take 32 (drop 4 a))) 0 (pos (m + 1))) (sym c) (sym u)
    ∙ ap (λ n. set (sets a (36 + length (view s a).levels * 33) (pos (length (view s a).work.used) ∷ take 32 (drop 4 a))) 0 (pos n)) (add-one (length (view s a).levels)))

-- ---- what the functions require

pub few : {s : Schema} {a : List ℤ} → Fit s a → length (view s a).levels ≤ 9
few f = levels_few f

pub count_is : {s : Schema} {a : List ℤ} {n : ℕ} → Fit s a → n ≡ nat_of (get_or a 0 𝟘) → n ≡ length (view s a).levels
count_is f e = e ∙ sym (level_count f)

pub used_is : {s : Schema} {a : List ℤ} {n : ℕ} → Fit s a → n ≡ nat_of (get_or a 2 𝟘) → n ≡ length (view s a).work.used
unfolding work_of
used_is f e = e ∙ sym (use_is f)

pub opener_word : (s : Schema) (a : List ℤ) → nat_of (get_or a 1 𝟘) ≡ (view s a).opener
unfolding view
opener_word s a = refl

pub positive : (n : ℕ) → (n ≡ 0 → ⊥) → 0 < n
positive zero h = absurd (h refl)
positive (suc n) h = omega arith

closed_count : {s : Schema} {a : List ℤ} → Fit s a → nat_of (get_or a 0 𝟘) + length (view s a).closed ≡ 9
closed_count {s} {a} f = ap (λ n. n + length (view s a).closed) (sym (level_count f)) ∙ (formed_fit f).levels_nine

pub closed_some : {s : Schema} {a : List ℤ} → Fit s a → nat_of (get_or a 0 𝟘) < 9 → 0 < length (view s a).closed
closed_some f h = omega (arith, closed_count f)

pub closed_none : {s : Schema} {a : List ℤ} → Fit s a → nat_of (get_or a 0 𝟘) ≡ 9 → length (view s a).closed ≡ 0
closed_none f h = omega (arith, closed_count f)

pub levels_at_most : {s : Schema} {a : List ℤ} → Fit s a → nat_of (get_or a 0 𝟘) ≤ 9
levels_at_most f = omega (arith, closed_count f)

pub closed_below : {s : Schema} {a : List ℤ} → Fit s a → 0 < length (view s a).closed → nat_of (get_or a 0 𝟘) < 9
closed_below f h = omega (arith, closed_count f)

pub level_below : {s : Schema} {a : List ℤ} → Fit s a → (lv : ℕ) → level_open (view s a) lv ≡ true → lv ≤ length (view s a).levels
unfolding level_open
level_below {s} {a} f lv h =
    leb→le lv (length (view s a).levels) (holds (and_right (leb 1 lv) (leb lv (length (view s a).levels)) (and_left (leb 1 lv && leb lv (length (view s a).levels)) _ h)))

-- who opens the next level
module _ (b : List ℕ) {a : List ℤ} (h : Sound b a) {n o : ℕ} (en : n ≡ nat_of (get_or a 0 𝟘)) (eo : o ≡ opener_of (leb 1 n) (nat_of (get_or a 1 𝟘))) where
  pub opener_is : o ≡ opener_of (in_transaction (view (schema_of b) a).levels) (view (schema_of b) a).opener
  unfolding view
  opener_is = eo ∙ ap (λ t. opener_of t (nat_of (get_or a 1 𝟘))) (ap (leb 1) (count_is h.ready.fit en) ∙ sym (inside_is (view (schema_of b) a).levels))

  pub opener_small : o < 3
  unfolding opener_fits opener_of
  opener_small = rw opener_is (go (in_transaction (view (schema_of b) a).levels) (view (schema_of b) a).opener (parts h.undamaged_is).opener)
    where
      go : (t : Bool) (m : ℕ) → opener_fits t m ≡ true → opener_of t m < 3
      go true m e = let q : m ≤ 2 = leb→le m 2 (holds (and_right (leb 1 m) (leb m 2) e)) in omega arith
      go false m e = omega arith

pub use_small : (b : List ℕ) {a : List ℤ} → Ready b a → nat_of (get_or a 2 𝟘) ≤ 4096
unfolding legible
use_small b r =
    let h = leb→le _ (schema_of b).room (holds (every_at _ r.fit.legible_is 4 (omega arith))) in
    omega (arith, h, room_few b r.accepted)

-- ---- numbers

-- the saved numbers of level i
module _ (b : List ℕ) {a : List ℤ} (h : Sound b a) where
  module _ (i : ℕ) (lt : i < length (view (schema_of b) a).levels) where
    pub saved_bound : Small 1024 (take 32 (drop (37 + i * 33) a))
    saved_bound =
        kept_small (accepted_valid b h.ready.accepted) (take 32 (drop (37 + i * 33) a))
        (level_saved (schema_of b) (length (view (schema_of b) a).levels - suc i) _ _ (view (schema_of b) a).levels (parts h.undamaged_is).saved (level_found h.ready.fit i lt))

    pub base_bound : nat_of (get_or a (36 + i * 33) 𝟘) ≤ length (view (schema_of b) a).work.used
    base_bound = level_base (length (view (schema_of b) a).levels - suc i) _ (view (schema_of b) a).levels _ _ (parts h.undamaged_is).uses (level_found h.ready.fit i lt)

-- ---- a level opened

pub open_holds : {s : Schema} {a a₁ a₂ : List ℤ} (f : Fit s a) → 0 < length (view s a).closed → (o : ℕ)
    → a₁ ≡ set (sets a (36 + nat_of (get_or a 0 𝟘) * 33) (pos (nat_of (get_or a 2 𝟘)) ∷ take 32 (drop 4 a))) 0 (pos (nat_of (get_or a 0 𝟘) + 1)) → a₂ ≡ set a₁ 1 (pos o)
    → Holds s a₂ (push o (drop 1 (view s a).closed) (view s a))
unfolding push
open_holds f h o e₁ e₂ = then_opener (opened_words f h e₁) o e₂

-- ---- levels closed

abbrev Closed : ℕ → List ℤ → List ℤ → Type 0
Closed n a a' = a' ≡ set (sets a (36 + (nat_of (get_or a 0 𝟘) - n) * 33) (replicate (n * 33) 𝟘)) 0 (pos (nat_of (get_or a 0 𝟘) - n))

pub closed_is : (a a₁ : List ℤ) (n : ℕ) → a₁ ≡ set (sets a (36 + (nat_of (get_or a 0 𝟘) - n) * 33) (replicate (n * 33) 𝟘)) 0 (pos (nat_of (get_or a 0 𝟘) - n)) → n ≡ nat_of (get_or a 0 𝟘) → Closed (nat_of (get_or a 0 𝟘)) a a₁
closed_is a a₁ n e q = subst (λ n. Closed n a a₁) q e

pub release_holds : {s : Schema} {a a' : List ℤ} (f : Fit s a) (n lv : ℕ) → n ≡ nat_of (get_or a 0 𝟘) → 1 ≤ lv → lv ≤ n
    → a' ≡ set (sets a (36 + (nat_of (get_or a 0 𝟘) - (n + 1 - lv)) * 33) (replicate ((n + 1 - lv) * 33) 𝟘)) 0 (pos (nat_of (get_or a 0 𝟘) - (n + 1 - lv)))
    → Holds s a' (close (suc (length (view s a).levels) - lv) (view s a))
release_holds {s} {a} {a'} f n lv e h le q =
    let c : n ≡ length (view s a).levels = count_is f e in
    let k : n + 1 - lv ≡ suc (length (view s a).levels) - lv = omega arith in
    subst (λ m. Holds s a' (close m (view s a))) k (then_close (holds_view f) (n + 1 - lv) (omega arith) q)

-- ---- a transaction's end

module _ {s : Schema} {a a₁ a₂ : List ℤ} (f : Fit s a) (e₁ : Closed (nat_of (get_or a 0 𝟘)) a a₁) (e₂ : a₂ ≡ set a₁ 1 𝟘) where
  pub end_mid : Holds s a₂ (with_opener 0 (close (length (view s a).levels) (view s a)))
  end_mid =
      let c : nat_of (get_or a 0 𝟘) ≡ length (view s a).levels = sym (level_count f) in
      let h : Holds s a₁ (close (nat_of (get_or a 0 𝟘)) (view s a)) = then_close (holds_view f) (nat_of (get_or a 0 𝟘)) (omega arith) e₁ in
      then_opener (subst (λ m. Holds s a₁ (close m (view s a))) c h) 0 e₂

  pub end_work : work_of s a₂ ≡ work_of s a
  unfolding close work_of
  end_work = ap (λ (c : Book). c.work) end_mid.is

  pub end_holds : {a₃ : List ℤ} → (work_of s a₃ ≡ emptied (work_of s a₂)) × Keeps s a₂ a₃ → Holds s a₃ (ended (view s a).kept (view s a).work (view s a))
  unfolding close
  end_holds {a₃} e₃ =
      let h : Holds s a₃ (with_work (emptied (view s a).work) (with_opener 0 (close (length (view s a).levels) (view s a)))) = then_work end_mid emptied e₃ in
      record { fit = h.fit; is = h.is ∙ sym (ended_parts (view s a)) }

-- ---- a rollback to a level

module _ {s : Schema} {a : List ℤ} (f : Fit s a) (i n base : ℕ) (at : i + n + 1 ≡ length (view s a).levels) (eb : base ≡ nat_of (get_or a (36 + i * 33) 𝟘)) where
  abbrev b : Book
  b = view s a

  abbrev l : Level
  l = record { base = nat_of (get_or a (36 + i * 33) 𝟘); kept = take 32 (drop (37 + i * 33) a) }

  pub level_is : drop n (view s a).levels ≡ record { base = nat_of (get_or a (36 + i * 33) 𝟘); kept = take 32 (drop (37 + i * 33) a) } ∷ drop (length (view s a).levels - i) (view s a).levels
  level_is =
      let e : length b.levels - suc i ≡ n = omega arith in
      ap (λ k. drop k b.levels) (sym e) ∙ level_found f i (omega arith)

  module _ {a₁ : List ℤ} (e₁ : (work_of s a₁ ≡ undo_to base (work_of s a)) × Keeps s a a₁) where
    pub back_mid : Holds s a₁ (with_work (undo_to base (view s a).work) (view s a))
    back_mid = then_work (holds_view f) (undo_to base) e₁

    pub back_count : nat_of (get_or a₁ 0 𝟘) ≡ length (view s a).levels
    back_count = sym (level_count back_mid.fit) ∙ ap (λ (c : Book). length c.levels) back_mid.is

    module _ {a₂ : List ℤ} (e₂ : Closed n a₁ a₂) where
      pub back_closed : Holds s a₂ (close n (with_work (undo_to base (view s a).work) (view s a)))
      back_closed = then_close back_mid n (omega arith) e₂

      -- the level's kept numbers are still there
      kept_same : take 32 (drop (37 + i * 33) a₂) ≡ take 32 (drop (37 + i * 33) a)
      unfolding close
      kept_same =
          let ls : (view s a₂).levels ≡ drop n b.levels = ap (λ (c : Book). c.levels) back_closed.is in
          let m : length (view s a₂).levels ≡ suc i = ap length ls ∙ length-drop n b.levels ∙ (let q : length b.levels - n ≡ suc i = omega arith in q) in
          let z : length (view s a₂).levels - suc i ≡ 0 = omega arith in
          let top = level_found back_closed.fit i (omega arith) in
          sym (ap kept_of (sym (ls ∙ level_is) ∙ ap (λ k. drop k (view s a₂).levels) (sym z) ∙ top))
        where
          kept_of : List Level → List ℤ
          kept_of [] = []
          kept_of (x ∷ xs) = x.kept

      pub back_holds : {a₃ : List ℤ} → a₃ ≡ sets a₂ 4 (take 32 (drop (37 + i * 33) a₂)) → Holds s a₃ (back n (view s a))
      back_holds {a₃} e₃ =
          let k : List ℤ = take 32 (drop (37 + i * 33) a) in
          let lk : length k ≡ 32 = length-take-le 32 (drop (37 + i * 33) a) (rw length-drop (omega (arith, area_long f, levels_few f))) in
          let h : Holds s a₃ (with_kept k (close n (with_work (undo_to base b.work) b))) = then_kept back_closed k lk (e₃ ∙ ap (sets a₂ 4) kept_same) in
          record { fit = h.fit; is = h.is ∙ ap (λ m. with_kept k (close n (with_work (undo_to m b.work) b))) eb ∙ sym (back_parts n b l _ level_is) }

  -- the answer
  pub back_answer : (used : ℕ) (net : ℤ) → used ≡ length (view s a).work.used → base ≤ used → net ≡ sum (less (take 32 (drop (37 + i * 33) a)) (take 32 (drop 4 a)))
      → rolled (back n (view s a)) (view s a) ≡ (did (used - base) net, back n (view s a))
  unfolding rolled close
  back_answer used net eu le en =
      let p : back n b ≡ with_kept l.kept (close n (with_work (undo_to l.base b.work) b)) = back_parts n b l _ level_is in
      let u : length (back n b).work.used ≡ base
      = ap (λ (c : Book). length c.work.used) p ∙ ap (λ m. length (undo_to m b.work).used) (sym eb) ∙ to_length base b.work (omega arith) in
      let k : (back n b).kept ≡ l.kept = ap (λ (c : Book). c.kept) p in
      ap₂ {C = Turn} (λ m z. (did m z, back n b)) (ap₂ ◌-◌ (sym eu) u) (ap (λ x. sum (less x b.kept)) k ∙ ap (λ x. sum (less l.kept x)) (kept_at s a) ∙ sym en)

-- ---- a rollback of the transaction

module _ {s : Schema} {a : List ℤ} (f : Fit s a) (some : 0 < length (view s a).levels) where
  module _ {a₁ : List ℤ} (e₁ : (work_of s a₁ ≡ undo_to 0 (work_of s a)) × Keeps s a a₁) where
    pub abort_mid : Holds s a₁ (with_work (undo_to 0 (view s a).work) (view s a))
    abort_mid = then_work (holds_view f) (undo_to 0) e₁

    first_is : take 32 (drop 37 a₁) ≡ first_kept (view s a).levels (view s a).kept
    first_is =
        let ls : (view s a₁).levels ≡ (view s a).levels = ap (λ (c : Book). c.levels) abort_mid.is in
        sym (first_kept_lem abort_mid.fit (rw ls some) (view s a).kept) ∙ ap (λ m. first_kept m (view s a).kept) ls

    module _ {a₂ : List ℤ} (e₂ : a₂ ≡ sets a₁ 4 (take 32 (drop (37 + 0 * 33) a₁))) where
      pub abort_loaded : Holds s a₂ (with_kept (take 32 (drop 37 a₁)) (with_work (undo_to 0 (view s a).work) (view s a)))
      abort_loaded = then_kept abort_mid (take 32 (drop 37 a₁)) (length-take-le 32 (drop 37 a₁) (rw length-drop (omega (arith, area_long abort_mid.fit)))) e₂

      pub loaded_work : work_of s a₂ ≡ undo_to 0 (work_of s a)
      unfolding work_of
      loaded_work = ap (λ (c : Book). c.work) abort_loaded.is

      pub abort_holds : {a₃ : List ℤ} → Holds s a₃ (ended (view s a₂).kept (view s a₂).work (view s a₂)) → Holds s a₃ (abort (view s a))
      unfolding abort ended
      abort_holds h =
          record {
            fit = h.fit;
            is = h.is ∙ ap (λ (c : Book). ended c.kept c.work c) abort_loaded.is ∙ ap (λ k. ended k (undo_to 0 (view s a).work) (view s a)) first_is;
          }

  pub abort_answer : (used : ℕ) (net : ℤ) → used ≡ length (view s a).work.used → net ≡ sum (less (take 32 (drop 37 a)) (take 32 (drop 4 a)))
      → rolled (abort (view s a)) (view s a) ≡ (did used net, abort (view s a))
  unfolding rolled abort ended emptied
  abort_answer used net eu en =
      let z : length (view s a).work.used - 0 ≡ used = omega arith in
      ap₂ {C = Turn} (λ m z. (did m z, abort (view s a))) z (ap (λ x. sum (less x (view s a).kept)) (first_kept_lem f some (view s a).kept) ∙ ap (λ x. sum (less (take 32 (drop 37 a)) x)) (kept_at s a) ∙ sym en)
