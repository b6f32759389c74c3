-- Levels and rollbacks of books that differ in the order of some journal records.
-- Assumes nothing.
use mathlib.Core.Path.{◌≡◌, refl, sym, ◌∙◌, ap, ap₂}
use mathlib.Core.Bool.{Bool, true, false, ◌||◌, true≢false}
use mathlib.Core.List.{List, [], ◌∷◌, ◌++◌}
use Prim.Native.Nat.{ℕ, suc, ◌+◌, ◌-◌, ◌≤◌, ◌<◌}
use native.Mathlib.Omega.{arith}
use mathlib.Core.Logic.{◌≢◌}
use lib.Dec.{leb, eqb, leb→le, le→leb}
use lib.IntN.{ℤ}
use lib.ListN.{length, take, drop, length-drop, take-append-drop}
use lib.Seq.{take-append-le, drop-append-le, take-append-add, drop-append-add}
use Rattle.schema.specs.Ranges.{all}
use Rattle.schema.specs.Records.{Schema}
use Rattle.rules.specs.Lists.{sum, less}
use Rattle.rules.specs.Refusals.{accepted, did}
use Rattle.rules.specs.Rows.{Tables}
use Rattle.rules.specs.Book.{Entry, Level, Work, Book, zero_records, zero_levels, undo_all, undo, undo_to, emptied, push, close, back_to, back, ended, abort}
use Rattle.rules.specs.Calls.{rollback_to, rollback}
use Rattle.rules.specs.State.{in_transaction, level_open}
use Rattle.rules.specs.Statement.{Turn}
use Rattle.rules.specs.Step.{opened, committed, released, rolled, act}
use Rattle.bridge.proofs.Books.{work_path}
use Rattle.bridge.proofs.Tests.{or_right, holds, passes, all_cons, all_head, all_drop}
use Rattle.bridge.proofs.Undo.{undo_all_append}
use Rattle.laws.proofs.Outcome.{level_in}
use Rattle.laws.proofs.Back.{some_open}
use Rattle.families.proofs.Statements.{check_passed, check_is}
use Rattle.families.proofs.Reordered.{with_used, Order, bottom, top, opened_by, clear_of, Reordering, Alike, AlikeTurns, alike_path, alike_same, alike_check, use_is, same_use, done_rows}
use Rattle.families.proofs.Reordered.Alike.{reordered}

module _ (o : Order) (b : Book) (since : List Entry) (p : Reordering o b since) where
  -- the one book, and the other
  abbrev pub x : Book
  x = with_used (since ++ (o.one ++ o.old)) b

  abbrev pub y : Book
  y = with_used (since ++ (o.other ++ o.old)) b

  alike : Alike o x y
  alike = reordered b since p

  -- ---- a level opens

  alike_pushed : (opener : ℕ) (rest : List (List ℤ)) → Alike o (push opener rest x) (push opener rest y)
  unfolding push clear_of in_transaction
  alike_pushed opener rest =
      let level : ℕ → Level = λ n. record { base = n; kept = b.kept } in
      let pushed : ℕ → Book = λ n. record { opener = opener; kept = b.kept; levels = level n ∷ b.levels; closed = rest; work = b.work } in
      let n : ℕ = length x.work.used in
      let above : top o ≤ n = omega (arith, use_is o since o.one) in
      alike_path o refl (ap (λ n. with_used y.work.used (pushed n)) (sym (same_use o since)))
      (reordered (pushed n) since
      (record { running = refl; clear = all_cons (clear_of o) (level n) b.levels (or_right (opened_by (bottom o) (level n)) _ (passes _ (le→leb _ _ above))) p.clear; undone = p.undone }))

  pub alike_opened : (opener : ℕ) (rest : List (List ℤ)) → AlikeTurns o (opened opener rest x) (opened opener rest y)
  unfolding opened
  alike_opened opener [] = record { answer = refl; books = alike }
  alike_opened opener (l ∷ rest) = record { answer = refl; books = alike_pushed opener rest }

  -- ---- the end of the transaction

  -- whatever undoing gave, emptied it is the same
  ended_same : (kept : List ℤ) (w w' : Work) → emptied w ≡ emptied w' → ended kept w x ≡ ended kept w' y
  unfolding ended
  ended_same kept w w' e = ap (λ v. record { opener = 0; kept = kept; levels = []; closed = zero_levels (length b.levels) ++ b.closed; work = v }) e

  emptied_same : emptied x.work ≡ emptied y.work
  unfolding emptied
  emptied_same = ap {B = Work} (λ n. record { tabs = b.work.tabs; used = []; spare = zero_records (n + length b.work.spare) }) (sym (same_use o since))

  pub alike_committed : AlikeTurns o (committed x) (committed y)
  unfolding committed
  alike_committed = alike_check o alike _ _ _ _ (λ h. record { answer = refl; books = alike_same o (ended_same b.kept _ _ emptied_same) })

  -- ---- a level is released

  -- where it is not the first, a level below it stays open
  stays : (a : ℕ) → level_open b a ≡ true → eqb a 1 ≡ false → suc (length b.levels) - a < length b.levels
  stays a h e =
      let (l, m) = level_in b a h in
      let ne : a ≢ 1 = λ q. true≢false (sym (ap (λ n. eqb n 1) q) ∙ e) in
      omega arith

  by_first : (first : Bool) (n : ℕ) → (first ≡ false → n < length b.levels) → AlikeTurns o (released first n x) (released first n y)
  unfolding released close
  by_first true n h = alike_committed
  by_first false n h =
      let l : 0 < length (drop n b.levels) = simp length-drop (omega (arith, h refl)) in
      record { answer = refl; books = reordered (close n b) since (record { running = some_open (drop n b.levels) l; clear = all_drop (clear_of o) n b.levels p.clear; undone = p.undone }) }

  pub alike_released : (a : ℕ) → level_open b a ≡ true → AlikeTurns o (released (eqb a 1) (suc (length b.levels) - a) x) (released (eqb a 1) (suc (length b.levels) - a) y)
  alike_released a h = by_first (eqb a 1) _ (stays a h)

  -- ---- undoing

  -- back to at most the old records: none of those that stand otherwise is left
  module _ (n : ℕ) (few : n ≤ bottom o) where
    undo_through : (zs : List Entry) → undo_to n (with_used (since ++ (zs ++ o.old)) b).work
        ≡ record {
          tabs = undo_all (take (bottom o - n) o.old) (undo_all zs (undo_all since b.work.tabs));
          used = drop (bottom o - n) o.old;
          spare = zero_records (length since + (length zs + (bottom o - n))) ++ b.work.spare;
        }
    unfolding undo_to undo
    undo_through zs =
        let k : length (since ++ (zs ++ o.old)) - n ≡ length since + (length zs + (bottom o - n)) = omega (arith, use_is o since zs) in
        rw k
        (work_path
        (ap (λ us. undo_all us b.work.tabs) (take-append-add since (zs ++ o.old) _ ∙ ap (λ us. since ++ us) (take-append-add zs o.old _))
        ∙ undo_all_append since (zs ++ take (bottom o - n) o.old) b.work.tabs
        ∙ undo_all_append zs (take (bottom o - n) o.old) (undo_all since b.work.tabs))
        (drop-append-add since (zs ++ o.old) _ ∙ drop-append-add zs o.old _)
        refl)

    through_same : undo_to n x.work ≡ undo_to n y.work
    through_same =
        undo_through o.one
        ∙ ap₂ {C = Work} (λ (tabs : Tables) (m : ℕ). record { tabs = undo_all (take (bottom o - n) o.old) tabs; used = drop (bottom o - n) o.old; spare = zero_records (length since + (m + (bottom o - n))) ++ b.work.spare }) p.undone (sym o.sizes)
        ∙ sym (undo_through o.other)

  -- back to a record after them
  module _ (n : ℕ) (many : top o ≤ n) where
    abbrev gone : ℕ
    gone = length x.work.used - n

    undo_since : (zs : List Entry) → length zs ≡ length o.one → undo_to n (with_used (since ++ (zs ++ o.old)) b).work
        ≡ record { tabs = undo_all (take gone since) b.work.tabs; used = drop gone since ++ (zs ++ o.old); spare = zero_records gone ++ b.work.spare }
    unfolding undo_to undo
    undo_since zs l =
        let k : length (since ++ (zs ++ o.old)) - n ≡ gone = omega (arith, use_is o since zs, use_is o since o.one) in
        let h : gone ≤ length since = omega (arith, use_is o since o.one) in
        rw k (work_path (ap (λ us. undo_all us b.work.tabs) (take-append-le _ since (zs ++ o.old) h)) (drop-append-le _ since (zs ++ o.old) h) refl)

    since_undone : undo_all (drop gone since) (undo_all (take gone since) b.work.tabs) ≡ undo_all since b.work.tabs
    since_undone = sym (undo_all_append (take gone since) (drop gone since) b.work.tabs) ∙ ap (λ us. undo_all us b.work.tabs) (take-append-drop gone since)

  -- ---- rollbacks

  -- a rollback to the same book
  rolled_same : {e f : Book} → e ≡ f → rolled e x ≡ rolled f y
  unfolding rolled
  rolled_same q = ap₂ {C = Turn} (λ m (e : Book). (did (m - length e.work.used) (sum (less e.kept b.kept)), e)) (sym (same_use o since)) q

  turns_same : {t t' : Turn} → t ≡ t' → AlikeTurns o t t'
  turns_same q = record { answer = ap (λ (t : Turn). t.0) (sym q); books = alike_same o (ap {B = Book} (λ (t : Turn). t.1) q) }

  -- the levels left are l and those below it, n are closed
  module _ (l : Level) (ls : List Level) (n : ℕ) where
    abbrev left : Work → Book
    left w = record { opener = b.opener; kept = l.kept; levels = l ∷ ls; closed = zero_levels n ++ b.closed; work = w }

    left_same : opened_by (bottom o) l ≡ true → back_to (l ∷ ls) n x ≡ back_to (l ∷ ls) n y
    unfolding back_to opened_by
    left_same h = ap left (through_same l.base (leb→le _ _ (holds h)))

    left_since : all (clear_of o) (l ∷ ls) ≡ true → top o ≤ l.base → AlikeTurns o (rolled (back_to (l ∷ ls) n x) x) (rolled (back_to (l ∷ ls) n y) y)
    unfolding rolled back_to in_transaction
    left_since c h =
        let u : undo_to l.base x.work ≡ _ = undo_since l.base h o.one refl in
        let v : undo_to l.base y.work ≡ _ = undo_since l.base h o.other o.sizes in
        let k : ℕ = length x.work.used - l.base in
        let w : Work = record { tabs = undo_all (take k since) b.work.tabs; used = []; spare = zero_records k ++ b.work.spare } in
        let e : undo_all (drop k since) (undo_all (take k since) b.work.tabs) ≡ undo_all since b.work.tabs = since_undone l.base h in
        record {
          answer = done_rows (ap₂ (λ m j. m - j) (same_use o since) (ap (λ (w : Work). length w.used) v ∙ same_use o (drop k since) ∙ sym (ap (λ (w : Work). length w.used) u)));
          books = alike_path o (ap left (sym u)) (ap left (sym v)) (reordered (left w) (drop k since) (record { running = refl; clear = c; undone = ap (undo_all o.one) e ∙ p.undone ∙ sym (ap (undo_all o.other) e) }));
        }

    left_alike : all (clear_of o) (l ∷ ls) ≡ true → AlikeTurns o (rolled (back_to (l ∷ ls) n x) x) (rolled (back_to (l ∷ ls) n y) y)
    unfolding clear_of
    left_alike c = by (opened_by (bottom o) l) refl (all_head (clear_of o) l ls c)
      where
        by : (before : Bool) → opened_by (bottom o) l ≡ before → before || leb (top o) l.base ≡ true → AlikeTurns o (rolled (back_to (l ∷ ls) n x) x) (rolled (back_to (l ∷ ls) n y) y)
        by true e h = turns_same (rolled_same (left_same e))
        by false e h = left_since c (leb→le _ _ (holds h))

  pub alike_back : (a : ℕ) → level_open b a ≡ true → AlikeTurns o (rolled (back (length b.levels - a) x) x) (rolled (back (length b.levels - a) y) y)
  unfolding back
  alike_back a h =
      let (h₁, h₂) = level_in b a h in
      by (drop (length b.levels - a) b.levels) (simp length-drop (omega arith)) (all_drop (clear_of o) (length b.levels - a) b.levels p.clear)
    where
      by : (ls : List Level) → 0 < length ls → all (clear_of o) ls ≡ true → AlikeTurns o (rolled (back_to ls (length b.levels - a) x) x) (rolled (back_to ls (length b.levels - a) y) y)
      by [] l c = absurd (omega arith)
      by (l ∷ ls) m c = left_alike l ls _ c

  abort_same : abort x ≡ abort y
  unfolding abort
  abort_same = ended_same _ _ _ (ap emptied (through_same 0 (omega arith)))

  pub alike_abort : AlikeTurns o (rolled (abort x) x) (rolled (abort y) y)
  alike_abort = turns_same (rolled_same abort_same)

  -- where every level was opened before those records, an accepted rollback gives the same book
  module _ (s : Schema) (early : all (opened_by (bottom o)) b.levels ≡ true) where
    back_same : (a : ℕ) → level_open b a ≡ true → back (length b.levels - a) x ≡ back (length b.levels - a) y
    unfolding back
    back_same a h =
        let (h₁, h₂) = level_in b a h in
        by (drop (length b.levels - a) b.levels) (simp length-drop (omega arith)) (all_drop (opened_by (bottom o)) (length b.levels - a) b.levels early)
      where
        by : (ls : List Level) → 0 < length ls → all (opened_by (bottom o)) ls ≡ true → back_to ls (length b.levels - a) x ≡ back_to ls (length b.levels - a) y
        by [] l c = absurd (omega arith)
        by (l ∷ ls) m c = left_same l ls _ (all_head (opened_by (bottom o)) l ls c)

    pub rollback_to_same : (a : ℕ) → accepted (act s (rollback_to a) x).0 ≡ true → act s (rollback_to a) x ≡ act s (rollback_to a) y
    unfolding act level_open
    rollback_to_same a h =
        let open_a : level_open b a ≡ true = (check_passed _ _ _ x h).0 in
        check_is _ _ _ x open_a ∙ rolled_same (back_same a open_a) ∙ sym (check_is _ _ _ y open_a)

    pub rollback_same : act s rollback x ≡ act s rollback y
    unfolding act
    rollback_same = check_is _ _ _ x p.running ∙ rolled_same abort_same ∙ sym (check_is _ _ _ y p.running)
