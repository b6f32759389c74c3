-- A statement on books that differ in the order of some journal records: it comes to the same in both.
-- Assumes nothing.
use mathlib.Core.Path.{◌≡◌, refl, sym, ◌∙◌, ap}
use mathlib.Core.List.{List, ◌++◌, append_assoc}
use Prim.Native.Nat.{ℕ, ◌-◌}
use native.Mathlib.Omega.{arith}
use lib.IntN.{ℤ}
use lib.ListN.{length, length-append}
use Rattle.schema.specs.Records.{Schema}
use Rattle.std.specs.Prelude.{Err}
use Rattle.rules.specs.Book.{Entry, Work, Book, undo_all, cleared}
use Rattle.rules.specs.Change.{Result, go, stop}
use Rattle.rules.specs.Statement.{journal_after, after_statement, settle, conclude, statement}
use Rattle.bridge.proofs.Undo.{undo_all_append}
use Rattle.laws.proofs.Back.{moved}
use Rattle.families.proofs.Writes.{Write, put_all, entries, write_all, undo_entries}
use Rattle.families.proofs.Traces.{Traced, Local, Stops, stops, went, stopped}
use Rattle.families.proofs.Reordered.{with_used, Order, Reordering, Alike, AlikeTurns, alike_path, alike_cleared, alike_demand, done_rows}
use Rattle.families.proofs.Reordered.Alike.{reordered}

module _ (s : Schema) (o : Order) (b : Book) (since : List Entry) (p : Reordering o b since) where
  -- the one book, and the other
  abbrev pub x : Book
  x = with_used (since ++ (o.one ++ o.old)) b

  abbrev pub y : Book
  y = with_used (since ++ (o.other ++ o.old)) b

  alike : Alike o x y
  alike = reordered b since p

  module _ (ws : List Write) where
    abbrev new : List Entry
    new = entries ws b.work.tabs

    -- the book after the writes, but for its records
    abbrev after : List ℤ → Book
    after kept = moved kept (write_all ws b.work) b

    grown : (us : List Entry) → length (new ++ us) - length us ≡ length new
    grown us = simp length-append (omega arith)

    after_is : (kept : List ℤ) (us : List Entry) → with_used ((new ++ since) ++ us) (after kept) ≡ after_statement (write_all ws (with_used (since ++ us) b).work) kept (with_used (since ++ us) b)
    unfolding after_statement journal_after write_all
    after_is kept us = rw p.running (ap (λ us. with_used us (after kept)) (append_assoc new since us))

    -- undone, the writes leave the rows that there were
    undo_new : undo_all (new ++ since) (put_all ws b.work.tabs) ≡ undo_all since b.work.tabs
    undo_new = undo_all_append new since (put_all ws b.work.tabs) ∙ ap (undo_all since) (undo_entries ws b.work.tabs)

    still : (kept : List ℤ) → Reordering o (after kept) (new ++ since)
    unfolding write_all
    still kept = record { running = p.running; clear = p.clear; undone = ap (undo_all o.one) undo_new ∙ p.undone ∙ sym (ap (undo_all o.other) undo_new) }

    alike_after : (kept : List ℤ) → Alike o (after_statement (write_all ws x.work) kept x) (after_statement (write_all ws y.work) kept y)
    alike_after kept = alike_path o (after_is kept (o.one ++ o.old)) (after_is kept (o.other ++ o.old)) (reordered (after kept) (new ++ since) (still kept))

    alike_written : AlikeTurns o (conclude s (go (write_all ws x.work)) x) (conclude s (go (write_all ws y.work)) y)
    unfolding conclude settle write_all
    alike_written =
        alike_demand o alike _ _ _ _
        (alike_demand o alike _ _ _ _
        (record { answer = done_rows (grown y.work.used ∙ sym (grown x.work.used)); books = alike_after _ }))

  module _ (P : ℕ → Type 0) (body : Work → Result) (local : Local P body) where
    by_trace : (r : Result) → Traced P body x.work r → AlikeTurns o (conclude s r x) (conclude s (body y.work) y)
    unfolding conclude
    by_trace (go w) (went t) = rw (t.done, t.again y.work (λ u q. refl) t.room) (alike_written t.writes)
    by_trace (stop c w) (stopped h) = refused (body y.work) (h y.work (λ u q. refl) refl)
      where
        refused : (r : Result) → Stops c r → AlikeTurns o (Err c, cleared x) (conclude s r y)
        refused (go _) h = elim h [ ]
        refused (stop c w') stops = record { answer = refl; books = alike_cleared o alike }

    pub alike_statement : AlikeTurns o (statement s body x) (statement s body y)
    unfolding statement
    alike_statement = by_trace (body x.work) (local x.work)
