-- What a statement comes to, case by case.
-- Assumes nothing.
use mathlib.Core.Path.{◌≡◌, refl, sym, ◌∙◌, ap}
use mathlib.Core.Bool.{Bool, true, false, not}
use mathlib.Core.List.{List}
use Prim.Native.Nat.{◌-◌}
use lib.IntN.{ℤ}
use lib.ListN.{length}
use Rattle.schema.specs.Records.{Schema}
use Rattle.rules.specs.declared.Refusal.{Refusal}
use Rattle.rules.specs.declared.Refusal.TheVariants.{KeptOutOfRange, OrphansLeft}
use Rattle.std.specs.Prelude.{Ok, Err}
use Rattle.rules.specs.Lists.{sum, less, plus}
use Rattle.rules.specs.Refusals.{Verdict, failing, did}
use Rattle.rules.specs.Keys.{counts}
use Rattle.rules.specs.Book.{Work, Book, with_work, cleared}
use Rattle.rules.specs.Change.{Result, go, stop}
use Rattle.rules.specs.State.{in_transaction, kept_in_range}
use Rattle.rules.specs.Statement.{Turn, demand, enforced, after_statement, settle, conclude, statement}
use Rattle.settlement.specs.Settled.{settle_verdict, After}
use Rattle.statements.specs.Ended.{concluded}

-- the book after an accepted statement does not depend on the work before
pub after_work : (b : Book) (kept : List ℤ) (w v : Work) → after_statement w kept (with_work v b) ≡ after_statement w kept b
unfolding after_statement
after_work b kept w v = refl

-- ---- row changes made, then settled
module _ (s : Schema) (kept a : List ℤ) (v : Verdict) where
  -- refused, nothing is settled
  pub made_refused : {made : Verdict} {c : Refusal} → made ≡ Err c → (Err c ≡ concluded made v) × After s (Err c) kept a a
  unfolding concluded After
  made_refused e = (rw e refl, refl)

pub made_passed : {made o v : Verdict} → made ≡ Ok tt → o ≡ v → o ≡ concluded made v
unfolding concluded
made_passed e f = rw e f

-- ---- a statement

-- by the verdict: the turn of an accepted statement, or a refusal
unfoldable turn_by : Verdict → Turn → Book → Turn
turn_by (Ok tt) t b = t
turn_by (Err c) t b = (Err c, b)

demands : (p q : Bool) (k : Book → Turn) (b : Book) → demand p KeptOutOfRange (demand q OrphansLeft k) b ≡ turn_by (failing (not p) KeptOutOfRange (failing (not q) OrphansLeft (Ok tt))) (k b) (cleared b)
unfolding demand failing turn_by
demands true true k b = refl
demands true false k b = refl
demands false q k b = refl

module _ (s : Schema) (w : Work) (m : List ℤ) (b : Book) where
  settle_is : settle s w m b
      ≡ turn_by (settle_verdict s (in_transaction b.levels) (plus b.kept m)) (did (length w.used - length b.work.used) (sum m), after_statement w (plus b.kept m) b) (cleared b)
  unfolding settle settle_verdict
  settle_is = demands (kept_in_range s s.keys (plus b.kept m)) (enforced (in_transaction b.levels) s (plus b.kept m)) _ b

  module _ (body : Work → Result) (e : go w ≡ body b.work) (move : m ≡ less (counts s w.tabs) (counts s b.work.tabs)) where
    settles : statement s body b ≡ settle s w m b
    unfolding statement conclude
    settles = ap (λ x. conclude s x b) (sym e) ∙ ap (λ l. settle s w l b) (sym move)

    pub statement_done : settle_verdict s (in_transaction b.levels) (plus b.kept m) ≡ Ok tt
        → statement s body b ≡ (did (length w.used - length b.work.used) (sum m), after_statement w (plus b.kept m) b)
    unfolding turn_by
    statement_done v = settles ∙ settle_is ∙ ap (λ o. turn_by o (did (length w.used - length b.work.used) (sum m), after_statement w (plus b.kept m) b) (cleared b)) v

    pub statement_unsettled : (c : Refusal) → settle_verdict s (in_transaction b.levels) (plus b.kept m) ≡ Err c → statement s body b ≡ (Err c, cleared b)
    unfolding turn_by
    statement_unsettled c v = settles ∙ settle_is ∙ ap (λ o. turn_by o (did (length w.used - length b.work.used) (sum m), after_statement w (plus b.kept m) b) (cleared b)) v

pub statement_refused : (s : Schema) (c : Refusal) (w : Work) (b : Book) (body : Work → Result) → stop c w ≡ body b.work → statement s body b ≡ (Err c, cleared b)
unfolding statement conclude
statement_refused s c w b body e = ap (λ x. conclude s x b) (sym e)
