-- When a statement is accepted in a transaction, and what it then comes to.
-- Assumes nothing.
use mathlib.Core.Path.{◌≡◌, refl, sym, ◌∙◌, ap, subst}
use mathlib.Core.Bool.{Bool, true, false, not, false≢true}
use mathlib.Core.List.{List, []}
use Prim.Native.Nat.{ℕ, ◌-◌}
use lib.IntN.{ℤ}
use lib.ListN.{length, get_or}
use Rattle.schema.specs.Records.{Schema}
use Rattle.schema.proofs.RangeLaws.{and_left}
use Rattle.schema.proofs.SchemaLaws.{Valid}
use Rattle.rules.specs.declared.Refusal.{Refusal}
use Rattle.rules.specs.declared.Refusal.TheVariants.{RowState}
use Rattle.rules.specs.Lists.{sum, less, plus}
use Rattle.rules.specs.Refusals.{accepted, did}
use Rattle.rules.specs.Rows.{Row, Tables, row_at, live}
use Rattle.rules.specs.Keys.{counts}
use Rattle.rules.specs.Book.{Work, Book}
use Rattle.rules.specs.Calls.{Call, in_table, allowed}
use Rattle.rules.specs.State.{in_transaction}
use Rattle.rules.specs.Change.{Result, go, stop, change}
use Rattle.rules.specs.Found.{rows_found}
use Rattle.rules.specs.Statement.{Turn, check, demand, immediate_zero, enforced, journal_after, after_statement, settle, conclude, statement, row_statement}
use Rattle.rules.specs.Step.{act}
use Rattle.bridge.proofs.CountBounds.{counts_in_range}
use Rattle.bridge.proofs.Counts.{kept_counted}
use Rattle.bridge.proofs.Shapes.{Shaped}
use Rattle.bridge.proofs.Undo.{Undoes, Fine, went, fine_change, fine_found, shaped_after}
use Rattle.laws.proofs.Back.{Good, moved}
use Rattle.laws.proofs.Good.{good_moved}
use Rattle.families.specs.Families.{Joined}
use Rattle.families.specs.Families.Joined.{itself, directly, turned, through}
use Rattle.families.proofs.CallKinds.{ChangesRows, inserting, updating, deleting, deleting_found, updating_found}
use Rattle.families.proofs.Writes.{Agree}
use Rattle.families.proofs.Traces.{Local, Closed, local_change, local_found}

-- the call is a statement that reads and writes only tables of P
pub record StatementOf (s : Schema) (P : ℕ → Type 0) (c : Call) : Type 0 where
  pub fits : Tables → Bool  -- not refused by 11
  pub body : Work → Result
  pub runs : (b : Book) → act s c b ≡ check (fits b.work.tabs) RowState (statement s body) b
  pub reads : (tabs tabs' : Tables) → Agree P tabs tabs' → fits tabs ≡ fits tabs'
  pub local : Local P body
  pub fine : (w : Work) → Shaped s w.tabs → Fine s w (body w)

-- a family is closed
pub family_closed : (s : Schema) (t : ℕ) → Closed s (Joined s t)
family_closed s t =
    record {
      down = λ k m e p. through p (turned (directly k m e));
      up = λ k m e p. through p (directly k m e);
    }

-- insert, update and delete
row_statement_lem : (s : Schema) → Valid s → (c : Call) (test : Bool → Bool) (t r : ℕ) (new : Row) → in_table s t r ≡ true → ((b : Book) → act s c b ≡ row_statement s (test (live (row_at t r b.work.tabs))) t r new b) → StatementOf s (Joined s t) c
unfolding row_statement row_at
row_statement_lem s valid c test t r new h e =
    record {
      fits = λ tabs. test (live (row_at t r tabs));
      body = change 16 s t r new;
      runs = e;
      reads = λ tabs tabs' a. ap (λ (rows : List Row). test (live (get_or rows r []))) (a t itself);
      local = local_change s (Joined s t) (family_closed s t) 16 t r new itself;
      fine = λ w sh. fine_change valid 16 t r new h w sh;
    }

-- many rows: 11 does not apply
found_statement : (s : Schema) → Valid s → (c : Call) (t : ℕ) (found : Row → Bool) (new : Row → Row) → ((b : Book) → act s c b ≡ statement s (rows_found s t found new) b) → StatementOf s (Joined s t) c
unfolding check
found_statement s valid c t found new e =
    record {
      fits = λ tabs. true;
      body = rows_found s t found new;
      runs = e;
      reads = λ tabs tabs' a. refl;
      local = local_found s (Joined s t) (family_closed s t) t itself found new;
      fine = λ w sh. fine_found valid t found new w sh;
    }

-- a call that changes rows of a table is a statement that reads and writes only tables of its family
pub statement_of : (s : Schema) → Valid s → {t : ℕ} {c : Call} → ChangesRows t c → allowed s c ≡ true → StatementOf s (Joined s t) c
unfolding allowed act
statement_of s v (inserting {t} {r}) h = row_statement_lem s v _ not t r _ (and_left (in_table s t r) _ h) (λ b. refl)
statement_of s v (updating {t} {r}) h = row_statement_lem s v _ (λ l. l) t r _ (and_left (in_table s t r) _ h) (λ b. refl)
statement_of s v (deleting {t} {r}) h = row_statement_lem s v _ (λ l. l) t r _ h (λ b. refl)
statement_of s v (deleting_found {t}) h = found_statement s v _ t _ _ (λ b. refl)
statement_of s v (updating_found {t}) h = found_statement s v _ t _ _ (λ b. refl)

-- ---- accepted in a transaction

-- the statement's row changes lead to w, and no immediate key has an orphan there
pub record Accepts (s : Schema) (P : ℕ → Type 0) (c : Call) (st : StatementOf s P c) (b : Book) (w : Work) : Type 0 where
  pub fits_is : st.fits b.work.tabs ≡ true
  pub body_is : st.body b.work ≡ go w
  pub zero : immediate_zero s.keys (counts s w.tabs) ≡ true

-- the turn of a statement that leads to w
abbrev pub turn_to : Schema → Work → Book → Turn
turn_to s w b = (did (length w.used - length b.work.used) (sum (less (counts s w.tabs) (counts s b.work.tabs))), moved (counts s w.tabs) w b)

pub check_passed : (t : Bool) (r : Refusal) (k : Book → Turn) (b : Book) → accepted (check t r k b).0 ≡ true → (t ≡ true) × (accepted (k b).0 ≡ true)
unfolding check accepted
check_passed true r k b h = (refl, h)
check_passed false r k b h = absurd (false≢true h)

demand_passed : (t : Bool) (r : Refusal) (k : Book → Turn) (b : Book) → accepted (demand t r k b).0 ≡ true → (t ≡ true) × (accepted (k b).0 ≡ true)
unfolding demand accepted
demand_passed true r k b h = (refl, h)
demand_passed false r k b h = absurd (false≢true h)

pub check_is : (t : Bool) (r : Refusal) (k : Book → Turn) (b : Book) → t ≡ true → check t r k b ≡ k b
unfolding check
check_is t r k b e = rw e refl

demand_is : (t : Bool) (r : Refusal) (k : Book → Turn) (b : Book) → t ≡ true → demand t r k b ≡ k b
unfolding demand
demand_is t r k b e = rw e refl

module _ {s : Schema} {b : Book} (g : Good s b) (i : in_transaction b.levels ≡ true) where
  -- the kept numbers after a statement that leads to w
  kept_after : (w : Work) → plus b.kept (less (counts s w.tabs) (counts s b.work.tabs)) ≡ counts s w.tabs
  kept_after w = ap (λ k. plus k (less (counts s w.tabs) (counts s b.work.tabs))) g.counted ∙ kept_counted s b.work.tabs w.tabs

  after_is : (w : Work) (kept : List ℤ) → after_statement w kept b ≡ moved kept w b
  unfolding after_statement journal_after
  after_is w kept = rw i refl

  enforced_is : (kept : List ℤ) → enforced (in_transaction b.levels) s kept ≡ immediate_zero s.keys kept
  unfolding enforced
  enforced_is kept = rw i refl

  concluded : (w : Work) → Shaped s w.tabs → immediate_zero s.keys (counts s w.tabs) ≡ true → conclude s (go w) b ≡ turn_to s w b
  unfolding conclude settle
  concluded w sh z =
      rw (kept_after w)
      (demand_is _ _ _ b (counts_in_range s w.tabs sh)
      ∙ demand_is _ _ _ b (enforced_is (counts s w.tabs) ∙ z)
      ∙ ap {B = Turn} (λ (b' : Book). (did (length w.used - length b.work.used) (sum (less (counts s w.tabs) (counts s b.work.tabs))), b')) (after_is w (counts s w.tabs)))

  conclude_passed : (x : Result) → accepted (conclude s x b).0 ≡ true → (w : Work) × (x ≡ go w) × (immediate_zero s.keys (counts s w.tabs) ≡ true)
  unfolding conclude settle accepted
  conclude_passed (stop c w) h = absurd (false≢true h)
  conclude_passed (go w) h =
      let e : enforced (in_transaction b.levels) s (plus b.kept (less (counts s w.tabs) (counts s b.work.tabs))) ≡ true = (demand_passed _ _ _ b (demand_passed _ _ _ b h).1).0 in
      (w, refl, sym (enforced_is (counts s w.tabs)) ∙ ap (enforced (in_transaction b.levels) s) (sym (kept_after w)) ∙ e)

  module _ {P : ℕ → Type 0} {c : Call} (st : StatementOf s P c) where
    pub statement_undone : (w : Work) → st.body b.work ≡ go w → Undoes s b.work w
    statement_undone w e = by (subst (Fine s b.work) e (st.fine b.work g.shaped))
      where
        by : Fine s b.work (go w) → Undoes s b.work w
        by (went u) = u

    module _ (w : Work) (a : Accepts s P c st b w) where
      pub accepts_turn : act s c b ≡ turn_to s w b
      unfolding statement
      accepts_turn =
          st.runs b
          ∙ check_is _ _ _ b a.fits_is
          ∙ ap (λ x. conclude s x b) a.body_is
          ∙ concluded w (shaped_after (statement_undone w a.body_is) g.shaped) a.zero

      pub accepts_good : Good s (moved (counts s w.tabs) w b)
      accepts_good =
          let u : Undoes s b.work w = statement_undone w a.body_is in
          good_moved g w u i (counts_in_range s w.tabs (shaped_after u g.shaped))

    pub accepted_accepts : accepted (act s c b).0 ≡ true → (w : Work) × Accepts s P c st b w
    unfolding statement
    accepted_accepts h =
        let p = check_passed _ _ _ b (ap (λ (t : Turn). accepted t.0) (sym (st.runs b)) ∙ h) in
        let (w, e, z) = conclude_passed (st.body b.work) p.1 in
        (w, record { fits_is = p.0; body_is = e; zero = z })
