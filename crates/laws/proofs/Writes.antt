-- A call that is accepted and rolls nothing back made row changes, one after the other, each let pass by its checks.
-- Assumes nothing.
use mathlib.Core.Path.{◌≡◌, refl}
use mathlib.Core.Bool.{Bool, true, false, ◌&&◌, true≢false, false≢true}
use mathlib.Core.List.{List, [], ◌∷◌}
use Prim.Native.Nat.{ℕ, zero, suc}
use lib.IntN.{ℤ}
use lib.ListN.{get_or}
use Rattle.schema.specs.declared.Action.{Action}
use Rattle.schema.specs.declared.Action.TheVariants.{NoAction, Restrict, SetNull, SetDefault, Cascade}
use Rattle.schema.specs.Records.{ForeignKey, Schema, table_of}
use Rattle.rules.specs.declared.Refusal.{Refusal}
use Rattle.rules.specs.declared.Refusal.TheVariants.{JournalFull, BrokenKey, NotNull, NotUnique, BadWindow}
use Rattle.std.specs.Prelude.{Ok, Err}
use Rattle.rules.specs.Lists.{any, up_from}
use Rattle.rules.specs.Refusals.{Verdict, failing, did}
use Rattle.rules.specs.Rows.{Row, row_at, live}
use Rattle.rules.specs.Keys.{uses_broken}
use Rattle.rules.specs.Book.{Work, Book, write, emptied, push, close, ended}
use Rattle.rules.specs.Calls.{Call, malformed, insert, update, delete, begin, savepoint, release, rollback_to, rollback, commit, delete_where, update_where, parse}
use Rattle.rules.specs.Change.{Result, go, stop, then, given, in_turn, Change, bad_window, admits, admitted, taken, row_turn, children, key_turn, actions, change}
use Rattle.rules.specs.Found.{found_turn, rows_found}
use Rattle.rules.specs.Statement.{Turn, check, demand, journal_after, after_statement, settle, conclude, statement, row_statement}
use Rattle.rules.specs.State.{in_transaction}
use Rattle.rules.specs.Step.{opened, committed, released, act, step}
use Rattle.laws.specs.UsedKeys.{rolls_back}

-- from the first to the second by row changes that are let pass
pub data Admitted (s : Schema) : Work → Work → Type 0 where
  done : {w : Work} → Admitted s w w
  next : {w v : Work} (t r : ℕ) (new : Row) → admits s t r new w ≡ Ok tt → Admitted s (write t r new w) v → Admitted s w v

-- a turn that is accepted wrote such row changes, or nothing
pub data Wrote (s : Schema) (b : Book) : Turn → Type 0 where
  refused : {r : Refusal} {b' : Book} → Wrote s b (Err r, b')
  wrote : {n : ℕ} {m : ℤ} {b' : Book} {w : Work} → Admitted s b.work w → b'.work.tabs ≡ w.tabs → Wrote s b (did n m, b')

-- ---- what the checks say of a row change that they let pass

abbrev passes : Verdict → Bool
passes (Ok tt) = true
passes (Err c) = false

-- the first of them, and the others
passed : (b : Bool) (c : Refusal) (v : Verdict) → failing b c v ≡ Ok tt → (b ≡ false) × (v ≡ Ok tt)
unfolding failing
passed true c v e = absurd (false≢true (λ i. passes (e i)))
passed false c v e = (refl, e)

module _ (s : Schema) (t r : ℕ) (new : Row) (w : Work) (e : admits s t r new w ≡ Ok tt) where
  pub admits_unbroken : any (uses_broken new t (row_at t r w.tabs)) s.keys ≡ false
  unfolding admits
  admits_unbroken = (passed _ BrokenKey _ (passed _ JournalFull _ e).1).0

  pub admits_windows : live new && any (bad_window t r new (get_or w.tabs t [])) s.keys ≡ false
  unfolding admits
  admits_windows =
      let past_broken = (passed _ BrokenKey _ (passed _ JournalFull _ e).1).1 in
      let past_unique = (passed _ NotUnique _ (passed _ NotNull _ past_broken).1).1 in
      (passed _ BadWindow _ past_unique).0

-- ---- the row changes of a call

-- the rows after a statement
kept_rows : (t : Bool) (w : Work) → (journal_after t w).tabs ≡ w.tabs
unfolding journal_after emptied
kept_rows true w = refl
kept_rows false w = refl

module _ (s : Schema) where
  -- one after the other
  joined : {w v x : Work} → Admitted s w v → Admitted s v x → Admitted s w x
  joined done q = q
  joined (next t r new e p) q = next t r new e (joined p q)

  -- what a statement has written, accepted or refused
  data Made (w : Work) : Result → Type 0 where
    went : {v : Work} → Admitted s w v → Made w (go v)
    stopped : {c : Refusal} {v : Work} → Made w (stop c v)

  made_after : {w v : Work} {x : Result} → Admitted s w v → Made v x → Made w x
  made_after p (went q) = went (joined p q)
  made_after p stopped = stopped

  made_then : {w : Work} {x : Result} {k : Work → Result} → Made w x → ((v : Work) → Made v (k v)) → Made w (then x k)
  unfolding then
  made_then (went {v} p) q = made_after p (q v)
  made_then stopped q = stopped

  made_given : {w : Work} (b : Bool) (k : Work → Result) → Made w (k w) → Made w (given b k w)
  unfolding given
  made_given true k p = p
  made_given false k p = went done

  made_admitted : {w : Work} (v : Verdict) (k : Work → Result) → (v ≡ Ok tt → Made w (k w)) → Made w (admitted v k w)
  unfolding admitted
  made_admitted (Ok tt) k p = p refl
  made_admitted (Err c) k p = stopped

  made_in_turn : (turn : ℕ → Work → Result) → ((i : ℕ) (w : Work) → Made w (turn i w)) → (is : List ℕ) (w : Work) → Made w (in_turn turn is w)
  unfolding in_turn
  made_in_turn turn p [] w = went done
  made_in_turn turn p (i ∷ is) w = made_then (p i w) (made_in_turn turn p is)

  module _ (rec : Change) (new : Row) (made : (t r : ℕ) (x : Row) (w : Work) → Made w (rec t r x w)) where
    made_taken : (a : Action) (k : ForeignKey) (i : ℕ) (x : Row) (w : Work) → Made w (taken rec s new a k i x w)
    unfolding taken
    made_taken NoAction k i x w = went done
    made_taken Restrict k i x w = made_given _ _ stopped
    made_taken SetNull k i x w = made _ _ _ w
    made_taken SetDefault k i x w = made _ _ _ w
    made_taken Cascade k i x w = made _ _ _ w

    made_turn : (k : ForeignKey) (old : Row) (i : ℕ) (w : Work) → Made w (row_turn rec s new k old i w)
    unfolding row_turn
    made_turn k old i w = made_given _ _ (made_taken _ k i _ w)

    made_key : (t : ℕ) (old : Row) (k : ForeignKey) (w : Work) → Made w (key_turn rec s new t old k w)
    unfolding key_turn children
    made_key t old k w = made_given _ _ (made_in_turn (row_turn rec s new k old) (made_turn k old) _ w)

    made_actions : (t : ℕ) (old : Row) (ks : List ForeignKey) (w : Work) → Made w (actions rec s new t old ks w)
    unfolding actions
    made_actions t old [] w = went done
    made_actions t old (k ∷ ks) w = made_then (made_key t old k w) (made_actions t old ks)

  made_change : (n t r : ℕ) (new : Row) (w : Work) → Made w (change n s t r new w)
  unfolding change
  made_change zero t r new w = stopped
  made_change (suc n) t r new w =
      made_admitted _ _ (λ e. made_after (next t r new e done) (made_actions (change n s) new (made_change n) t _ s.keys _))

  made_found : (t : ℕ) (found : Row → Bool) (new : Row → Row) (w : Work) → Made w (rows_found s t found new w)
  unfolding rows_found found_turn
  made_found t found new w = made_in_turn (found_turn s t found new) (λ i w. made_given _ _ (made_change 16 t i _ w)) (up_from 0 (table_of s t).rows) w

  -- ---- calls
  module _ (b : Book) where
    of_check : (t : Bool) (r : Refusal) (k : Book → Turn) → Wrote s b (k b) → Wrote s b (check t r k b)
    unfolding check
    of_check true r k p = p
    of_check false r k p = refused

    of_demand : (t : Bool) (r : Refusal) (k : Book → Turn) → Wrote s b (k b) → Wrote s b (demand t r k b)
    unfolding demand
    of_demand true r k p = p
    of_demand false r k p = refused

    of_result : {x : Result} → Made b.work x → Wrote s b (conclude s x b)
    unfolding conclude settle after_statement
    of_result (went {v} p) = of_demand _ _ _ (of_demand _ _ _ (wrote p (kept_rows (in_transaction b.levels) v)))
    of_result stopped = refused

    of_row : (fits : Bool) (t r : ℕ) (new : Row) → Wrote s b (row_statement s fits t r new b)
    unfolding row_statement statement
    of_row fits t r new = of_check fits _ _ (of_result (made_change 16 t r new b.work))

    of_found : (t : ℕ) (found : Row → Bool) (new : Row → Row) → Wrote s b (statement s (rows_found s t found new) b)
    unfolding statement
    of_found t found new = of_result (made_found t found new b.work)

    of_opened : (o : ℕ) (ls : List (List ℤ)) → Wrote s b (opened o ls b)
    unfolding opened push
    of_opened o [] = refused
    of_opened o (x ∷ rest) = wrote done refl

    of_committed : Wrote s b (committed b)
    unfolding committed ended emptied
    of_committed = of_check _ _ _ (wrote done refl)

    of_released : (first : Bool) (n : ℕ) → Wrote s b (released first n b)
    unfolding released close
    of_released true n = of_committed
    of_released false n = wrote done refl

    of_act : (c : Call) → rolls_back c ≡ false → Wrote s b (act s c b)
    unfolding act rolls_back
    of_act malformed h = refused
    of_act (insert t r m vs) h = of_row _ t r _
    of_act (update t r m vs) h = of_row _ t r _
    of_act (delete t r) h = of_row _ t r _
    of_act begin h = of_check _ _ _ (of_opened 1 b.closed)
    of_act savepoint h = of_opened _ b.closed
    of_act (release a) h = of_check _ _ _ (of_released _ _)
    of_act (rollback_to a) h = absurd (true≢false h)
    of_act rollback h = absurd (true≢false h)
    of_act commit h = of_check _ _ _ of_committed
    of_act (delete_where t c m v) h = of_found t _ _
    of_act (update_where t c m v d y) h = of_found t _ _

    pub call_wrote : (c : List ℤ) → rolls_back (parse c) ≡ false → Wrote s b (step s c b)
    unfolding step
    call_wrote c h = of_check _ _ _ (of_check _ _ _ (of_act (parse c) h))
