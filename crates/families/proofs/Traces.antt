-- A row change reads and writes tables of its family alone: what it writes, or the number that refuses it, is the same wherever those tables are and the journal has room.
-- Assumes nothing.
use mathlib.Core.Path.{◌≡◌, refl, sym, ◌∙◌, ap, subst, fun_ext}
use mathlib.Core.Bool.{Bool, true, false, not, ◌&&◌, true≢false}
use mathlib.Core.List.{List, [], ◌∷◌, ◌++◌}
use mathlib.Core.Logic.{inl, inr}
use Prim.Native.Nat.{ℕ, zero, suc, ◌+◌, ◌-◌, ◌≤◌}
use native.Mathlib.Omega.{arith}
use borrow.Author.Tests.{ne_eqb}
use lib.Dec.{eqb, eqb→eq}
use lib.ListN.{length, get_or, length-append, length-drop}
use Rattle.schema.specs.declared.Action.{Action}
use Rattle.schema.specs.declared.Action.TheVariants.{NoAction, Restrict, SetNull, SetDefault, Cascade}
use Rattle.schema.specs.Records.{ForeignKey, Schema, table_of}
use Rattle.schema.specs.ParentKey.{Mem}
use Rattle.schema.proofs.RangeLaws.{and_left, and_right}
use Rattle.rules.specs.declared.Refusal.{Refusal}
use Rattle.rules.specs.declared.Refusal.TheVariants.{JournalFull, TooDeep, BrokenKey, NotNull, NotUnique, BadWindow, Restricted}
use Rattle.std.specs.Prelude.{Ok, Err}
use Rattle.rules.specs.Refusals.{Verdict, failing}
use Rattle.rules.specs.Lists.{any, padded, up_from}
use Rattle.rules.specs.Rows.{Row, row_at, image, live}
use Rattle.rules.specs.Keys.{serves, takes, fires, uses_broken}
use Rattle.rules.specs.Book.{Work, write}
use Rattle.rules.specs.Change.{Result, go, stop, then, given, in_turn, Change, not_null_broken, unique_broken, bad_window, admits, admitted, action_of, taken, row_turn, children, key_turn, actions, change}
use Rattle.rules.specs.Found.{found_turn, rows_found}
use Rattle.bridge.proofs.Tests.{holds, fails}
use Rattle.families.proofs.Writes.{Write, put_all, write_all, write_all_append, write_all_none, write_all_one, Agree, Within, within_append, agree_all}

-- f leads from w to w' by row writes to tables of P, and does the same writes wherever those tables are the same and the journal has room for them
pub record Trace (P : ℕ → Type 0) (f : Work → Result) (w w' : Work) : Type 0 where
  pub writes : List Write
  pub within : Within P writes
  pub done : w' ≡ write_all writes w
  pub room : length writes ≤ length w.spare
  pub again : (v : Work) → Agree P w.tabs v.tabs → length writes ≤ length v.spare → f v ≡ go (write_all writes v)

-- refused by c
pub data Stops (c : Refusal) : Result → Type 0 where
  stops : {w : Work} → Stops c (stop c w)

-- what f comes to from w: writes, or a refusal, which is the same wherever those tables are the same and as many journal records are left
pub data Traced (P : ℕ → Type 0) (f : Work → Result) (w : Work) : Result → Type 0 where
  went : {w' : Work} → Trace P f w w' → Traced P f w (go w')
  stopped : {c : Refusal} {w' : Work} → ((v : Work) → Agree P w.tabs v.tabs → length v.spare ≡ length w.spare → Stops c (f v)) → Traced P f w (stop c w')

-- f reads and writes only tables of P
abbrev pub Local : (ℕ → Type 0) → (Work → Result) → Type 0
Local P f = (w : Work) → Traced P f w (f w)

-- the trace of an accepted one
pub trace : (P : ℕ → Type 0) (f : Work → Result) → Local P f → (w w' : Work) → f w ≡ go w' → Trace P f w w'
trace P f h w w' e = by (subst (Traced P f w) e (h w))
  where
    by : Traced P f w (go w') → Trace P f w w'
    by (went t) = t

module _ (P : ℕ → Type 0) where
  pub local_go : Local P go
  local_go w = went (record { writes = []; within = tt; done = sym (write_all_none w); room = omega arith; again = λ v a r. ap go (sym (write_all_none v)) })

  pub local_stop : (c : Refusal) → Local P (stop c)
  local_stop c w = stopped (λ v a e. stops)

  -- ---- one after the other

  module _ (g k : Work → Result) where
    -- k after the writes of g, done again from v
    again_then : {w w' : Work} (t : Trace P g w w') (v : Work) → length t.writes ≤ length v.spare → Agree P w.tabs v.tabs → then (g v) k ≡ k (write_all t.writes v)
    unfolding then
    again_then t v r a = ap (λ x. then x k) (t.again v a r)

    agree_after : {w w' : Work} (t : Trace P g w w') (v : Work) → Agree P w.tabs v.tabs → Agree P w'.tabs (write_all t.writes v).tabs
    unfolding write_all
    agree_after {w} t v a = subst (λ (z : Work). Agree P z.tabs (put_all t.writes v.tabs)) (sym t.done) (agree_all P t.writes w.tabs v.tabs a)

    -- what is left of the journal after the writes of g
    left_after : {w w' : Work} (t : Trace P g w w') → length w'.spare ≡ length w.spare - length t.writes
    unfolding write_all
    left_after {w} t = ap (λ (z : Work). length z.spare) t.done ∙ length-drop (length t.writes) w.spare

    left_writing : (xs : List Write) (v : Work) → length (write_all xs v).spare ≡ length v.spare - length xs
    unfolding write_all
    left_writing xs v = length-drop (length xs) v.spare

    both_trace : {w w' w'' : Work} → Trace P g w w' → Trace P k w' w'' → Trace P (λ w. then (g w) k) w w''
    both_trace {w} {w'} {w''} t u =
        let xs : List Write = t.writes in
        let ys : List Write = u.writes in
        let n : length (xs ++ ys) ≡ length xs + length ys = length-append xs ys in
        record {
          writes = xs ++ ys;
          within = within_append P xs ys t.within u.within;
          done = u.done ∙ ap (write_all ys) t.done ∙ sym (write_all_append xs ys w);
          room = omega (arith, t.room, u.room, left_after t);
          again = λ v a r.
              again_then t v (omega arith) a
              ∙ u.again (write_all xs v) (agree_after t v a) (omega (arith, left_writing xs v))
              ∙ ap go (sym (write_all_append xs ys v));
        }

    second : {w w' : Work} {y : Result} → Trace P g w w' → Traced P k w' y → Traced P (λ w. then (g w) k) w y
    second t (went u) = went (both_trace t u)
    second t (stopped {c} h) =
        stopped (λ v a e.
        subst (Stops c) (sym (again_then t v (omega (arith, t.room)) a))
        (h (write_all t.writes v) (agree_after t v a) (omega (arith, left_writing t.writes v, left_after t))))

    stops_then : {c : Refusal} {x : Result} → Stops c x → Stops c (then x k)
    unfolding then
    stops_then stops = stops

    first : {w : Work} {x : Result} → Traced P g w x → Local P k → Traced P (λ w. then (g w) k) w (then x k)
    unfolding then
    first (went {w'} t) h = second t (h w')
    first (stopped h) l = stopped (λ v a e. stops_then (h v a e))

    pub local_then : Local P g → Local P k → Local P (λ w. then (g w) k)
    local_then p q w = first (p w) q

  pub local_given : (b : Bool) (k : Work → Result) → Local P k → Local P (given b k)
  unfolding given
  local_given true k p w = p w
  local_given false k p w = local_go w

  pub local_in_turn : (turn : ℕ → Work → Result) → ((i : ℕ) → Local P (turn i)) → (is : List ℕ) → Local P (in_turn turn is)
  unfolding in_turn
  local_in_turn turn h [] = local_go
  local_in_turn turn h (i ∷ is) = local_then (turn i) (in_turn turn is) (h i) (local_in_turn turn h is)

  -- ---- a table of P is read

  module _ (u : ℕ) (p : P u) (f : List Row → Work → Result) where
    reading : {w : Work} {x : Result} → Traced P (f (get_or w.tabs u [])) w x → Traced P (λ w. f (get_or w.tabs u []) w) w x
    reading (went t) =
        went (record {
          writes = t.writes;
          within = t.within;
          done = t.done;
          room = t.room;
          again = λ v a r. ap (λ rows. f rows v) (sym (a u p)) ∙ t.again v a r;
        })
    reading {w} (stopped {c} h) = stopped (λ v a e. subst (Stops c) (ap (λ rows. f rows v) (a u p)) (h v a e))

    pub local_read : ((rows : List Row) → Local P (f rows)) → Local P (λ w. f (get_or w.tabs u []) w)
    local_read h w = reading (h (get_or w.tabs u []) w)

  -- ---- a row of a table of P is written, where there is room and the other checks pass

  module _ (t r : ℕ) (new : Row) (p : P t) where
    abbrev one : Write
    one = record { table = t; row = r; new = new }

    abbrev written : Verdict → Work → Result
    written v w = admitted (failing (eqb (length w.spare) 0) JournalFull v) (λ w. go (write t r new w)) w

    has_room : (n : ℕ) → 1 ≤ n → (v : Verdict) → failing (eqb n 0) JournalFull v ≡ v
    unfolding failing
    has_room n h v = rw (ne_eqb n 0 (λ e. omega arith)) refl

    room_left : (n : ℕ) → eqb n 0 ≡ false → 1 ≤ n
    room_left zero e = absurd (true≢false e)
    room_left (suc n) e = omega arith

    write_traced : (w : Work) → 1 ≤ length w.spare → Trace P (written (Ok tt)) w (write t r new w)
    unfolding admitted
    write_traced w h =
        record {
          writes = one ∷ [];
          within = (p, tt);
          done = sym (write_all_one one w);
          room = h;
          again = λ v a l. rw (has_room (length v.spare) l (Ok tt)) (ap go (sym (write_all_one one v)));
        }

    -- refused by 15, or by one of the other checks
    no_room : (c : Refusal) (v : Verdict) (full : Bool) → failing full JournalFull v ≡ Err c → (w : Work) → eqb (length w.spare) 0 ≡ full → Stops c (written v w)
    unfolding admitted
    no_room c v full f w e = rw (e, f) stops

    refused : (v : Verdict) {w w' : Work} {c : Refusal} → failing (eqb (length w.spare) 0) JournalFull v ≡ Err c → Traced P (written v) w (stop c w')
    refused v {c = c} f = stopped (λ z a e. no_room c v _ f z (ap (λ n. eqb n 0) e))

    pub local_write : (v : Verdict) → Local P (written v)
    unfolding admitted failing
    local_write v w = by (eqb (length w.spare) 0) v refl
      where
        by : (full : Bool) (v : Verdict) → eqb (length w.spare) 0 ≡ full → Traced P (written v) w (admitted (failing full JournalFull v) (λ w. go (write t r new w)) w)
        by true v e = refused v (rw e refl)
        by false (Ok tt) e = went (write_traced w (room_left (length w.spare) e))
        by false (Err c) e = refused (Err c) (rw e refl)

-- ---- a row change

-- what is done where checks pass: first g, then k, which may know the state before
admitted_then : (v : Verdict) (g : Work → Work) (k : Work → Work → Result) (w : Work) → then (admitted v (λ w. go (g w)) w) (k w) ≡ admitted v (λ w. k w (g w)) w
unfolding admitted then
admitted_then (Ok tt) g k w = refl
admitted_then (Err c) g k w = refl

-- P holds of the child table of an unbroken foreign key where it holds of the parent table, and the other way round
pub record Closed (s : Schema) (P : ℕ → Type 0) : Type 0 where
  pub down : (k : ForeignKey) → Mem k s.keys → k.broken ≡ false → P k.parent → P k.child
  pub up : (k : ForeignKey) → Mem k s.keys → k.broken ≡ false → P k.child → P k.parent

module _ (s : Schema) (P : ℕ → Type 0) (closed : Closed s P) where
  module _ (change : Change) (new : Row) (deeper : (t r : ℕ) (vs : Row) → P t → Local P (change t r vs)) where
    local_taken : (a : Action) (k : ForeignKey) (i : ℕ) (x : Row) → P k.child → Local P (taken change s new a k i x)
    unfolding taken
    local_taken NoAction k i x p w = local_go P w
    local_taken Restrict k i x p w = local_given P (not (serves k x new)) (stop Restricted) (local_stop P Restricted) w
    local_taken SetNull k i x p w = deeper _ _ _ p w
    local_taken SetDefault k i x p w = deeper _ _ _ p w
    local_taken Cascade k i x p w = deeper _ _ _ p w

    local_turn : (k : ForeignKey) (old : Row) (i : ℕ) → P k.child → Local P (row_turn change s new k old i)
    unfolding row_turn row_at image
    local_turn k old i p =
        local_read P k.child p (λ rows. given (takes k old (get_or rows i [])) (taken change s new (action_of new k) k i (padded 9 (get_or rows i []))))
        (λ rows. local_given P _ _ (local_taken (action_of new k) k i _ p))

    local_children : (k : ForeignKey) (old : Row) (is : List ℕ) → P k.child → Local P (children change s new k old is)
    unfolding children
    local_children k old is p = local_in_turn P (row_turn change s new k old) (λ i. local_turn k old i p) is

    local_key : (t : ℕ) (old : Row) (k : ForeignKey) → (fires new t old k ≡ true → P k.child) → Local P (key_turn change s new t old k)
    unfolding key_turn given
    local_key t old k p = by (fires new t old k) refl
      where
        by : (b : Bool) → fires new t old k ≡ b → Local P (given b (children change s new k old (up_from 0 (table_of s k.child).rows)))
        by true e = local_children k old _ (p e)
        by false e = local_go P

    local_actions : (t : ℕ) (old : Row) (ks : List ForeignKey) → ((k : ForeignKey) → Mem k ks → fires new t old k ≡ true → P k.child) → Local P (actions change s new t old ks)
    unfolding actions Mem
    local_actions t old [] p = local_go P
    local_actions t old (k ∷ ks) p =
        local_then P (key_turn change s new t old k) (actions change s new t old ks) (local_key t old k (p k (inl refl))) (local_actions t old ks (λ j m. p j (inr m)))

  -- the actions of a key that fires are on its child table
  fired : (t : ℕ) (new old : Row) → P t → (k : ForeignKey) → Mem k s.keys → fires new t old k ≡ true → P k.child
  unfolding fires
  fired t new old p k m e =
      closed.down k m (fails k.broken (and_left (not k.broken) _ (and_right (eqb k.parent t) _ e)))
      (subst P (sym (eqb→eq k.parent t (holds (and_left (eqb k.parent t) _ e)))) p)

  -- a row change reads and writes only tables of its family
  pub local_change : (n t r : ℕ) (new : Row) → P t → Local P (change n s t r new)
  unfolding change admits image row_at
  local_change zero t r new p = local_stop P TooDeep
  local_change (suc n) t r new p =
      subst (Local P)
      (fun_ext (λ w. admitted_then (failing (eqb (length w.spare) 0) JournalFull (rest (get_or w.tabs t []))) (write t r new) (λ w. after (get_or w.tabs t [])) w))
      (local_read P t p (λ rows w. then (admitted (failing (eqb (length w.spare) 0) JournalFull (rest rows)) (λ w. go (write t r new w)) w) (after rows))
      (λ rows.
      local_then P (λ w. admitted (failing (eqb (length w.spare) 0) JournalFull (rest rows)) (λ w. go (write t r new w)) w) (after rows)
      (local_write P t r new p (rest rows))
      (local_actions (change n s) new (local_change n) t _ s.keys (fired t new _ p))))
    where
      -- 23, 16, 17 and 24
      rest : List Row → Verdict
      rest rows =
          failing (any (uses_broken new t (get_or rows r [])) s.keys) BrokenKey
          (failing (live new && not_null_broken (table_of s t) new) NotNull
          (failing (live new && unique_broken (table_of s t) r new rows) NotUnique
          (failing (live new && any (bad_window t r new rows) s.keys) BadWindow (Ok tt))))

      after : List Row → Work → Result
      after rows = actions (change n s) s new t (padded 9 (get_or rows r [])) s.keys

  -- so do the row changes of kinds 10 and 11
  pub local_found : (t : ℕ) → P t → (found : Row → Bool) (new : Row → Row) → Local P (rows_found s t found new)
  unfolding rows_found found_turn row_at image
  local_found t p found new =
      local_in_turn P (found_turn s t found new)
      (λ i.
      local_read P t p (λ rows. given (found (get_or rows i [])) (change 16 s t i (new (padded 9 (get_or rows i [])))))
      (λ rows. local_given P _ _ (local_change 16 t i _ p)))
      (up_from 0 (table_of s t).rows)
