-- What a row change writes to the journal undoes it.
-- Assumes nothing.
use mathlib.Core.Path.{◌≡◌, refl, sym, ◌∙◌, ap}
use mathlib.Core.Bool.{Bool, true, false, ◌&&◌, ◌||◌, false≢true}
use mathlib.Core.List.{List, [], ◌∷◌, ◌++◌, append_assoc}
use Prim.Native.Nat.{ℕ, zero, suc, ◌-◌, ◌<◌}
use native.Mathlib.Omega.{arith}
use lib.IntN.{ℤ}
use lib.Seq.{take-append_seam, drop-append_seam, length-take-le}
use lib.ListN.{length, take, drop, get_or, set, length-append, take-append-drop}
use lib.Dec.{leb, eqb}
use Rattle.bridge.proofs.Shapes.{Shaped, widths, widths_put, length_overwrite, nine_words}
use Rattle.bridge.proofs.Tests.{all_cons, all_append, all_head, all_tail, below}
use Rattle.rules.specs.Book.{Entry, Work, entry, write, undo_one, undo_all, undo, undo_to, zero_records}
use Rattle.rules.specs.Calls.{in_table}
use Rattle.rules.specs.Change.{Result, go, stop, then, given, in_turn, Change, taken, row_turn, children, key_turn, actions, admits, admitted, change}
use Rattle.rules.specs.Found.{found_turn, rows_found}
use Rattle.rules.specs.Lists.{𝟘, padded, up_from}
use Rattle.rules.specs.Refusals.{Verdict, failing, number}
use Rattle.std.specs.Prelude.{Ok, Err}
use Rattle.rules.specs.Rows.{Row, Tables, row_at, image, put_row, overwrite}
use Rattle.rules.specs.State.{placed}
use Rattle.rules.specs.declared.Refusal.{Refusal}
use Rattle.rules.specs.declared.Refusal.TheVariants.{JournalFull, TooDeep, BrokenKey, NotNull, NotUnique, BadWindow, Restricted}
use Rattle.schema.proofs.SchemaLaws.{Valid}
use Rattle.schema.specs.Ranges.{all}
use Rattle.schema.specs.Records.{table_of, ForeignKey, Schema}
use Rattle.schema.specs.declared.Action.{Action}
use Rattle.schema.specs.declared.Action.TheVariants.{NoAction, Restrict, SetNull, SetDefault, Cascade}

overwrite_twice : (row : Row) (vs ws : List ℤ) → overwrite (overwrite row vs) ws ≡ overwrite row ws
unfolding overwrite
overwrite_twice [] vs ws = refl
overwrite_twice (x ∷ row) [] [] = ap (λ l. 𝟘 ∷ l) (overwrite_twice row [] [])
overwrite_twice (x ∷ row) [] (w ∷ ws) = ap (λ l. w ∷ l) (overwrite_twice row [] ws)
overwrite_twice (x ∷ row) (v ∷ vs) [] = ap (λ l. 𝟘 ∷ l) (overwrite_twice row vs [])
overwrite_twice (x ∷ row) (v ∷ vs) (w ∷ ws) = ap (λ l. w ∷ l) (overwrite_twice row vs ws)

overwrite_self : (row : Row) (zs : List ℤ) → overwrite row (row ++ zs) ≡ row
unfolding overwrite
overwrite_self [] zs = refl
overwrite_self (x ∷ row) zs = ap (λ l. x ∷ l) (overwrite_self row zs)

-- within a table
put_back : (rows : List Row) (r : ℕ) (vs : List ℤ) → set (set rows r (overwrite (get_or rows r []) vs)) r (overwrite (get_or (set rows r (overwrite (get_or rows r []) vs)) r []) (padded 9 (get_or rows r []))) ≡ rows
put_back [] r vs = refl
put_back (x ∷ rows) zero vs = ap (λ l. l ∷ rows) (overwrite_twice x vs _ ∙ overwrite_self x _)
put_back (x ∷ rows) (suc r) vs = ap (λ l. x ∷ l) (put_back rows r vs)

pub undo_write : (tabs : Tables) (t r : ℕ) (vs : List ℤ) → undo_one (entry t r tabs) (put_row t r (overwrite (row_at t r tabs) vs) tabs) ≡ tabs
unfolding undo_one put_row row_at image
undo_write [] t r vs = refl
undo_write (rows ∷ tabs) zero r vs = ap (λ l. l ∷ tabs) (put_back rows r vs)
undo_write (rows ∷ tabs) (suc t) r vs = ap (λ l. rows ∷ l) (undo_write tabs t r vs)

pub undo_all_append : (es fs : List Entry) (tabs : Tables) → undo_all (es ++ fs) tabs ≡ undo_all fs (undo_all es tabs)
unfolding undo_all
undo_all_append [] fs tabs = refl
undo_all_append (e ∷ es) fs tabs = undo_all_append es fs (undo_one e tabs)

-- a record has nine old words
unfoldable pub nine : Entry → Bool
nine e = eqb (length e.old) 9

-- w' has new records on top of w's, and undoing them, newest first, gives w's rows
pub record Undoes (s : Schema) (w w' : Work) : Type 0 where
  pub new : List Entry
  pub gone : List (List ℤ)
  pub used_is : w'.used ≡ new ++ w.used
  pub spare_is : w.spare ≡ gone ++ w'.spare
  pub sizes : length gone ≡ length new
  pub tabs_is : undo_all new w'.tabs ≡ w.tabs
  pub places : all (placed s) new ≡ true
  pub olds : all nine new ≡ true
  pub widths_are : widths w'.tabs ≡ widths w.tabs

pub nothing : {s : Schema} (w : Work) → Undoes s w w
unfolding undo_all all
nothing w = record { new = []; gone = []; used_is = refl; spare_is = refl; sizes = refl; tabs_is = refl; places = refl; olds = refl; widths_are = refl }

pub after : {s : Schema} {w w' w'' : Work} → Undoes s w w' → Undoes s w' w'' → Undoes s w w''
after {s} {w} {w'} {w''} p q =
    record {
      new = q.new ++ p.new;
      gone = p.gone ++ q.gone;
      used_is = q.used_is ∙ ap (λ l. q.new ++ l) p.used_is ∙ simp append_assoc;
      spare_is = p.spare_is ∙ ap (λ l. p.gone ++ l) q.spare_is ∙ simp append_assoc;
      sizes = simp length-append (omega (arith, p.sizes, q.sizes));
      tabs_is = undo_all_append q.new p.new w''.tabs ∙ ap (undo_all p.new) q.tabs_is ∙ p.tabs_is;
      places = all_append (placed s) q.new p.new q.places p.places;
      olds = all_append nine q.new p.new q.olds p.olds;
      widths_are = q.widths_are ∙ p.widths_are;
    }

pub shaped_after : {s : Schema} {w v : Work} → Undoes s w v → Shaped s w.tabs → Shaped s v.tabs
unfolding Shaped
shaped_after u h = u.widths_are ∙ h

one_write : {s : Schema} → Valid s → (t r : ℕ) (vs : List ℤ) (w : Work) → Shaped s w.tabs → 0 < length w.spare → in_table s t r ≡ true → Undoes s w (write t r vs w)
unfolding undo_all all placed nine image
one_write {s} v t r vs w sh e h =
    record {
      new = entry t r w.tabs ∷ [];
      gone = take 1 w.spare;
      used_is = refl;
      spare_is = sym (take-append-drop 1 w.spare);
      sizes = length-take-le 1 w.spare (omega arith);
      tabs_is = undo_write w.tabs t r vs;
      places = all_cons (placed s) (entry t r w.tabs) [] h refl;
      olds = all_cons nine (entry t r w.tabs) [] (ap (λ n. eqb n 9) (nine_words v w.tabs sh t r)) refl;
      widths_are = widths_put w.tabs t r (overwrite (row_at t r w.tabs) vs) (length_overwrite (row_at t r w.tabs) vs);
    }

-- 14 to 18, 23 and 24: a row change is refused by no other
unfoldable pub of_change : Refusal → Bool
of_change c = leb 14 (number c) && (leb (number c) 18 || leb 23 (number c))

-- accepted or refused, what was written is undone by its records
pub data Fine (s : Schema) (w : Work) : Result → Type 0 where
  went : {v : Work} → Undoes s w v → Fine s w (go v)
  stopped : {c : Refusal} {v : Work} → of_change c ≡ true → Undoes s w v → Fine s w (stop c v)

fine_after : {s : Schema} {w v : Work} {x : Result} → Undoes s w v → Fine s v x → Fine s w x
fine_after p (went r) = went (after p r)
fine_after p (stopped h r) = stopped h (after p r)

fine_then : {s : Schema} {w : Work} {x : Result} {k : Work → Result} → Shaped s w.tabs → Fine s w x → ((v : Work) → Shaped s v.tabs → Fine s v (k v)) → Fine s w (then x k)
unfolding then
fine_then h (went {v} p) q = fine_after p (q v (shaped_after p h))
fine_then h (stopped e p) q = stopped e p

fine_given : {s : Schema} {w : Work} (b : Bool) (k : Work → Result) → Fine s w (k w) → Fine s w (given b k w)
unfolding given
fine_given true k p = p
fine_given false k p = went (nothing _)

fine_admitted : {s : Schema} {w : Work} (v : Verdict) (k : Work → Result) → ((c : Refusal) → v ≡ Err c → of_change c ≡ true) → (v ≡ Ok tt → Fine s w (k w)) → Fine s w (admitted v k w)
unfolding admitted
fine_admitted (Ok tt) k h p = p refl
fine_admitted (Err c) k h p = stopped (h c refl) (nothing _)

-- what a failed check says: nothing of a verdict that passes
abbrev code_of : Verdict → Refusal
code_of (Ok tt) = TooDeep
code_of (Err c) = c

failing_code : (b : Bool) (c d : Refusal) (v : Verdict) → of_change c ≡ true → ((d : Refusal) → v ≡ Err d → of_change d ≡ true) → failing b c v ≡ Err d → of_change d ≡ true
unfolding failing
failing_code true c d v h k e = rw (← (ap code_of e)) h
failing_code false c d v h k e = k d e

abbrev failed : Verdict → Bool
failed (Ok tt) = false
failed (Err c) = true

admits_code : (s : Schema) (t r : ℕ) (new : Row) (w : Work) (c : Refusal) → admits s t r new w ≡ Err c → of_change c ≡ true
unfolding admits of_change number
admits_code s t r new w c e =
    failing_code _ JournalFull c _ refl
    (λ d f. failing_code _ BrokenKey d _ refl
    (λ d f. failing_code _ NotNull d _ refl
    (λ d f. failing_code _ NotUnique d _ refl
    (λ d f. failing_code _ BadWindow d _ refl
    (λ d f. absurd (false≢true (ap failed f))) f) f) f) f)
    e

-- a change that is admitted has a spare record
spared_go : (n : ℕ) (v : Verdict) → failing (eqb n 0) JournalFull v ≡ Ok tt → 0 < n
unfolding failing
spared_go zero v h = absurd (false≢true (sym (ap failed h)))
spared_go (suc n) v h = omega arith

pub spared : (s : Schema) (t r : ℕ) (new : Row) (w : Work) → admits s t r new w ≡ Ok tt → 0 < length w.spare
unfolding admits
spared s t r new w e = spared_go (length w.spare) _ e

idle : {s : Schema} (w : Work) → Fine s w (go w)
idle w = went (nothing w)

halted : {s : Schema} (c : Refusal) (w : Work) → of_change c ≡ true → Fine s w (stop c w)
halted c w h = stopped h (nothing w)

-- rows in turn
fine_in_turn : {s : Schema} (turn : ℕ → Work → Result) (p : ℕ → Bool) → ((i : ℕ) → p i ≡ true → (w : Work) → Shaped s w.tabs → Fine s w (turn i w)) → (is : List ℕ) → all p is ≡ true → (w : Work) → Shaped s w.tabs → Fine s w (in_turn turn is w)
unfolding in_turn
fine_in_turn turn p fine [] h w sh = idle w
fine_in_turn turn p fine (i ∷ is) h w sh = fine_then sh (fine i (all_head p i is h) w sh) (fine_in_turn turn p fine is (all_tail p i is h))

module _ (change : Change) {s : Schema} (valid : Valid s) (new : List ℤ) (fine : (t r : ℕ) (vs : List ℤ) → in_table s t r ≡ true → (w : Work) → Shaped s w.tabs → Fine s w (change t r vs w)) where
  fine_taken : (a : Action) (k : ForeignKey) (i : ℕ) (x : Row) → in_table s k.child i ≡ true → (w : Work) → Shaped s w.tabs → Fine s w (taken change s new a k i x w)
  unfolding taken of_change number
  fine_taken NoAction k i x h w sh = idle w
  fine_taken Restrict k i x h w sh = fine_given _ _ (halted Restricted w refl)
  fine_taken SetNull k i x h w sh = fine _ _ _ h w sh
  fine_taken SetDefault k i x h w sh = fine _ _ _ h w sh
  fine_taken Cascade k i x h w sh = fine _ _ _ h w sh

  fine_turn : (k : ForeignKey) (old : Row) (i : ℕ) → in_table s k.child i ≡ true → (w : Work) → Shaped s w.tabs → Fine s w (row_turn change s new k old i w)
  unfolding row_turn
  fine_turn k old i h w sh = fine_given _ _ (fine_taken _ k i _ h w sh)

  fine_children : (k : ForeignKey) (old : Row) (is : List ℕ) → all (in_table s k.child) is ≡ true → (w : Work) → Shaped s w.tabs → Fine s w (children change s new k old is w)
  unfolding children
  fine_children k old = fine_in_turn (row_turn change s new k old) (in_table s k.child) (fine_turn k old)

  rows_below : (k : ForeignKey) → all (in_table s k.child) (up_from 0 (table_of s k.child).rows) ≡ true
  unfolding in_table
  rows_below k = below 0 (table_of s k.child).rows (table_of s k.child).rows (omega arith)

  fine_key : (t : ℕ) (old : Row) (k : ForeignKey) (w : Work) → Shaped s w.tabs → Fine s w (key_turn change s new t old k w)
  unfolding key_turn
  fine_key t old k w sh = fine_given _ _ (fine_children k _ _ (rows_below k) w sh)

  fine_actions : (t : ℕ) (old : Row) (ks : List ForeignKey) (w : Work) → Shaped s w.tabs → Fine s w (actions change s new t old ks w)
  unfolding actions
  fine_actions t old [] w sh = idle w
  fine_actions t old (k ∷ ks) w sh = fine_then sh (fine_key t old k w sh) (fine_actions t old ks)

-- a change, accepted or refused, is undone by the records that it wrote
pub fine_change : {s : Schema} → Valid s → (n t r : ℕ) (new : List ℤ) → in_table s t r ≡ true → (w : Work) → Shaped s w.tabs → Fine s w (change n s t r new w)
unfolding change of_change number
fine_change v zero t r new h w sh = halted TooDeep w refl
fine_change {s} v (suc n) t r new h w sh =
    fine_admitted _ _ (admits_code s t r new w) (λ e.
    let p : Undoes s w (write t r new w) = one_write v t r new w sh (spared s t r new w e) h in
    fine_after p (fine_actions (change n s) v new (fine_change v n) t _ s.keys _ (shaped_after p sh)))

-- and the rows that a statement finds
pub fine_found : {s : Schema} → Valid s → (t : ℕ) (found : Row → Bool) (new : Row → Row) (w : Work) → Shaped s w.tabs → Fine s w (rows_found s t found new w)
unfolding rows_found found_turn in_table
fine_found {s} v t found new w sh =
    fine_in_turn (found_turn s t found new) (in_table s t) (λ i h w sh. fine_given _ _ (fine_change v 16 t i _ h w sh))
    (up_from 0 (table_of s t).rows) (below 0 (table_of s t).rows (table_of s t).rows (omega arith)) w sh

-- undoing down to the use at entry gives the rows and the records of the entry; what was written is zeroed
pub put_back_all : {s : Schema} {w v : Work} (u : Undoes s w v) → undo_to (length w.used) v ≡ record { tabs = w.tabs; used = w.used; spare = zero_records (length u.new) ++ v.spare }
unfolding undo_to undo
put_back_all {w = w} {v = v} u =
    let n : length v.used - length w.used ≡ length u.new = rw u.used_is (simp length-append (omega arith)) in
    rw n
    (λ i. record {
      tabs = (ap (λ l. undo_all (take (length u.new) l) v.tabs) u.used_is ∙ ap (λ l. undo_all l v.tabs) (take-append_seam u.new w.used) ∙ u.tabs_is) i;
      used = (ap (drop (length u.new)) u.used_is ∙ drop-append_seam u.new w.used) i;
      spare = zero_records (length u.new) ++ v.spare;
    })
