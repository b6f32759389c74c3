-- Two calls on different families, accepted one after the other in one open transaction, in an area reached from a fresh one: the other order.
-- Assumes nothing.
use mathlib.Core.Path.{◌≡◌, refl, sym, ◌∙◌, ap, subst}
use mathlib.Core.Bool.{true, ◌||◌}
use mathlib.Core.List.{List, [], ◌∷◌, ◌++◌, append_assoc}
use mathlib.Core.Logic.{inl, inr}
use Prim.Native.Nat.{ℕ, ◌+◌, ◌*◌, ◌≤◌, ◌<◌}
use native.Mathlib.Omega.{arith}
use lib.Dec.{leb, le→leb}
use lib.IntN.{ℤ}
use lib.ListN.{length, get_or, length-append}
use Rattle.schema.specs.Check.{Accepted, check_schema}
use Rattle.schema.specs.Ranges.{all}
use Rattle.schema.specs.ParentKey.{Mem}
use Rattle.schema.specs.Records.{Schema}
use Rattle.schema.specs.Fields.{schema_of}
use Rattle.schema.proofs.SchemaLaws.{Valid, accepted_valid}
use Rattle.rules.specs.Lists.{𝟘, sum}
use Rattle.rules.specs.Values.{nat_of}
use Rattle.rules.specs.Refusals.{Answer, shown, accepted, did}
use Rattle.rules.specs.Keys.{counts}
use Rattle.rules.specs.Book.{Entry, Level, Work, Book, undo_all}
use Rattle.rules.specs.Calls.{rollback_to, rollback, parse, allowed}
use Rattle.rules.specs.State.{in_transaction}
use Rattle.rules.specs.Statement.{Turn}
use Rattle.rules.specs.Step.{act, step, run}
use Rattle.rules.specs.Area.{AreaTurn, on_words, words}
use Rattle.rules.specs.Engine.{call_on, run_on}
use Rattle.bridge.proofs.AreaParts.{record_words, records_append, records_length}
use Rattle.bridge.proofs.Books.{work_path, book_path}
use Rattle.bridge.proofs.RoundTrip.{Formed}
use Rattle.bridge.proofs.Tests.{passes, all_cons, all_head, all_tail}
use Rattle.bridge.proofs.Undo.{undo_all_append}
use Rattle.laws.proofs.Back.{Good, Uses, moved, some_open}
use Rattle.laws.proofs.Formed.{good_formed}
use Rattle.families.specs.Families.{Joined, Apart, OnTable}
use Rattle.families.specs.Families.Joined.{turned, through}
use Rattle.families.specs.EitherOrder.{Rollback, records_used, used_words, SameButRecords, SameRuns, changed_of, first, both, other, swapped, OneAfterOther, EitherOrder}
use Rattle.families.proofs.CallKinds.{changes_rows, rollback_to_is, rollback_is}
use Rattle.families.proofs.Settled.{Settled}
use Rattle.families.proofs.Statements.{turn_to, family_closed, statement_of}
use Rattle.families.proofs.Swap.{Swapped, swap_accepted}
use Rattle.families.proofs.BookCalls.{step_act, step_allowed, call_step, Lasting, good_lasting, lasting_step, lasting_run, lasting_end, Start, start}
use Rattle.families.proofs.AreaParts.{used_is}
use Rattle.families.proofs.Reordered.{with_used, Order, bottom, top, opened_by, clear_of, Reordering, Alike, alike_path}
use Rattle.families.proofs.Reordered.Alike.{reordered}
use Rattle.families.proofs.ReorderedLevels.{rollback_to_same, rollback_same}
use Rattle.families.proofs.ReorderedCalls.{AlikeRuns, run_alike}
use Rattle.families.proofs.AlikeAreas.{areas_alike, words_alike}

-- equal parts, equal answers
done_same : {m n : ℕ} {x y : List ℤ} → m ≡ n → x ≡ y → did m (sum x) ≡ did n (sum y)
done_same e f = λ i. did (e i) (sum (f i))

-- the area, and the answer, of a turn
area_of : {t : AreaTurn} {a : Answer} {l : List ℤ} → t ≡ (a, l) → t.1 ≡ l
area_of e = ap {B = List ℤ} (λ (t : AreaTurn). t.1) e

answer_of : {t : AreaTurn} {a : Answer} {l : List ℤ} → t ≡ (a, l) → t.0 ≡ a
answer_of e = ap {B = Answer} (λ (t : AreaTurn). t.0) e

-- every level was opened when at most n records were in use
opened_early : (n m : ℕ) (ls : List Level) → Uses m ls → m ≤ n → all (opened_by n) ls ≡ true
unfolding all opened_by
opened_early n m [] u h = refl
opened_early n m (l ∷ ls) u h =
    let k : l.base ≤ n = omega (arith, u.0) in
    all_cons (opened_by n) l ls (passes _ (le→leb l.base n k)) (opened_early n l.base ls u.1 k)

early_clear : (o : Order) (ls : List Level) → all (opened_by (bottom o)) ls ≡ true → all (clear_of o) ls ≡ true
unfolding all clear_of
early_clear o [] h = refl
early_clear o (l ∷ ls) h =
    all_cons (clear_of o) l ls (ap (λ x. x || leb (top o) l.base) (all_head (opened_by (bottom o)) l ls h)) (early_clear o ls (all_tail (opened_by (bottom o)) l ls h))

-- ---- from the book of an area

module _ (bs : List ℕ) (acc : check_schema bs ≡ Accepted) {b : Book} (l : Lasting (schema_of bs) b) (i : in_transaction b.levels ≡ true) (c d : List ℤ)
    (h : allowed (schema_of bs) (parse c) ≡ true) (k : allowed (schema_of bs) (parse d) ≡ true) (w : Swapped (schema_of bs) (parse c) (parse d) b) where
  abbrev s : Schema
  s = schema_of bs

  -- the book after statements that led to v
  abbrev at : Work → Book
  at v = moved (counts (schema_of bs) v.tabs) v b

  valid : Valid (schema_of bs)
  valid = accepted_valid bs acc

  formed : {e : Book} → Lasting (schema_of bs) e → Formed (schema_of bs) e
  formed m = good_formed valid (good_lasting m)

  -- the four turns
  step₁ : step (schema_of bs) c b ≡ turn_to (schema_of bs) w.w₁ b
  step₁ = step_act (good_lasting l) c h ∙ w.first

  l₁ : Lasting (schema_of bs) (at w.w₁)
  l₁ = lasting_step valid l c _ step₁

  step₁₂ : step (schema_of bs) d (at w.w₁) ≡ turn_to (schema_of bs) w.w₁₂ (at w.w₁)
  step₁₂ = step_act (good_lasting l₁) d k ∙ w.both

  l₁₂ : Lasting (schema_of bs) (at w.w₁₂)
  l₁₂ = lasting_step valid l₁ d _ step₁₂

  step₂ : step (schema_of bs) d b ≡ turn_to (schema_of bs) w.w₂ b
  step₂ = step_act (good_lasting l) d k ∙ w.other

  l₂ : Lasting (schema_of bs) (at w.w₂)
  l₂ = lasting_step valid l d _ step₂

  step₂₁ : step (schema_of bs) c (at w.w₂) ≡ turn_to (schema_of bs) w.w₂₁ (at w.w₂)
  step₂₁ = step_act (good_lasting l₂) c h ∙ w.swapped

  l₂₁ : Lasting (schema_of bs) (at w.w₂₁)
  l₂₁ = lasting_step valid l₂ c _ step₂₁

  -- on words
  turn_is : {e : Book} {t : Turn} → Lasting (schema_of bs) e → (x : List ℤ) → step (schema_of bs) x e ≡ t → call_on bs x (words e) ≡ on_words t
  turn_is m x q = call_step bs acc (good_lasting m) x ∙ ap on_words q

  first_is : first bs (words b) c d ≡ on_words (turn_to (schema_of bs) w.w₁ b)
  first_is = turn_is l c step₁

  both_is : both bs (words b) c d ≡ on_words (turn_to (schema_of bs) w.w₁₂ (at w.w₁))
  both_is = ap (call_on bs d) (area_of first_is) ∙ turn_is l₁ d step₁₂

  other_is : other bs (words b) c d ≡ on_words (turn_to (schema_of bs) w.w₂ b)
  other_is = turn_is l d step₂

  swapped_is : swapped bs (words b) c d ≡ on_words (turn_to (schema_of bs) w.w₂₁ (at w.w₂))
  swapped_is = ap (call_on bs c) (area_of other_is) ∙ turn_is l₂ c step₂₁

  -- ---- answers

  size₁ : length w.w₁.used ≡ length w.records₁ + length b.work.used
  size₁ = ap length w.used₁ ∙ length-append w.records₁ b.work.used

  size₂ : length w.w₂.used ≡ length w.records₂ + length b.work.used
  size₂ = ap length w.used₂ ∙ length-append w.records₂ b.work.used

  size₁₂ : length w.w₁₂.used ≡ length w.records₂ + length w.w₁.used
  size₁₂ = ap length (w.used₁₂ ∙ ap (λ l. w.records₂ ++ l) (sym w.used₁)) ∙ length-append w.records₂ w.w₁.used

  size₂₁ : length w.w₂₁.used ≡ length w.records₁ + length w.w₂.used
  size₂₁ = ap length (w.used₂₁ ∙ ap (λ l. w.records₁ ++ l) (sym w.used₂)) ∙ length-append w.records₁ w.w₂.used

  same_c : (swapped bs (words b) c d).0 ≡ (first bs (words b) c d).0
  same_c = answer_of swapped_is ∙ done_same (omega (arith, size₁, size₂₁)) w.net₁ ∙ sym (answer_of first_is)

  same_d : (other bs (words b) c d).0 ≡ (both bs (words b) c d).0
  same_d = answer_of other_is ∙ done_same (omega (arith, size₂, size₁₂)) w.net₂ ∙ sym (answer_of both_is)

  -- ---- the journal

  -- the records of one more statement
  more : {v : Work} (a : List ℤ) → Lasting (schema_of bs) (at v) → a ≡ words (at v) → (es us : List Entry) → v.used ≡ es ++ us → used_words (schema_of bs) a ≡ record_words us ++ record_words es
  more a m e es us q = ap (used_words s) e ∙ used_is (formed m) ∙ ap record_words q ∙ records_append es us

  more_size : {v : Work} → Lasting (schema_of bs) (at v) → (es : List Entry) → v.used ≡ es ++ b.work.used → length (record_words es) ≡ length es * 10
  more_size {v} m es q =
      let n : length (record_words v.used) ≡ length (record_words b.work.used) + length (record_words es) = ap length (ap record_words q ∙ records_append es b.work.used) ∙ length-append (record_words b.work.used) (record_words es) in
      let u : length v.used ≡ length es + length b.work.used = ap length q ∙ length-append es b.work.used in
      omega (arith, records_length (formed m), records_length (formed l))

  -- ---- the books after both orders differ in the order of the records

  order : Order
  order = record { old = b.work.used; one = w.records₂ ++ w.records₁; other = w.records₁ ++ w.records₂; sizes = simp length-append (omega arith) }

  used_12 : w.w₁₂.used ≡ (w.records₂ ++ w.records₁) ++ b.work.used
  used_12 = w.used₁₂ ∙ sym (append_assoc w.records₂ w.records₁ b.work.used)

  used_21 : w.w₂₁.used ≡ (w.records₁ ++ w.records₂) ++ b.work.used
  used_21 = w.used₂₁ ∙ sym (append_assoc w.records₁ w.records₂ b.work.used)

  -- both are the first book, with either order of the records
  is_12 : with_used ((w.records₂ ++ w.records₁) ++ b.work.used) (at w.w₁₂) ≡ at w.w₁₂
  is_12 = ap (λ us. with_used us (at w.w₁₂)) (sym used_12)

  is_21 : with_used ((w.records₁ ++ w.records₂) ++ b.work.used) (at w.w₁₂) ≡ at w.w₂₁
  is_21 = book_path refl (ap (counts s) (sym w.tabs_same)) refl refl (work_path (sym w.tabs_same) (sym used_21) (sym w.spare_same))

  early : all (opened_by (length b.work.used)) b.levels ≡ true
  early = opened_early _ _ b.levels (good_lasting l).uses (omega arith)

  reordering : Reordering order (at w.w₁₂) []
  unfolding order undo_all
  reordering =
      record {
        running = i;
        clear = early_clear order b.levels early;
        undone =
            undo_all_append w.records₂ w.records₁ w.w₁₂.tabs
            ∙ w.undone₁₂
            ∙ sym (ap (undo_all (w.records₁ ++ w.records₂)) (sym w.tabs_same) ∙ undo_all_append w.records₁ w.records₂ w.w₂₁.tabs ∙ w.undone₂₁);
      }

  alike : Alike order (at w.w₁₂) (at w.w₂₁)
  unfolding order
  alike = alike_path order is_12 is_21 (reordered (at w.w₁₂) [] reordering)

  -- ---- the areas, and whatever calls follow

  areas_same : SameButRecords (schema_of bs) (swapped bs (words b) c d).1 (both bs (words b) c d).1
  areas_same = rw (area_of swapped_is, area_of both_is) (areas_alike order (formed l₁₂) (formed l₂₁) alike)

  -- on the books' words
  runs_same : (cs : List (List ℤ)) → SameRuns (schema_of bs) (records_used (words b)) (run_on bs cs (words (at w.w₂₁))) (run_on bs cs (words (at w.w₁₂)))
  unfolding words nat_of order
  runs_same cs =
      let r : AlikeRuns s valid order (run s cs (at w.w₁₂)) (run s cs (at w.w₂₁)) = run_alike s valid order l₁₂ l₂₁ alike cs in
      rw (lasting_run bs acc l₁₂ cs, lasting_run bs acc l₂₁ cs)
      (record {
        answers = r.answers;
        areas = areas_alike order (formed (lasting_end valid l₁₂ cs)) (formed (lasting_end valid l₂₁ cs)) r.books;
        every_word = words_alike order r.books;
      })

  later_same : (cs : List (List ℤ)) → SameRuns (schema_of bs) (records_used (words b)) (run_on bs cs (swapped bs (words b) c d).1) (run_on bs cs (both bs (words b) c d).1)
  later_same cs = rw (area_of swapped_is, area_of both_is) (runs_same cs)

  -- ---- rollbacks

  -- an accepted rollback, by kind
  acts_same : (r : List ℤ) → Rollback r → allowed (schema_of bs) (parse r) ≡ true → accepted (act (schema_of bs) (parse r) (at w.w₁₂)).0 ≡ true → act (schema_of bs) (parse r) (at w.w₂₁) ≡ act (schema_of bs) (parse r) (at w.w₁₂)
  unfolding Mem order
  acts_same r p o = by p
    where
      back_to : (a : ℕ) → accepted (act (schema_of bs) (rollback_to a) (at w.w₁₂)).0 ≡ true → act (schema_of bs) (rollback_to a) (at w.w₂₁) ≡ act (schema_of bs) (rollback_to a) (at w.w₁₂)
      back_to a x =
          ap (act s (rollback_to a)) (sym is_21)
          ∙ sym (rollback_to_same order (at w.w₁₂) [] reordering s early a (ap (λ (e : Book). accepted (act s (rollback_to a) e).0) is_12 ∙ x))
          ∙ ap (act s (rollback_to a)) is_12

      by : Rollback r → accepted (act (schema_of bs) (parse r) (at w.w₁₂)).0 ≡ true → act (schema_of bs) (parse r) (at w.w₂₁) ≡ act (schema_of bs) (parse r) (at w.w₁₂)
      by (inl e) = rw (rollback_to_is s r o e) (back_to (nat_of (get_or r 1 𝟘)))
      by (inr (inl e)) =
          rw (rollback_is s r o e)
          (λ x. ap (act s rollback) (sym is_21) ∙ sym (rollback_same order (at w.w₁₂) [] reordering s early) ∙ ap (act s rollback) is_12)
      by (inr (inr x)) = absurd x

  rolled_same : (r : List ℤ) → Rollback r → accepted (call_on bs r (both bs (words b) c d).1).0 ≡ true → call_on bs r (swapped bs (words b) c d).1 ≡ call_on bs r (both bs (words b) c d).1
  rolled_same r p = rw (area_of swapped_is, area_of both_is) on_books
    where
      on_books : accepted (call_on bs r (words (at w.w₁₂))).0 ≡ true → call_on bs r (words (at w.w₂₁)) ≡ call_on bs r (words (at w.w₁₂))
      on_books e =
          let e' : accepted (step s r (at w.w₁₂)).0 ≡ true = ap (λ (t : AreaTurn). accepted t.0) (sym (turn_is l₁₂ r refl)) ∙ e in
          let o : allowed s (parse r) ≡ true = step_allowed (good_lasting l₁₂) r e' in
          let q : step s r (at w.w₁₂) ≡ act s (parse r) (at w.w₁₂) = step_act (good_lasting l₁₂) r o in
          turn_is l₂₁ r (step_act (good_lasting l₂₁) r o)
          ∙ ap on_words (acts_same r p o (ap (λ (t : Turn). accepted t.0) (sym q) ∙ e'))
          ∙ sym (turn_is l₁₂ r q)

  -- ---- the claim

  either_order_book : EitherOrder bs (words b) c d
  unfolding shown
  either_order_book =
      let u : used_words s (words b) ≡ record_words b.work.used = used_is (formed l) in
      let n : changed_of (first bs (words b) c d).0 ≡ length w.records₁ = ap changed_of (answer_of first_is) ∙ omega (arith, size₁) in
      let m : changed_of (both bs (words b) c d).0 ≡ length w.records₂ = ap changed_of (answer_of both_is) ∙ omega (arith, size₁₂) in
      let es : List Entry = w.records₁ in
      let fs : List Entry = w.records₂ in
      record {
        answer_c = same_c;
        answer_d = same_d;
        areas = areas_same;
        records_c = record_words es;
        records_d = record_words fs;
        size_c = more_size l₁ es w.used₁ ∙ ap (λ n. n * 10) (sym n);
        size_d = more_size l₂ fs w.used₂ ∙ ap (λ n. n * 10) (sym m);
        used_first = rw u (more _ l₁ (area_of first_is) es b.work.used w.used₁);
        used_other = rw u (more _ l₂ (area_of other_is) fs b.work.used w.used₂);
        used_both = rw u (more _ l₁₂ (area_of both_is) (fs ++ es) b.work.used used_12 ∙ ap (λ ws. record_words b.work.used ++ ws) (records_append fs es));
        used_swapped = rw u (more _ l₂₁ (area_of swapped_is) (es ++ fs) b.work.used used_21 ∙ ap (λ ws. record_words b.work.used ++ ws) (records_append es fs));
        rolled_back = rolled_same;
        later = later_same;
      }

-- ---- from the area

module _ (bs : List ℕ) (acc : check_schema bs ≡ Accepted) {b : Book} (l : Lasting (schema_of bs) b) (z : Settled (schema_of bs) b) (i : in_transaction b.levels ≡ true) (c d : List ℤ) (t u : ℕ)
    (on-t : OnTable t c) (on-u : OnTable u d) (apart : Apart (schema_of bs) t u) where
  book_either : accepted (first bs (words b) c d).0 ≡ true → accepted (both bs (words b) c d).0 ≡ true → EitherOrder bs (words b) c d
  book_either e f =
      let s : Schema = schema_of bs in
      let v : Valid s = accepted_valid bs acc in
      let g : Good s b = good_lasting l in
      let q : call_on bs c (words b) ≡ on_words (step s c b) = call_step bs acc g c in
      let l' : Lasting s (step s c b).1 = lasting_step v l c _ refl in
      let e' : accepted (step s c b).0 ≡ true = ap (λ (x : AreaTurn). accepted x.0) (sym q) ∙ e in
      let f' : accepted (step s d (step s c b).1).0 ≡ true
      = ap (λ (x : AreaTurn). accepted x.0) (sym (ap (λ (x : AreaTurn). call_on bs d x.1) q ∙ call_step bs acc (good_lasting l') d)) ∙ f in
      let h : allowed s (parse c) ≡ true = step_allowed g c e' in
      let k : allowed s (parse d) ≡ true = step_allowed (good_lasting l') d f' in
      let c_acts : step s c b ≡ act s (parse c) b = step_act g c h in
      let d_acts : step s d (step s c b).1 ≡ act s (parse d) (act s (parse c) b).1 = step_act (good_lasting l') d k ∙ ap (λ (x : Turn). act s (parse d) x.1) c_acts in
      either_order_book bs acc l i c d h k
      (swap_accepted g i z (Joined s t) (Joined s u) (family_closed s u) (λ x p r. apart (through p (turned r))) (statement_of s v (changes_rows s c h on-t) h) (statement_of s v (changes_rows s d k on-u) k)
      (ap (λ (x : Turn). accepted x.0) (sym c_acts) ∙ e') (ap (λ (x : Turn). accepted x.0) (sym d_acts) ∙ f'))

-- word 0 is the number of open levels
open_word : (b : Book) → 0 < nat_of (get_or (words b) 0 𝟘) → in_transaction b.levels ≡ true
unfolding words nat_of
open_word b h = some_open b.levels h

-- "Two yards, either order"
pub either_order : (bs : List ℕ) (area c d : List ℤ) → OneAfterOther bs area c d → EitherOrder bs area c d
either_order bs area c d h =
    let x : Start bs area = start h.reached in
    subst (λ area. accepted (first bs area c d).0 ≡ true → accepted (both bs area c d).0 ≡ true → EitherOrder bs area c d) (sym x.is)
    (book_either bs h.reached.accepted x.lasting x.settled (open_word x.book (subst (λ (ws : List ℤ). 0 < nat_of (get_or ws 0 𝟘)) x.is h.opened)) c d h.table_c h.table_d h.on_c h.on_d h.apart)
    h.accepted_c h.accepted_d
