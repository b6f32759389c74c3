-- What is left when refused calls and what rollbacks undid are struck out has the same answers, and ends in the same book.
-- Assumes nothing.
use mathlib.Core.Path.{◌≡◌, refl, sym, ◌∙◌, ap, subst}
use mathlib.Core.Bool.{Bool, true, false}
use mathlib.Core.List.{List, [], ◌∷◌, ◌++◌, map-append}
use Prim.Native.Nat.{ℕ, zero, suc, pred, ◌+◌, ◌-◌, ◌≤◌, ◌<◌}
use native.Mathlib.Omega.{arith}
use native.Mathlib.Nat.{zero-add, add-zero}
use lib.Dec.{leb, le→leb}
use lib.IntN.{ℤ}
use lib.ListN.{length, drop, take, get_or, length-append, length-drop}
use lib.Seq.{take-append-le, take-take, take-length, take-append_seam, get_or-drop, length-take-le}
use Rattle.bridge.proofs.Tests.{passes}
use Rattle.bridge.proofs.Undo.{Undoes}
use Rattle.laws.proofs.Back.{Good, moved, some_open, length_zero, open_some, back_moved, abort_moved, back_push_top, back_push, abort_push, abort_push_first, back_close, abort_close, back_back, abort_back, levels_back}
use Rattle.laws.proofs.Good.{good_moved, good_push, good_close, good_ended, good_undamaged}
use Rattle.laws.proofs.Outcome.{Outcome, refusal, moving, alone, opening, closing, ending, backing, aborting, outcome}
use Rattle.rules.specs.Book.{Work, Book, close, back, ended, abort, push}
use Rattle.rules.specs.Calls.{Call, release, commit, formed_if, parsed, parse, level_number, allowed}
use Rattle.rules.specs.Keys.{counts}
use Rattle.rules.specs.Lists.{𝟘}
use Rattle.rules.specs.Refusals.{Answer, accepted, did}
use Rattle.rules.specs.State.{in_transaction, kept_in_range, level_open}
use Rattle.rules.specs.Statement.{Turn, check}
use Rattle.rules.specs.Step.{committed, released, act, step, run_all, run, Logged}
use Rattle.rules.specs.Strike.{Struck, joined, place, mark, marks, strike, calls_of, commit_words, release_words}
use Rattle.rules.specs.Values.{all_zero, natural, nat_of, same_word}
use Rattle.schema.specs.Ranges.{all}
use Rattle.rules.specs.declared.Refusal.TheVariants.{CommitWithOrphans}
use Rattle.schema.proofs.SchemaLaws.{Valid}
use Rattle.schema.specs.Records.{Schema}

module _ {A : Type 0} (turn : List ℤ → A → Answer × A) where
  -- calls, and then others
  pub run_append : (cs ds : List (List ℤ)) (a : A) → run_all turn (cs ++ ds) a ≡ ((run_all turn cs a).0 ++ (run_all turn ds (run_all turn cs a).1).0, (run_all turn ds (run_all turn cs a).1).1)
  unfolding run_all
  run_append [] ds a = refl
  run_append (c ∷ cs) ds a = ap {B = List Logged × A} (λ r. ((c, (turn c a).0) ∷ r.0, r.1)) (run_append cs ds (turn c a).1)

  -- one call more
  pub run_snoc : (cs : List (List ℤ)) (c : List ℤ) (a : A) → run_all turn (cs ++ (c ∷ [])) a ≡ ((run_all turn cs a).0 ++ ((c, (turn c (run_all turn cs a).1).0) ∷ []), (turn c (run_all turn cs a).1).1)
  unfolding run_all
  run_snoc cs c a = run_append cs (c ∷ []) a

-- the line's calls, run from the start, get the line's answers and lead to the book
pub record Reach (s : Schema) (start : Book) (line : List Logged) (b : Book) : Type 0 where
  pub runs : run s (calls_of line) start ≡ (line, b)
  pub good : Good s b

reach_join : {s : Schema} {start : Book} {line : List Logged} {b : Book} → Reach s start line b → (c : List ℤ) (a : Answer) (b' : Book) → step s c b ≡ (a, b') → Good s b' → Reach s start (joined (c, a) line) b'
unfolding calls_of
reach_join {s} {start} {line} {b} r c a b' e g =
    record {
      runs =
          ap (λ cs. run s cs start) (map-append (λ (x : Logged). x.0) line ((c, a) ∷ []))
          ∙ run_snoc (step s) (calls_of line) c start
          ∙ ap {B = List Logged × Book} (λ q. (q.0 ++ ((c, (step s c q.1).0) ∷ []), (step s c q.1).1)) r.runs
          ∙ ap {B = List Logged × Book} (λ t. (line ++ ((c, t.0) ∷ []), t.1)) e;
      good = g;
    }

abbrev Desc : ℕ → List ℕ → Type 0
Desc n [] = Unit {0}
Desc n (m ∷ ms) = (m ≤ n) × Desc m ms

desc_raise : (n n' : ℕ) (ms : List ℕ) → n ≤ n' → Desc n ms → Desc n' ms
desc_raise n n' [] h d = tt
desc_raise n n' (m ∷ ms) h d = (omega (arith, d.0), d.1)

desc_get : (n : ℕ) (ms : List ℕ) (i : ℕ) → Desc n ms → i < length ms → get_or ms i 0 ≤ n
desc_get n [] i d h = absurd (omega arith)
desc_get n (m ∷ ms) zero d h = d.0
desc_get n (m ∷ ms) (suc i) d h = omega (arith, d.0, desc_get m ms i d.1 (omega arith))

desc_drop : (n : ℕ) (ms : List ℕ) (j : ℕ) → Desc n ms → Desc n (drop j ms)
desc_drop n [] zero d = tt
desc_drop n [] (suc j) d = tt
desc_drop n (m ∷ ms) zero d = d
desc_drop n (m ∷ ms) (suc j) d = desc_raise m n (drop j ms) d.0 (desc_drop m ms j d.1)

desc_from : (n : ℕ) (ms : List ℕ) (j : ℕ) → Desc n ms → j < length ms → Desc (get_or ms j 0) (drop j ms)
desc_from n [] j d h = absurd (omega arith)
desc_from n (m ∷ ms) zero d h = (omega arith, d.1)
desc_from n (m ∷ ms) (suc j) d h = desc_from m ms j d.1 (omega arith)

-- the line leads to the book; cut to a mark, it leads to where a rollback to the mark's level leads;
-- cut to before the opening call, it leads to where a rollback leads
pub record Inv (s : Schema) (start : Book) (b : Book) (line : List Logged) (pile : List ℕ) : Type 0 where
  pub now : Reach s start line b
  pub height : length pile ≡ length b.levels
  pub falling : Desc (length line) pile
  pub marked : (i : ℕ) → i < length pile → Reach s start (take (get_or pile i 0) line) (back i b)
  pub started : 0 < length pile → Reach s start (take (pred (get_or pile (pred (length pile)) 0)) line) (abort b)

-- the newest j marks go
keep : {s : Schema} {start : Book} {b b' : Book} {line line' : List Logged} {pile : List ℕ} (j : ℕ) → Inv s start b line pile → Reach s start line' b' → length (drop j pile) ≡ length b'.levels
    → Desc (length line') (drop j pile) → ((i m : ℕ) → j + i < length pile → m ≤ get_or pile (j + i) 0 → take m line' ≡ take m line)
    → ((i : ℕ) → j + i < length pile → back i b' ≡ back (j + i) b) → (j < length pile → abort b' ≡ abort b) → Inv s start b' line' (drop j pile)
keep {s} {start} {b} {b'} {line} {line'} {pile} j v r height d cut same_word first =
    record {
      now = r;
      height = height;
      falling = d;
      marked = λ i h.
          let l : j + i < length pile = omega (arith, length-drop j pile) in
          let e : take (get_or pile (j + i) 0) line' ≡ take (get_or pile (j + i) 0) line = cut i (get_or pile (j + i) 0) l (omega arith) in
          rw (get_or-drop, e, same_word i l) (v.marked (j + i) l);
      started = λ h.
          let l : j < length pile = omega (arith, length-drop j pile) in
          let p : j + pred (length (drop j pile)) ≡ pred (length pile) = omega (arith, length-drop j pile) in
          let m : ℕ = get_or pile (pred (length pile)) 0 in
          let q : get_or pile (j + pred (length (drop j pile))) 0 ≡ m = ap (λ n. get_or pile n 0) p in
          let e : take (pred m) line' ≡ take (pred m) line = cut (pred (length (drop j pile))) (pred m) (omega arith) (omega arith) in
          rw (get_or-drop, p, e, first l) (v.started (omega arith));
    }

-- a call joins the line, and the newest j marks go
keep_joined : {s : Schema} {start : Book} {b b' : Book} {line : List Logged} {pile : List ℕ} (x : Logged) (j : ℕ) → Inv s start b line pile → Reach s start (joined x line) b' → length (drop j pile) ≡ length b'.levels
    → ((i : ℕ) → j + i < length pile → back i b' ≡ back (j + i) b) → (j < length pile → abort b' ≡ abort b) → Inv s start b' (joined x line) (drop j pile)
keep_joined {line = line} {pile = pile} x j v r height same_word first =
    keep j v r height
    (desc_raise (length line) (length (joined x line)) (drop j pile) (simp length-append (omega arith)) (desc_drop (length line) pile j v.falling))
    (λ i m h le. take-append-le m line (x ∷ []) (omega (arith, desc_get (length line) pile (j + i) v.falling h)))
    same_word first

-- no marks
none : {s : Schema} {start : Book} {b : Book} {line : List Logged} → Reach s start line b → b.levels ≡ [] → Inv s start b line []
none r e = record { now = r; height = ap length (sym e); falling = tt; marked = λ i h. absurd (omega arith); started = λ h. absurd (omega arith) }

keep_push : {s : Schema} {start : Book} {b : Book} {line : List Logged} {pile : List ℕ} (x : Logged) (o : ℕ) (y : List ℤ) (closed : List (List ℤ)) → Inv s start b line pile → Reach s start (joined x line) (push o closed b)
    → b.closed ≡ y ∷ closed → (in_transaction b.levels ≡ true → o ≡ b.opener) → Inv s start (push o closed b) (joined x line) (length (joined x line) ∷ pile)
unfolding push in_transaction
keep_push {s} {start} {b} {line} {pile} x o y closed v r e f =
    record {
      now = r;
      height = ap suc v.height;
      falling = (omega arith, desc_raise (length line) (length (joined x line)) pile (simp length-append (omega arith)) v.falling);
      marked = at;
      started = λ h. first pile refl;
    }
  where
    g : Good s b
    g = v.now.good

    at : (i : ℕ) → i < suc (length pile) → Reach s start (take (get_or (length (joined x line) ∷ pile) i 0) (joined x line)) (back i (push o closed b))
    at zero h = rw (take-length (joined x line), back_push_top g o closed) r
    at (suc i) h =
        let l : i < length pile = omega arith in
        rw (take-append-le (get_or pile i 0) line (x ∷ []) (desc_get (length line) pile i v.falling l), back_push g o y closed e f i (omega (arith, v.height))) (v.marked i l)

    first : (p : List ℕ) → pile ≡ p → Reach s start (take (pred (get_or (length (joined x line) ∷ p) (length p) 0)) (joined x line)) (abort (push o closed b))
    first [] h =
        let n : pred (length (joined x line)) ≡ length line = simp length-append (omega arith) in
        let o' : in_transaction b.levels ≡ false = ap in_transaction (length_zero b.levels (sym v.height ∙ ap length h)) in
        rw (n, take-append_seam line (x ∷ []), abort_push_first g o y closed e o') v.now
    first (m ∷ ms) h =
        let l : 0 < length pile = rw h (omega arith) in
        let le : get_or (m ∷ ms) (length ms) 0 ≤ length line = desc_get (length line) (m ∷ ms) (length ms) (subst (Desc (length line)) h v.falling) (omega arith) in
        let c : take (pred (get_or (m ∷ ms) (length ms) 0)) (joined x line) ≡ take (pred (get_or (m ∷ ms) (length ms) 0)) line = take-append-le (pred (get_or (m ∷ ms) (length ms) 0)) line (x ∷ []) (omega arith) in
        rw (c, abort_push g o y closed e (some_open b.levels {k = 0} (omega (arith, v.height))))
        (subst (λ p. Reach s start (take (pred (get_or p (pred (length p)) 0)) line) (abort b)) h (v.started l))

-- the accepted calls, by what they come to
module _ {s : Schema} {start : Book} {b : Book} {line : List Logged} {pile : List ℕ} (v : Inv s start b line pile) where
  good : Good s b
  good = v.now.good

  module _ (c : List ℤ) (a : Answer) where
    reach : {b' : Book} → step s c b ≡ (a, b') → Good s b' → Reach s start (joined (c, a) line) b'
    reach {b'} e g = reach_join v.now c a b' e g

    keep_moved : (w : Work) → Undoes s b.work w → in_transaction b.levels ≡ true → kept_in_range s s.keys (counts s w.tabs) ≡ true → step s c b ≡ (a, moved (counts s w.tabs) w b) → Inv s start (moved (counts s w.tabs) w b) (joined (c, a) line) pile
    keep_moved w u i f e =
        keep_joined (c, a) 0 v (reach e (good_moved good w u i f)) v.height
        (λ n h. rw zero-add (back_moved good (counts s w.tabs) w u n (omega (arith, v.height))))
        (λ h. abort_moved good (counts s w.tabs) w u i)

    keep_closed : (j : ℕ) → j < length b.levels → step s c b ≡ (a, close j b) → Inv s start (close j b) (joined (c, a) line) (drop j pile)
    unfolding close
    keep_closed j h e =
        keep_joined (c, a) j v (reach e (good_close good j h))
        (length-drop j pile ∙ ap (λ n. n - j) v.height ∙ sym (length-drop j b.levels))
        (λ i l. back_close good j i (omega (arith, v.height)))
        (λ l. abort_close good j h)

  -- rollback to a level: the newest j marks go, and the line is cut to the newest mark left
  keep_back : (j : ℕ) → j < length b.levels → Inv s start (back j b) (take (get_or pile j 0) line) (drop j pile)
  keep_back j h =
      let l : j < length pile = omega (arith, v.height) in
      let m : ℕ = get_or pile j 0 in
      let le : m ≤ length line = desc_get (length line) pile j v.falling l in
      keep j v (v.marked j l)
      (length-drop j pile ∙ ap (λ n. n - j) v.height ∙ sym (length-drop j b.levels) ∙ ap length (sym (levels_back good j h)))
      (subst (λ n. Desc n (drop j pile)) (sym (length-take-le m line le)) (desc_from (length line) pile j v.falling l))
      (λ i n l' le'. take-take n m line (omega (arith, rw get_or-drop at (desc_get m (drop j pile) i (desc_from (length line) pile j v.falling l) (omega (arith, length-drop j pile))))))
      (λ i l'. back_back good j i (omega (arith, v.height)))
      (λ l'. abort_back good j h)

levels_ended : (b : Book) → (ended b.kept b.work b).levels ≡ []
unfolding ended
levels_ended b = refl

levels_abort : (b : Book) → (abort b).levels ≡ []
unfolding abort ended
levels_abort b = refl

-- one call
pub keep_call : {s : Schema} {start : Book} → Valid s → {b : Book} {line : List Logged} {pile : List ℕ} → Inv s start b line pile → (c : List ℤ) {call : Call} {t : Turn} → Outcome s b call t → step s c b ≡ t
    → let k : Struck = mark call c t.0 (record { line = line; pile = pile }) in Inv s start t.1 k.line k.pile
unfolding mark place
keep_call {s} {start} valid {b} {line} {pile} v c (refusal h q) e = subst (λ b'. Inv s start b' line pile) (sym q) v
keep_call {s} {start} valid {b} {line} {pile} v c (moving {n = n} {d = d} w p i f u q) e =
    rw (p (c, did n d) (record { line = line; pile = pile }), q) (keep_moved v c (did n d) w u i f (e ∙ ap (λ b'. (did n d, b')) q))
keep_call {s} {start} valid {b} {line} {pile} v c (alone {n = n} {d = d} {b' = b'} p i i' g) e =
    rw (p (c, did n d) (record { line = line; pile = pile }), length_zero pile (v.height ∙ ap length i)) (none (reach v c (did n d) e g) i')
keep_call {s} {start} valid {b} {line} {pile} v c (opening {n = n} {d = d} o x closed p sh f t q) e =
    rw (p (c, did n d) (record { line = line; pile = pile }), q)
    (keep_push (c, did n d) o x closed v (reach v c (did n d) (e ∙ ap (λ b'. (did n d, b')) q) (good_push v.now.good o x closed sh t valid.few)) sh f)
keep_call {s} {start} valid {b} {line} {pile} v c (closing {n = n} {d = d} a h h' q) e =
    let j : ℕ = suc (length b.levels) - a in
    rw (q, v.height) (keep_closed v c (did n d) j (omega arith) (e ∙ ap (λ b'. (did n d, b')) q))
keep_call {s} {start} valid {b} {line} {pile} v c (ending {n = n} {d = d} p q) e =
    rw (p (c, did n d) (record { line = line; pile = pile }) v.height, q) (none (reach v c (did n d) (e ∙ ap (λ b'. (did n d, b')) q) (good_ended v.now.good)) (levels_ended b))
keep_call {s} {start} valid {b} {line} {pile} v c (backing a h h' q) e =
    let j : ℕ = length b.levels - a in
    rw (q, v.height, get_or-drop, add-zero) (keep_back v j (omega arith))
keep_call {s} {start} valid {b} {line} {pile} v c (aborting i q) e =
    rw q (none (v.started (omega (arith, v.height, open_some b.levels i))) (levels_abort b))

keep_all : {s : Schema} {start : Book} → Valid s → {b : Book} {line : List Logged} {pile : List ℕ} → Inv s start b line pile → (cs : List (List ℤ))
    → let r : List Logged × Book = run s cs b in let k : Struck = marks r.0 (record { line = line; pile = pile }) in Inv s start r.1 k.line k.pile
unfolding run_all marks
keep_all valid v [] = v
keep_all {s} {start} valid {b} v (c ∷ cs) = keep_all valid {b = (step s c b).1} (keep_call valid v c (outcome valid v.now.good c) refl) cs

module _ {s : Schema} {start : Book} (valid : Valid s) (good : Good s start) (none_open : start.levels ≡ []) where
  pub empty : Inv s start start [] []
  unfolding calls_of run_all
  empty = none (record { runs = refl; good = good }) none_open

  pub invariant : (cs : List (List ℤ)) → Inv s start (run s cs start).1 (strike (run s cs start).0).line (strike (run s cs start).0).pile
  unfolding strike
  invariant cs = keep_all valid empty cs

parse_commit : parse commit_words ≡ commit
unfolding parse parsed formed_if natural nat_of all_zero all same_word
parse_commit = refl

parse_release : parse release_words ≡ release 1
unfolding parse parsed formed_if natural nat_of all_zero all same_word
parse_release = refl

-- a commit sent to a good book with a transaction open
module _ {s : Schema} {b : Book} (g : Good s b) (i : in_transaction b.levels ≡ true) where
  settles : accepted (committed b).0 ≡ all_zero (counts s b.work.tabs)
  unfolding committed check accepted
  settles = rw (← g.counted) (by (all_zero b.kept))
    where
      by : (t : Bool) → accepted (check t CommitWithOrphans (λ b. (did 0 𝟘, ended b.kept b.work b)) b).0 ≡ t
      by true = refl
      by false = refl

  first_open : b.opener ≡ 2 → level_open b 1 ≡ true
  unfolding level_open
  first_open e = rw (e, passes (leb 1 (length b.levels)) (le→leb 1 (length b.levels) (open_some b.levels i))) refl

  act_commits : accepted (act s commit b).0 ≡ all_zero (counts s b.work.tabs)
  unfolding act check
  act_commits = rw i settles

  act_releases : b.opener ≡ 2 → accepted (act s (release 1) b).0 ≡ all_zero (counts s b.work.tabs)
  unfolding act check released
  act_releases e = rw (first_open e) settles

  pub commit_judged : accepted (step s commit_words b).0 ≡ all_zero (counts s b.work.tabs)
  unfolding step check allowed
  commit_judged = rw (parse_commit, good_undamaged g) act_commits

  pub release_judged : b.opener ≡ 2 → accepted (step s release_words b).0 ≡ all_zero (counts s b.work.tabs)
  unfolding step check allowed level_number
  release_judged e = rw (parse_release, good_undamaged g) (act_releases e)
