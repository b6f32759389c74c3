-- A statement's end in an area's words, from what its functions wrote.
-- Assumes nothing.
use mathlib.Core.Path.{◌≡◌, refl, sym, ◌∙◌, ap, ap₂, subst}
use mathlib.Core.Bool.{Bool}
use mathlib.Core.List.{List}
use Prim.Native.Nat.{ℕ, ◌-◌, ◌≤◌, ◌<◌}
use native.Mathlib.Omega.{arith}
use borrow.Author.Tests.{lt-ltb}
use lib.IntN.{ℤ}
use lib.ListN.{length, get_or, take, drop, replicate, length-append}
use Rattle.schema.specs.Records.{Schema, table_of}
use Rattle.schema.specs.Fields.{schema_of}
use Rattle.schema.proofs.SchemaLaws.{accepted_valid}
use Rattle.rules.specs.declared.Refusal.{Refusal}
use Rattle.rules.specs.Refusals.{Verdict, Answer, did}
use Rattle.std.specs.Prelude.{Ok, Err}
use Rattle.rules.specs.Lists.{𝟘, sum, less, plus}
use Rattle.rules.specs.Values.{nat_of}
use Rattle.rules.specs.Rows.{Row}
use Rattle.rules.specs.Keys.{counts}
use Rattle.rules.specs.Book.{Work, Book, cleared}
use Rattle.rules.specs.Calls.{in_table}
use Rattle.rules.specs.Change.{Result, go, change}
use Rattle.rules.specs.State.{in_transaction}
use Rattle.rules.specs.Statement.{Turn, after_statement, statement}
use Rattle.rules.specs.Area.{words, view, on_words}
use Rattle.bridge.specs.Fit.{work_of, Keeps, Holds}
use Rattle.bridge.specs.Ready.{Ready, Sound, Undoable, result_of}
use Rattle.bridge.proofs.RowWords.{formed_fit, use_is}
use Rattle.bridge.proofs.Undo.{Undoes, Fine, fine_change, fine_found}
use Rattle.bridge.proofs.ClearWords.{work_in, undoes_in, placed_all}
use Rattle.bridge.proofs.SoundLaws.{undoable}
use Rattle.bridge.proofs.HoldLaws.{turn_words}
use Rattle.bridge.proofs.LevelWords.{kept_at}
use Rattle.area.specs.Undone.{Undone}
use Rattle.area.specs.Spare.{Spare}
use Rattle.area.proofs.SpareLaws.{spare_changed}
use Rattle.area.proofs.Refused.{refused_words}
use Rattle.moves.specs.Tally.{Follows}
use Rattle.sums.proofs.KeptSmall.{kept_bound}
use Rattle.settlement.specs.Settled.{settle_verdict, settled}
use Rattle.found.specs.declared.Cell.{Cell}
use Rattle.found.specs.declared.Given.{Given}
use Rattle.found.specs.Sought.{found_changes}
use Rattle.statements.specs.Ended.{concluded, Ending, Ended}
use Rattle.statements.proofs.StatementLaws.{after_work, statement_done, statement_unsettled, statement_refused}
use Rattle.statements.proofs.TallyEnds.{movement_is, movement_small}

pub undoable_same : {b : List ℕ} {n : ℕ} {a a' tally : List ℤ} {clean : Bool} → Ending b a tally n → Spare clean (schema_of b) a → a' ≡ a → Undoable b a' × ((n ≤ length (work_of (schema_of b) a').used) × Spare clean (schema_of b) a')
undoable_same {b} {n} {clean = clean} h z e = subst (λ l. Undoable b l × ((n ≤ length (work_of (schema_of b) l).used) × Spare clean (schema_of b) l)) (sym e) (h.undoable, (h.begun, z))

module _ (s : Schema) (n : ℕ) (tally a : List ℤ) {v : Verdict} where
  pub ended_fail : (c : Refusal) (a₁ a₂ : List ℤ) → Err c ≡ v → a₁ ≡ a → Undone s n a₁ a₂ → Ended s v n tally (Err c) a a₂
  unfolding Ended
  ended_fail c a₁ a₂ v e u = subst (λ o. Ended s o n tally (Err c) a a₂) v (refl, subst (λ l. Undone s n l a₂) e u)

  pub ended_pass : (m : ℕ) (net : ℤ) (a' : List ℤ) → Ok tt ≡ v → m ≡ length (work_of s a).used - n → net ≡ sum tally → Holds s a' (after_statement (work_of s a) (plus (view s a).kept tally) (view s a))
      → Ended s v n tally (did m net) a a'
  unfolding Ended
  ended_pass m net a' v e d h = subst (λ o. Ended s o n tally (did m net) a a') v (ap₂ did e d, h)

-- ---- the whole statement

-- the work that a row change left is undone by its records
work_in_lem : (o : Verdict) (w : Work) → work_in (result_of o w) ≡ w
unfolding work_in result_of
work_in_lem (Ok tt) w = refl
work_in_lem (Err c) w = refl

-- kept numbers and levels are those of the entry
module _ {s : Schema} {a a₁ : List ℤ} (k : Keeps s a a₁) where
  kept_same : take 32 (drop 4 a₁) ≡ take 32 (drop 4 a)
  kept_same = sym (kept_at s a₁) ∙ ap (λ (b : Book). b.kept) k.rest ∙ kept_at s a

  settled_same : (tally : List ℤ) → settled s tally a₁ ≡ settled s tally a
  settled_same tally = ap (λ (b : Book). settle_verdict s (in_transaction b.levels) (plus b.kept tally)) k.rest

  after_same : (tally : List ℤ) → after_statement (work_of s a₁) (plus (view s a₁).kept tally) (view s a₁) ≡ after_statement (work_of s a₁) (plus (view s a).kept tally) (view s a)
  after_same tally =
      ap (λ (b : Book). after_statement (work_of s a₁) (plus b.kept tally) b) k.rest ∙ after_work (view s a) (plus (view s a).kept tally) (work_of s a₁) (work_of s a₁)

-- a row change in its table, from a sound area
pub change_fine : (b : List ℕ) {a : List ℤ} → Sound b a → (t r : ℕ) (image : Row) → r < (table_of (schema_of b) t).rows → Fine (schema_of b) (work_of (schema_of b) a) (change 16 (schema_of b) t r image (work_of (schema_of b) a))
unfolding in_table work_of
change_fine b {a} h t r image row =
    fine_change (accepted_valid b h.ready.accepted) 16 t r image (lt-ltb r (table_of (schema_of b) t).rows row) (work_of (schema_of b) a) (formed_fit h.ready.fit).shaped

-- every row that is found
pub found_fine : (b : List ℕ) {a : List ℤ} → Sound b a → (t : ℕ) (sought : Cell) (given : Given) → Fine (schema_of b) (work_of (schema_of b) a) (found_changes (schema_of b) t sought given (work_of (schema_of b) a))
unfolding found_changes work_of
found_fine b {a} h t sought given = fine_found (accepted_valid b h.ready.accepted) t _ _ (work_of (schema_of b) a) (formed_fit h.ready.fit).shaped

-- from a sound area a, the statement's row changes are made: a₁ and the tally are what they left, n is the use at the entry
module _ (b : List ℕ) {a : List ℤ} (h : Sound b a) (body : Work → Result) (fine : Fine (schema_of b) (work_of (schema_of b) a) (body (work_of (schema_of b) a))) (o : Verdict) {tally a₁ : List ℤ}
    (e : (result_of o (work_of (schema_of b) a₁) ≡ body (work_of (schema_of b) a)) × Follows (schema_of b) (replicate 32 𝟘) a tally a₁)
    {n : ℕ} (en : n ≡ nat_of (get_or a 2 𝟘)) where
  abbrev s : Schema
  s = schema_of b

  undoes : Undoes (schema_of b) (work_of (schema_of b) a) (work_of (schema_of b) a₁)
  undoes = subst (Undoes s (work_of s a)) (ap work_in (sym e.0) ∙ work_in_lem o (work_of s a₁)) (undoes_in fine)

  use_at : n ≡ length (work_of (schema_of b) a).used
  use_at = en ∙ sym (use_is h.ready.fit)

  changed_ready : Ready b a₁
  changed_ready = record { accepted = h.ready.accepted; fit = e.1.keeps.fit }

  can_undo : Undoable b a₁
  can_undo = record { ready = changed_ready; places = placed_all h.ready.fit e.1.keeps undoes (undoable h).places }

  begun_at : n ≤ length (work_of (schema_of b) a₁).used
  begun_at = rw undoes.used_is (simp length-append (omega (arith, use_at)))

  ending : Ending b a₁ tally n
  ending =
      record {
        settling = record {
          ready = changed_ready;
          kept_small = rw (kept_same e.1.keeps) (kept_bound b h);
          tally_small = movement_small (accepted_valid b h.ready.accepted) h.ready.fit e.1;
        };
        undoable = can_undo;
        begun = begun_at;
      }

  -- what is required to end the statement
  pub changed_ending : {clean : Bool} → Spare clean (schema_of b) a → Ending b a₁ tally n × Spare clean (schema_of b) a₁
  changed_ending z = (ending, spare_changed s a a₁ z undoes)

  cleared_words : {a₂ : List ℤ} → Undone (schema_of b) n a₁ a₂ → a₂ ≡ words (cleared (view (schema_of b) a))
  cleared_words {a₂} u = refused_words h.ready.fit e.1.keeps undoes (subst (λ m. Undone s m a₁ a₂) use_at u)

  -- a turn that is refused, put back
  refused_turn : {a₂ : List ℤ} (c : Refusal) → Undone (schema_of b) n a₁ a₂ → {x : Turn} → x ≡ (Err c, cleared (view (schema_of b) a)) → (Err c, a₂) ≡ on_words x
  refused_turn c u q = ap {B = Answer × List ℤ} (λ l. (Err c, l)) (cleared_words u) ∙ sym (ap on_words q)

  -- refused by a row change
  refused_is : (c : Refusal) → o ≡ Err c → (x : Answer) (a₂ : List ℤ) → Ended (schema_of b) (Err c) n tally x a₁ a₂ → (x, a₂) ≡ on_words (statement (schema_of b) body (view (schema_of b) a))
  unfolding result_of work_of Ended
  refused_is c q x a₂ (d, u) =
      ap {B = Answer × List ℤ} (λ y. (y, a₂)) d ∙ refused_turn c u (statement_refused s c (work_of s a₁) (view s a) body (ap (λ o. result_of o (work_of s a₁)) (sym q) ∙ e.0))

  -- all row changes made
  settled_is : o ≡ Ok tt → (x : Answer) (a₂ : List ℤ) → Ended (schema_of b) (settled (schema_of b) tally a₁) n tally x a₁ a₂ → (x, a₂) ≡ on_words (statement (schema_of b) body (view (schema_of b) a))
  unfolding result_of work_of Ended
  settled_is q x a₂ k = by (settled s tally a) refl (subst (λ v. Ended s v n tally x a₁ a₂) (settled_same e.1.keeps tally) k)
    where
      goes : go (work_of s a₁) ≡ body (view s a).work
      goes = ap (λ o. result_of o (work_of s a₁)) (sym q) ∙ e.0

      move : tally ≡ less (counts s (work_of s a₁).tabs) (counts s (view s a).work.tabs)
      move = movement_is (accepted_valid b h.ready.accepted) h.ready.fit e.1

      by : (v : Verdict) → settled s tally a ≡ v → Ended s v n tally x a₁ a₂ → (x, a₂) ≡ on_words (statement s body (view s a))
      by (Ok tt) w (d, k) =
          ap {B = Answer × List ℤ} (λ y. (y, a₂)) (d ∙ ap (λ m. did (length (work_of s a₁).used - m) (sum tally)) use_at)
          ∙ turn_words (record { fit = k.fit; is = k.is ∙ after_same e.1.keeps tally }) (statement_done s (work_of s a₁) tally (view s a) body goes move w)
      by (Err c) w (d, u) =
          ap {B = Answer × List ℤ} (λ y. (y, a₂)) d ∙ refused_turn c u (statement_unsettled s (work_of s a₁) tally (view s a) body goes move c w)

  pub statement_ended : (x : Answer) (a₂ : List ℤ) → Ended (schema_of b) (concluded o (settled (schema_of b) tally a₁)) n tally x a₁ a₂ → (x, a₂) ≡ on_words (statement (schema_of b) body (view (schema_of b) a))
  unfolding concluded
  statement_ended x a₂ k = by o refl k
    where
      by : (o' : Verdict) → o ≡ o' → Ended s (concluded o' (settled s tally a₁)) n tally x a₁ a₂ → (x, a₂) ≡ on_words (statement s body (view s a))
      by (Ok tt) q k = settled_is q x a₂ k
      by (Err c) q k = refused_is c q x a₂ k
