-- Row changes that lower the sum by at least as many as they write: deletions, and all that follows them.
-- Assumes nothing.
use mathlib.Core.Path.{◌≡◌, refl, sym, ap, ◌∙◌, subst}
use mathlib.Core.Bool.{Bool, true, false}
use mathlib.Core.List.{List, [], ◌∷◌}
use mathlib.Core.Logic.{inl, inr, ◌≢◌}
use Prim.Native.Nat.{ℕ, zero, suc, ◌+◌, ◌<◌, ◌≤◌}
use native.Mathlib.Omega.{arith}
use borrow.Author.Tests.{eqb-true}
use lib.Dec.{eqb}
use lib.ListN.{length, length-drop}
use Rattle.schema.specs.declared.Action.{Action}
use Rattle.schema.specs.declared.Action.TheVariants.{NoAction, Restrict, SetNull, SetDefault, Cascade}
use Rattle.schema.specs.Records.{ForeignKey, Schema, table_of}
use Rattle.schema.specs.ParentKey.{Mem}
use Rattle.schema.proofs.RangeLaws.{and_left, and_right}
use Rattle.rules.specs.declared.Refusal.{Refusal}
use Rattle.rules.specs.declared.Refusal.TheVariants.{JournalFull, TooDeep, BrokenKey, NotNull, NotUnique, BadWindow, Restricted}
use Rattle.std.specs.Prelude.{Ok, Err}
use Rattle.rules.specs.Lists.{up_from}
use Rattle.rules.specs.Values.{nat_of}
use Rattle.rules.specs.Refusals.{Verdict, number, failing}
use Rattle.rules.specs.Rows.{Row, row_at, image, overwrite, deleted_image, live, live_state}
use Rattle.rules.specs.Keys.{maps_to, takes, fires}
use Rattle.rules.specs.Book.{Work, write}
use Rattle.rules.specs.Change.{Result, go, stop, then, given, in_turn, Change, admits, admitted, child_image, cascaded, action_of, taken, row_turn, children, key_turn, actions, change}
use Rattle.rules.specs.Found.{found_turn, rows_found}
use Rattle.rules.specs.DeleteBound.{row_bound, delete_bound, bounded}
use Rattle.bridge.proofs.Undo.{spared}
use Rattle.bridge.proofs.RowImages.{live_long, deleted_vacant}
use Rattle.delete_laws.proofs.KeyShapes.{Shapes, no_default}
use Rattle.delete_laws.proofs.BoundLaws.{vacant_part, live_some, bound_put, bound_some}
use Rattle.delete_laws.proofs.ClearedRow.{padded_long, never_fires, counts_less}

-- from w to v records were written, and the sum fell by at least as many
pub record Falls (s : Schema) (w v : Work) : Type 0 where
  pub written : ℕ
  pub used_is : length v.used ≡ written + length w.used
  pub spare_is : length w.spare ≡ written + length v.spare
  pub sum_is : written + delete_bound s v.tabs ≤ delete_bound s w.tabs

-- how such row changes end: where they stop by 15, fewer records were free than the sum
pub data Ends (s : Schema) (w : Work) : Result → Type 0 where
  went : {v : Work} → Falls s w v → Ends s w (go v)
  stopped : {c : Refusal} {v : Work} → Falls s w v → (c ≡ JournalFull → length w.spare < delete_bound s w.tabs) → Ends s w (stop c v)

-- a refusal that is not 15, by its number
pub other_number : (c : Refusal) → number c ≢ 15 → c ≢ JournalFull
unfolding number
other_number c n e = n (ap number e)

module _ {s : Schema} where
  falls_none : (w : Work) → Falls s w w
  falls_none w = record { written = 0; used_is = omega arith; spare_is = omega arith; sum_is = omega arith }

  falls_then : {w v u : Work} → Falls s w v → Falls s v u → Falls s w u
  falls_then p q =
      record {
        written = q.written + p.written;
        used_is = omega (arith, p.used_is, q.used_is);
        spare_is = omega (arith, p.spare_is, q.spare_is);
        sum_is = omega (arith, p.sum_is, q.sum_is);
      }

  ends_after : {w v : Work} {x : Result} → Falls s w v → Ends s v x → Ends s w x
  ends_after p (went q) = went (falls_then p q)
  ends_after p (stopped {c = c} q h) = stopped (falls_then p q) (λ (e : c ≡ JournalFull). omega (arith, h e, p.spare_is, p.sum_is))

  -- ---- the ways in which row changes are put together

  ends_go : (w : Work) → Ends s w (go w)
  ends_go w = went (falls_none w)

  ends_stop : (c : Refusal) (w : Work) → number c ≢ 15 → Ends s w (stop c w)
  ends_stop c w n = stopped (falls_none w) (λ e. absurd (other_number c n e))

  ends_then : {w : Work} {x : Result} {k : Work → Result} → Ends s w x → ((v : Work) → Ends s v (k v)) → Ends s w (then x k)
  unfolding then
  ends_then (went {v} p) q = ends_after p (q v)
  ends_then (stopped p h) q = stopped p h

  ends_given : {w : Work} (b : Bool) (k : Work → Result) → (b ≡ true → Ends s w (k w)) → Ends s w (given b k w)
  unfolding given
  ends_given true k p = p refl
  ends_given {w} false k p = ends_go w

  ends_in_turn : (turn : ℕ → Work → Result) → ((i : ℕ) (w : Work) → Ends s w (turn i w)) → (is : List ℕ) (w : Work) → Ends s w (in_turn turn is w)
  unfolding in_turn
  ends_in_turn turn each [] w = ends_go w
  ends_in_turn turn each (i ∷ is) w = ends_then (each i w) (ends_in_turn turn each is)

-- ---- one write

verdict_number : Verdict → ℕ
verdict_number (Ok tt) = 0
verdict_number (Err c) = number c

-- a check that does not refuse by 15, before others that do not
not_full : (b : Bool) (c : Refusal) (v : Verdict) → number c ≢ 15 → v ≢ Err JournalFull → failing b c v ≢ Err JournalFull
unfolding failing verdict_number number
not_full true c v n h e = n (ap verdict_number e)
not_full false c v n h e = h e

none_free : (n : ℕ) (v : Verdict) → v ≢ Err JournalFull → failing (eqb n 0) JournalFull v ≡ Err JournalFull → n ≡ 0
unfolding failing
none_free n v h e = by (eqb n 0) refl e
  where
    by : (b : Bool) → eqb n 0 ≡ b → failing b JournalFull v ≡ Err JournalFull → n ≡ 0
    by true q f = eqb-true n 0 q
    by false q f = absurd (h f)

-- no record is free where a row change is refused by 15
full_none : (s : Schema) (t r : ℕ) (new : Row) (w : Work) → admits s t r new w ≡ Err JournalFull → length w.spare ≡ 0
unfolding admits verdict_number number
full_none s t r new w e =
    none_free (length w.spare) _
    (not_full _ BrokenKey _ (omega arith)
    (not_full _ NotNull _ (omega arith)
    (not_full _ NotUnique _ (omega arith)
    (not_full _ BadWindow (Ok tt) (omega arith) (λ f. let z : ◌≡◌ {A = ℕ} 0 15 = ap verdict_number f in omega arith)))))
    e

module _ {s : Schema} (t r : ℕ) (new : Row) (w : Work) (alive : live (row_at t r w.tabs) ≡ true) where
  -- a live row is written, and counts less
  falls_write : 0 < length w.spare → row_bound s t (overwrite (row_at t r w.tabs) new) < row_bound s t (row_at t r w.tabs) → Falls s w (write t r new w)
  falls_write h less =
      record {
        written = 1;
        used_is = omega arith;
        spare_is = omega (arith, length-drop 1 w.spare);
        sum_is = omega (arith, bound_put s (overwrite (row_at t r w.tabs) new) t r w.tabs alive);
      }

  -- a live row is changed, if what follows its checks ends so
  ends_admitted : (k : Work → Result) → (admits s t r new w ≡ Ok tt → Ends s w (k w)) → Ends s w (admitted (admits s t r new w) k w)
  unfolding admitted
  ends_admitted k p = by (admits s t r new w) refl
    where
      by : (v : Verdict) → admits s t r new w ≡ v → Ends s w (admitted v k w)
      by (Ok tt) e = p e
      by (Err c) e =
          stopped (falls_none w) (λ (q : c ≡ JournalFull). omega (arith, full_none s t r new w (e ∙ ap Err q), bound_some s t r w.tabs alive))

-- ---- SET NULL

-- where no key fires, no actions follow
still : (change : Change) (s : Schema) (new : Row) (t : ℕ) (old : Row) (ks : List ForeignKey) → ((k : ForeignKey) → Mem k ks → fires new t old k ≡ false) → (w : Work) → actions change s new t old ks w ≡ go w
unfolding actions key_turn given then Mem
still change s new t old [] h w = refl
still change s new t old (k ∷ ks) h w = rw (h k (inl refl)) (still change s new t old ks (λ p m. h p (inr m)) w)

module _ {s : Schema} (shapes : Shapes s) (bound : bounded s ≡ true) where
  ends_clear : (n : ℕ) (parent old : Row) (k : ForeignKey) → Mem k s.keys → k.on_delete ≡ SetNull → (i : ℕ) (w : Work) → takes k old (row_at k.child i w.tabs) ≡ true
      → Ends s w (change n s k.child i (child_image SetNull s k parent (image k.child i w.tabs)) w)
  unfolding change takes image number
  ends_clear zero parent old k m e i w h = ends_stop TooDeep w (omega arith)
  ends_clear (suc n) parent old k m e i w h =
      ends_admitted k.child i new w alive _ (λ p.
      subst (Ends s w)
      (sym (still (change n s) s new k.child (image k.child i w.tabs) s.keys (never_fires shapes bound k m e parent (image k.child i w.tabs) (padded_long x (live_long x alive))) (write k.child i new w)))
      (went (falls_write k.child i new w alive (spared s k.child i new w p) (counts_less shapes bound k m e parent x old alive maps))))
    where
      x : Row
      x = row_at k.child i w.tabs

      new : Row
      new = child_image SetNull s k parent (image k.child i w.tabs)

      alive : live x ≡ true
      alive = and_left (live x) (maps_to k x old) h

      maps : maps_to k x old ≡ true
      maps = and_right (live x) (maps_to k x old) h

  -- ---- deletion

  -- the actions of a deletion, where deletions one level deeper end so
  module _ (n : ℕ) (deeper : (t r : ℕ) (w : Work) → live (row_at t r w.tabs) ≡ true → Ends s w (change n s t r deleted_image w)) where
    ends_taken : (a : Action) (k : ForeignKey) → Mem k s.keys → k.on_delete ≡ a → (old : Row) (i : ℕ) (w : Work) → takes k old (row_at k.child i w.tabs) ≡ true
        → Ends s w (taken (change n s) s deleted_image a k i (image k.child i w.tabs) w)
    unfolding taken takes cascaded deleted_image live live_state nat_of number
    ends_taken NoAction k m e old i w h = ends_go w
    ends_taken Restrict k m e old i w h = ends_given _ _ (λ g. ends_stop Restricted w (omega arith))
    ends_taken SetNull k m e old i w h = ends_clear n deleted_image old k m e i w h
    ends_taken SetDefault k m e old i w h = absurd (no_default s bound k m e)
    ends_taken Cascade k m e old i w h = deeper k.child i w (and_left (live (row_at k.child i w.tabs)) (maps_to k (row_at k.child i w.tabs) old) h)

    ends_turn : (k : ForeignKey) → Mem k s.keys → (old : Row) (i : ℕ) (w : Work) → Ends s w (row_turn (change n s) s deleted_image k old i w)
    unfolding row_turn action_of deleted_image live live_state nat_of
    ends_turn k m old i w = ends_given _ _ (λ h. ends_taken k.on_delete k m refl old i w h)

    ends_key : (k : ForeignKey) → Mem k s.keys → (t : ℕ) (old : Row) (w : Work) → Ends s w (key_turn (change n s) s deleted_image t old k w)
    unfolding key_turn children
    ends_key k m t old w = ends_given _ _ (λ h. ends_in_turn (row_turn (change n s) s deleted_image k old) (ends_turn k m old) _ w)

    ends_actions : (ks : List ForeignKey) → ((k : ForeignKey) → Mem k ks → Mem k s.keys) → (t : ℕ) (old : Row) (w : Work) → Ends s w (actions (change n s) s deleted_image t old ks w)
    unfolding actions Mem
    ends_actions [] m t old w = ends_go w
    ends_actions (k ∷ ks) m t old w = ends_then (ends_key k (m k (inl refl)) t old w) (ends_actions ks (λ p q. m p (inr q)) t old)

  -- a live row deleted, with so many levels left
  pub ends_delete : (n t r : ℕ) (w : Work) → live (row_at t r w.tabs) ≡ true → Ends s w (change n s t r deleted_image w)
  unfolding change number
  ends_delete zero t r w h = ends_stop TooDeep w (omega arith)
  ends_delete (suc n) t r w h =
      ends_admitted t r deleted_image w h _ (λ p.
      ends_after
      (falls_write t r deleted_image w h (spared s t r deleted_image w p) (omega (arith, vacant_part s t (overwrite (row_at t r w.tabs) deleted_image) (deleted_vacant (row_at t r w.tabs)), live_some s t (row_at t r w.tabs) h)))
      (ends_actions n (ends_delete n) s.keys (λ k m. m) t (image t r w.tabs) (write t r deleted_image w)))

  -- the live rows of a table that pass a test, deleted in turn
  pub ends_found : (t : ℕ) (found : Row → Bool) → ((x : Row) → found x ≡ true → live x ≡ true) → (w : Work) → Ends s w (rows_found s t found (λ x. deleted_image) w)
  unfolding rows_found found_turn
  ends_found t found h w =
      ends_in_turn (found_turn s t found (λ x. deleted_image)) (λ i w. ends_given _ _ (λ e. ends_delete 16 t i w (h _ e))) (up_from 0 (table_of s t).rows) w
