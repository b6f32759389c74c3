-- The kept numbers written, and settled by the verdict.
-- Assumes nothing.
use mathlib.Core.Path.{◌≡◌, refl, sym, ◌∙◌, ap, subst}
use mathlib.Core.Bool.{Bool, true, false}
use mathlib.Core.List.{List}
use Prim.Native.Nat.{ℕ, ◌≤◌, ◌<◌}
use native.Mathlib.Omega.{arith}
use borrow.Author.Tests.{le-leb, lt-leb}
use lib.Dec.{leb}
use lib.IntN.{ℤ}
use lib.ListN.{length, get_or, take, drop}
use lib.Seq.{sets, take_all}
use Rattle.schema.specs.Records.{Schema}
use Rattle.rules.specs.declared.Refusal.{Refusal}
use Rattle.rules.specs.declared.Refusal.TheVariants.{KeptOutOfRange, OrphansLeft}
use Rattle.rules.specs.Refusals.{Verdict}
use Rattle.std.specs.Prelude.{Ok, Err}
use Rattle.rules.specs.Lists.{𝟘, plus}
use Rattle.rules.specs.Values.{nat_of}
use Rattle.rules.specs.Book.{Book, with_work, emptied}
use Rattle.rules.specs.State.{in_transaction, kept_in_range}
use Rattle.rules.specs.Statement.{enforced, after_statement}
use Rattle.rules.specs.Area.{view}
use Rattle.bridge.specs.Fit.{work_of, Fit, Keeps, Holds}
use Rattle.bridge.proofs.HoldLaws.{holds_view, then_work}
use Rattle.bridge.proofs.LevelWords.{kept_at}
use Rattle.levels.specs.Parts.{with_kept}
use Rattle.levels.proofs.LevelReads.{inside_is, level_count}
use Rattle.levels.proofs.LevelWrites.{then_kept}
use Rattle.settlement.specs.Settled.{settle_verdict, After, settled}
use Rattle.settlement.proofs.SettleLaws.{verdict_19, verdict_20, verdict_pass, after_inside, after_outside}

-- whether a transaction is open, by word 0
pub inside_word : {s : Schema} {a : List ℤ} → Fit s a → in_transaction (view s a).levels ≡ leb 1 (nat_of (get_or a 0 𝟘))
inside_word {s} {a} f = inside_is (view s a).levels ∙ ap (leb 1) (level_count f)

-- ---- the kept numbers written

module _ {s : Schema} {a : List ℤ} (f : Fit s a) (kept : List ℤ) (l : length kept ≡ 32) {a₁ : List ℤ} (e₁ : a₁ ≡ sets a 4 kept) where
  pub kept_holds : Holds s a₁ (with_kept kept (view s a))
  kept_holds = then_kept (holds_view f) kept l e₁

  pub kept_work : work_of s a₁ ≡ work_of s a
  unfolding work_of
  kept_work = ap (λ (b : Book). b.work) kept_holds.is

  levels_same : in_transaction (view s a).levels ≡ leb 1 (nat_of (get_or a₁ 0 𝟘))
  levels_same = ap (λ (b : Book). in_transaction b.levels) (sym kept_holds.is) ∙ inside_word kept_holds.fit

  -- n is word 0, the open levels
  module _ {n : ℕ} (en : n ≡ nat_of (get_or a₁ 0 𝟘)) where
    pub written_inside : 1 ≤ n → Holds s a₁ (after_statement (work_of s a) kept (view s a))
    unfolding work_of
    written_inside h =
        let i : in_transaction (view s a).levels ≡ true = levels_same ∙ ap (leb 1) (sym en) ∙ le-leb 1 n h in
        record { fit = kept_holds.fit; is = kept_holds.is ∙ sym (after_inside (view s a) kept i) }

    pub written_outside : n < 1 → {a₂ : List ℤ} → (work_of s a₂ ≡ emptied (work_of s a₁)) × Keeps s a₁ a₂ → Holds s a₂ (after_statement (work_of s a) kept (view s a))
    unfolding work_of
    written_outside h {a₂} e₂ =
        let i : in_transaction (view s a).levels ≡ false = levels_same ∙ ap (leb 1) (sym en) ∙ lt-leb 1 n h in
        let k : Holds s a₂ (with_work (emptied (view s a).work) (with_kept kept (view s a))) = then_work kept_holds emptied e₂ in
        record { fit = k.fit; is = k.is ∙ sym (after_outside (view s a) kept i) }

-- ---- settled, by the verdict

-- the kept numbers at the entry are `before`, those to be written `kept`; they are lent whole to be judged
module _ {s : Schema} {a : List ℤ} (f : Fit s a) (tally : List ℤ) {before kept : List ℤ} (eb : before ≡ take 32 (drop 4 a)) (ek : kept ≡ plus before tally) (size : length kept ≡ 32)
    {t : Bool} (et : t ≡ kept_in_range s s.keys (take 32 (take 32 kept))) where
  kept_is : kept ≡ plus (view s a).kept tally
  kept_is = ek ∙ ap (λ l. plus l tally) (eb ∙ sym (kept_at s a))

  in_range_lem : kept_in_range s s.keys kept ≡ t
  in_range_lem =
      let e : take 32 kept ≡ kept = take_all 32 kept (omega arith) in
      ap (kept_in_range s s.keys) (sym (ap (take 32) e ∙ e)) ∙ sym et

  -- the verdict on kept numbers that are those of the area, moved by the tally
  settled_is : (o : Verdict) → settle_verdict s (in_transaction (view s a).levels) kept ≡ o → o ≡ settled s tally a
  settled_is o e = sym e ∙ ap (settle_verdict s (in_transaction (view s a).levels)) kept_is

  pub settle_19 : t ≡ false → (Err KeptOutOfRange ≡ settled s tally a) × After s (Err KeptOutOfRange) (plus (view s a).kept tally) a a
  unfolding After
  settle_19 p = (settled_is _ (verdict_19 s _ kept (in_range_lem ∙ p)), refl)

  -- n is word 0, the open levels
  module _ {n : ℕ} (en : n ≡ nat_of (get_or a 0 𝟘)) (p : t ≡ true) {u : Bool} (eu : u ≡ enforced (leb 1 n) s kept) where
    enforced_is : enforced (in_transaction (view s a).levels) s kept ≡ u
    enforced_is = ap (λ i. enforced i s kept) (inside_word f ∙ ap (leb 1) (sym en)) ∙ sym eu

    pub settle_20 : u ≡ false → (Err OrphansLeft ≡ settled s tally a) × After s (Err OrphansLeft) (plus (view s a).kept tally) a a
    unfolding After
    settle_20 q = (settled_is _ (verdict_20 s _ kept (in_range_lem ∙ p) (enforced_is ∙ q)), refl)

    pub settle_pass : u ≡ true → {a' : List ℤ} → Holds s a' (after_statement (work_of s a) kept (view s a)) → (Ok tt ≡ settled s tally a) × After s (Ok tt) (plus (view s a).kept tally) a a'
    unfolding After
    settle_pass q {a'} h = (settled_is _ (verdict_pass s _ kept (in_range_lem ∙ p) (enforced_is ∙ q)), subst (λ k. Holds s a' (after_statement (work_of s a) k (view s a))) kept_is h)

pub failed_same : (s : Schema) (kept a a' : List ℤ) {o : Verdict} {c : Refusal} → o ≡ Err c → After s o kept a a' → a' ≡ a
unfolding After
failed_same s kept a a' q h = subst (λ o. After s o kept a a') q h

pub passed_holds : (s : Schema) (kept a a' : List ℤ) {o : Verdict} → o ≡ Ok tt → After s o kept a a' → Holds s a' (after_statement (work_of s a) kept (view s a))
unfolding After
passed_holds s kept a a' q h = subst (λ o. After s o kept a a') q h
