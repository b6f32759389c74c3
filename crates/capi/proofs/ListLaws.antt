-- The lent list while it is written, and at the end.
-- Assumes nothing.
use mathlib.Core.Path.{◌≡◌, refl, sym, ap, ap₂, ◌∙◌}
use mathlib.Core.List.{List, [], ◌∷◌, ◌++◌}
use Prim.Native.Nat.{ℕ, suc, ◌+◌, ◌≤◌, ◌<◌}
use native.Mathlib.Numerals.{add-one}
use native.Mathlib.Omega.{arith}
use lib.IntN.{ℤ, pos}
use lib.ListN.{length, get_or, set, take, drop, length-append, length-drop}
use lib.Seq.{length-take-le, take-suc, take-length, drop-cons, append_snoc, set_at}
use Rattle.schema.specs.Fields.{schema_of}
use Rattle.rules.specs.declared.Orphan.{Orphan}
use Rattle.rules.specs.declared.Listed.{Listed}
use Rattle.rules.specs.declared.Refusal.{Refusal}
use Rattle.rules.specs.Refusals.{Verdict, number}
use Rattle.std.specs.Prelude.{Ok, Err}
use Rattle.rules.specs.OrphanList.{orphan_total, orphan_list, list_verdict, listed, list_answer, lent_after, list_orphans}
use Rattle.bridge.specs.Fit.{work_of}
use Rattle.laws.proofs.AllOrphans.{listed_length}

-- ---- the list after i turns

-- the first i of the orphans, then what the list held
unfoldable pub laid : List Orphan → List Orphan → ℕ → List Orphan
laid os ys i = take i os ++ drop i ys

module _ (os ys : List Orphan) where
  pub laid_zero : ys ≡ laid os ys 0
  unfolding laid
  laid_zero = refl

  module _ (i : ℕ) where
    pub laid_length : i ≤ length os → i ≤ length ys → length (laid os ys i) ≡ length ys
    unfolding laid
    laid_length h l = omega (arith, length-append (take i os) (drop i ys), length-take-le i os h, length-drop i ys, l)

    module _ {x : Orphan} {rest : List Orphan} (h : i < length os) (e : drop i os ≡ x ∷ rest) where
      parts : x ∷ rest ≡ get_or os i x ∷ drop (suc i) os
      parts = sym e ∙ drop-cons os i x h

      -- what follows it
      pub drop_next : drop (i + 1) os ≡ rest
      drop_next = ap (λ (j : ℕ). drop j os) (add-one i) ∙ sym (ap (drop 1) parts)

      pub laid_next : i < length ys → set (laid os ys i) i x ≡ laid os ys (i + 1)
      unfolding laid
      laid_next l =
          let head : x ≡ get_or os i x = ap (λ (l : List Orphan). get_or l 0 x) parts in
          ap (λ (l : List Orphan). set (take i os ++ l) i x) (drop-cons ys i x l)
          ∙ set_at (take i os) (get_or ys i x) (drop (suc i) ys) x i (length-take-le i os (omega (arith, h)))
          ∙ sym (append_snoc (take i os) x (drop (suc i) ys))
          ∙ ap (λ (y : Orphan). take i os ++ (y ∷ []) ++ drop (suc i) ys) head
          ∙ ap (λ (l : List Orphan). l ++ drop (suc i) ys) (sym (take-suc os i x h))
          ∙ ap (λ (j : ℕ). take j os ++ drop j ys) (sym (add-one i))

-- ---- the list at the end
module _ (bs : List ℕ) (ws : List ℤ) where
  -- all orphans
  abbrev pub all : List Orphan
  all = orphan_list (schema_of bs) (work_of (schema_of bs) ws).tabs

  abbrev total : ℕ
  total = orphan_total (schema_of bs).keys (work_of (schema_of bs) ws).tabs

  all_many : length all ≡ total
  all_many = listed_length (schema_of bs) (work_of (schema_of bs) ws).tabs

  listed_low : (v : Verdict) → (listed v total).count ≤ total
  unfolding listed
  listed_low (Ok tt) = omega arith
  listed_low (Err r) = omega arith

  pub count_low : (room : ℕ) {r : Listed} → r ≡ list_answer bs ws room → r.count ≤ length all
  unfolding list_answer work_of
  count_low room e = omega (arith, ap (λ (r : Listed). r.count) e, listed_low (list_verdict bs ws room), all_many)

  pub list_left : (ys : List Orphan) (r : Listed) → r ≡ list_answer bs ws (length ys) → (r, laid all ys r.count) ≡ list_orphans bs ws ys
  unfolding list_orphans list_answer listed lent_after laid work_of
  list_left ys r e = ap₂ (λ (x : Listed) (l : List Orphan). (x, l)) e (go (list_verdict bs ws (length ys)) e)
    where
      go : (v : Verdict) → r ≡ listed v total → laid all ys r.count ≡ lent_after v all ys
      go (Ok tt) h = ap (laid all ys) (ap (λ (r : Listed). r.count) h ∙ sym all_many) ∙ ap (λ (l : List Orphan). l ++ drop (length all) ys) (take-length all)
      go (Err c) h = ap (laid all ys) (ap (λ (r : Listed). r.count) h)

  -- refused, it is what it was
  pub list_refused : (ys : List Orphan) {code : ℤ} (r : Refusal) → code ≡ pos (number r) → record { code = pos (number r); count = 0 } ≡ list_answer bs ws (length ys) → (record { code = code; count = 0 }, ys) ≡ list_orphans bs ws ys
  list_refused ys r e p =
      let answer : Listed = record { code = pos (number r); count = 0 } in
      rw e (ap (λ (l : List Orphan). (answer, l)) (laid_zero all ys) ∙ list_left ys answer p)
