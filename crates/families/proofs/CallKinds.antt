-- What an allowed call of a kind is.
-- Assumes nothing.
use mathlib.Core.Path.{◌≡◌, refl, sym, ◌∙◌, ap, subst}
use mathlib.Core.Bool.{Bool, true, false, ◌&&◌, false≢true}
use mathlib.Core.List.{List}
use mathlib.Core.Logic.{inl, inr}
use Prim.Native.Nat.{ℕ}
use lib.Dec.{eqb}
use lib.IntN.{ℤ, pos}
use lib.ListN.{length, get_or, drop}
use Rattle.schema.specs.ParentKey.{Mem}
use Rattle.schema.specs.Records.{Schema}
use Rattle.rules.specs.Lists.{𝟘}
use Rattle.rules.specs.Values.{nat_of, natural}
use Rattle.rules.specs.Calls.{Call, insert, update, delete, rollback_to, rollback, delete_where, update_where, formed_if, parsed, parse, allowed}
use Rattle.families.specs.Families.{row_kinds, OnTable}

-- the calls that change rows of table t; actions may then change rows of others
pub data ChangesRows : ℕ → Call → Type 0 where
  inserting : {t r m : ℕ} {vs : List ℤ} → ChangesRows t (insert t r m vs)
  updating : {t r m : ℕ} {vs : List ℤ} → ChangesRows t (update t r m vs)
  deleting : {t r : ℕ} → ChangesRows t (delete t r)
  deleting_found : {t c m : ℕ} {v : ℤ} → ChangesRows t (delete_where t c m v)
  updating_found : {t c m d : ℕ} {v y : ℤ} → ChangesRows t (update_where t c m v d y)

formed_is : (s : Schema) (t : Bool) (c : Call) → allowed s (formed_if t c) ≡ true → formed_if t c ≡ c
unfolding formed_if allowed
formed_is s true c h = refl
formed_is s false c h = absurd (false≢true h)

module _ (s : Schema) (ws : List ℤ) (h : allowed s (parse ws) ≡ true) where
  parse_is : (n : ℕ) → get_or ws 0 𝟘 ≡ pos n → parse ws ≡ parsed n ws
  unfolding parse nat_of
  parse_is n e = formed_is s (eqb (length ws) 12 && natural (get_or ws 0 𝟘)) (parsed (nat_of (get_or ws 0 𝟘)) ws) h ∙ ap (λ x. parsed (nat_of x) ws) e

  -- the call of kind n, where its words are what the kind asks
  kind_is : (n : ℕ) (t : Bool) (c : Call) → get_or ws 0 𝟘 ≡ pos n → parsed n ws ≡ formed_if t c → parse ws ≡ c
  kind_is n t c e f =
      let p : parse ws ≡ formed_if t c = parse_is n e ∙ f in
      p ∙ formed_is s t c (ap (allowed s) (sym p) ∙ h)

  insert_is : get_or ws 0 𝟘 ≡ pos 1 → parse ws ≡ insert (nat_of (get_or ws 1 𝟘)) (nat_of (get_or ws 2 𝟘)) (nat_of (get_or ws 3 𝟘)) (drop 4 ws)
  unfolding parsed
  insert_is e = kind_is 1 _ _ e refl

  update_is : get_or ws 0 𝟘 ≡ pos 2 → parse ws ≡ update (nat_of (get_or ws 1 𝟘)) (nat_of (get_or ws 2 𝟘)) (nat_of (get_or ws 3 𝟘)) (drop 4 ws)
  unfolding parsed
  update_is e = kind_is 2 _ _ e refl

  delete_is : get_or ws 0 𝟘 ≡ pos 3 → parse ws ≡ delete (nat_of (get_or ws 1 𝟘)) (nat_of (get_or ws 2 𝟘))
  unfolding parsed
  delete_is e = kind_is 3 _ _ e refl

  pub rollback_to_is : get_or ws 0 𝟘 ≡ pos 7 → parse ws ≡ rollback_to (nat_of (get_or ws 1 𝟘))
  unfolding parsed
  rollback_to_is e = kind_is 7 _ _ e refl

  pub rollback_is : get_or ws 0 𝟘 ≡ pos 8 → parse ws ≡ rollback
  unfolding parsed
  rollback_is e = kind_is 8 _ _ e refl

  delete_where_is : get_or ws 0 𝟘 ≡ pos 10 → parse ws ≡ delete_where (nat_of (get_or ws 1 𝟘)) (nat_of (get_or ws 2 𝟘)) (nat_of (get_or ws 3 𝟘)) (get_or ws 4 𝟘)
  unfolding parsed
  delete_where_is e = kind_is 10 _ _ e refl

  update_where_is : get_or ws 0 𝟘 ≡ pos 11 → parse ws ≡ update_where (nat_of (get_or ws 1 𝟘)) (nat_of (get_or ws 2 𝟘)) (nat_of (get_or ws 3 𝟘)) (get_or ws 4 𝟘) (nat_of (get_or ws 5 𝟘)) (get_or ws 6 𝟘)
  unfolding parsed
  update_where_is e = kind_is 11 _ _ e refl

  -- an allowed call on a table changes its rows
  pub changes_rows : {t : ℕ} → OnTable t ws → ChangesRows t (parse ws)
  unfolding Mem nat_of
  changes_rows {t} o = by o.kind
    where
      of : {c : Call} → parse ws ≡ c → ChangesRows (nat_of (get_or ws 1 𝟘)) c → ChangesRows t (parse ws)
      of e r = subst (λ t. ChangesRows t (parse ws)) (ap nat_of o.table) (subst (ChangesRows (nat_of (get_or ws 1 𝟘))) (sym e) r)

      by : Mem (get_or ws 0 𝟘) row_kinds → ChangesRows t (parse ws)
      by (inl e) = of (insert_is e) inserting
      by (inr (inl e)) = of (update_is e) updating
      by (inr (inr (inl e))) = of (delete_is e) deleting
      by (inr (inr (inr (inl e)))) = of (delete_where_is e) deleting_found
      by (inr (inr (inr (inr (inl e))))) = of (update_where_is e) updating_found
      by (inr (inr (inr (inr (inr x))))) = absurd x
