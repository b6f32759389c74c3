-- Laws of the checks of a row change, of its action and of the image that this gives a child row.
-- Assumes nothing.
use mathlib.Core.Path.{◌≡◌, refl, sym, ap, ◌∙◌}
use mathlib.Core.Bool.{Bool, true, false, not, ◌&&◌}
use mathlib.Core.List.{List, [], ◌∷◌}
use Prim.Native.Nat.{ℕ, suc, ◌<◌}
use native.Mathlib.Omega.{arith}
use lib.Dec.{eqb}
use lib.ListN.{length, get_or, replicate}
use Rattle.schema.specs.declared.Action.{Action}
use Rattle.schema.specs.declared.Action.TheVariants.{Cascade}
use Rattle.schema.specs.Bytes.{bit}
use Rattle.schema.specs.Records.{ForeignKey, Schema, no_key, table_of}
use Rattle.schema.specs.Fields.{schema_of}
use Rattle.schema.proofs.MaskLaws.{bit_none}
use Rattle.rules.specs.declared.Refusal.TheVariants.{JournalFull, BrokenKey, NotNull, NotUnique, BadWindow}
use Rattle.std.specs.Prelude.{Ok, Err}
use Rattle.rules.specs.Refusals.{failing}
use Rattle.rules.specs.Lists.{𝟘, any}
use Rattle.rules.specs.Rows.{Row, Tables, row_at, image, deleted_image, live}
use Rattle.rules.specs.Keys.{uses, uses_broken}
use Rattle.rules.specs.Book.{Work}
use Rattle.rules.specs.Change.{not_null_broken, unique_broken, bad_window, admits, child_image, cascaded, action_of}
use Rattle.bridge.proofs.KeyLaws.{live_same, get_padded}
use Rattle.table_keys.specs.Touched.{broken_at, broken_used, BrokenKeys}
use Rattle.table_keys.proofs.TouchLaws.{not_used}
use Rattle.change_parts.specs.Turns.{deletes_child, action_image}

-- ---- broken keys

-- a row is live where its image is
pub row_live : (t r : ℕ) (tabs : Tables) {x : Row} → x ≡ image t r tabs → live x ≡ live (row_at t r tabs)
unfolding image
row_live t r tabs e = ap live e ∙ live_same _ _ (get_padded 9 (row_at t r tabs))

module _ (b : List ℕ) (new : Row) (t : ℕ) (old : Row) where
  -- an empty mask: no broken key touches the table
  pub none_broken : {m : ℕ} → BrokenKeys b t m → m ≡ 0 → false ≡ any (uses_broken new t old) (schema_of b).keys
  unfolding uses_broken broken_used any
  none_broken {m} h e = sym (go (schema_of b).keys (λ i l. sym (h.each i l) ∙ ap (bit i) e ∙ bit_none i))
    where
      unused : (k : ForeignKey) → broken_at t k ≡ false → uses_broken new t old k ≡ false
      unused k f = sym (not_used t k (live new) (live old) f)

      go : (ks : List ForeignKey) → ((i : ℕ) → i < length ks → broken_at t (get_or ks i no_key) ≡ false) → any (uses_broken new t old) ks ≡ false
      go [] f = refl
      go (k ∷ ks) f = rw (unused k (f 0 (omega arith)), any) (go ks (λ i l. f (suc i) (omega arith)))

  pub used_broken : {lives lived : Bool} → lives ≡ live new → lived ≡ live old → any (broken_used lives t lived) (schema_of b).keys ≡ any (uses_broken new t old) (schema_of b).keys
  unfolding broken_used uses_broken
  used_broken e f = λ i. any (λ k. k.broken && uses (e i) t (f i) k) (schema_of b).keys

-- ---- the checks

module _ (s : Schema) (t r : ℕ) (new : Row) (w : Work) where
  pub admits_full : eqb (length w.spare) 0 ≡ true → Err JournalFull ≡ admits s t r new w
  unfolding admits failing
  admits_full e = sym (rw e refl)

  pub admits_broken : eqb (length w.spare) 0 ≡ false → any (uses_broken new t (row_at t r w.tabs)) s.keys ≡ true → Err BrokenKey ≡ admits s t r new w
  unfolding admits failing
  admits_broken room e = sym (rw (room, e) refl)

  module _ (room : eqb (length w.spare) 0 ≡ false) (none : any (uses_broken new t (row_at t r w.tabs)) s.keys ≡ false) where
    pub admits_deleted : live new ≡ false → Ok tt ≡ admits s t r new w
    unfolding admits failing
    admits_deleted e = sym (rw (room, none, e) refl)

    module _ (on : live new ≡ true) where
      pub admits_null : not_null_broken (table_of s t) new ≡ true → Err NotNull ≡ admits s t r new w
      unfolding admits failing
      admits_null e = sym (rw (room, none, on, e) refl)

      module _ (full : not_null_broken (table_of s t) new ≡ false) where
        pub admits_unique : unique_broken (table_of s t) r new (get_or w.tabs t []) ≡ true → Err NotUnique ≡ admits s t r new w
        unfolding admits failing
        admits_unique e = sym (rw (room, none, on, full, e) refl)

        module _ (apart : unique_broken (table_of s t) r new (get_or w.tabs t []) ≡ false) where
          pub admits_window : any (bad_window t r new (get_or w.tabs t [])) s.keys ≡ true → Err BadWindow ≡ admits s t r new w
          unfolding admits failing
          admits_window e = sym (rw (room, none, on, full, apart, e) refl)

          pub admits_pass : any (bad_window t r new (get_or w.tabs t [])) s.keys ≡ false → Ok tt ≡ admits s t r new w
          unfolding admits failing
          admits_pass e = sym (rw (room, none, on, full, apart, e) refl)

-- ---- the action

module _ (new : Row) (k : ForeignKey) where
  pub action_update : live new ≡ true → k.on_update ≡ action_of new k
  unfolding action_of
  action_update e = sym (rw (e, action_of) refl)

  pub action_delete : live new ≡ false → k.on_delete ≡ action_of new k
  unfolding action_of
  action_delete e = sym (rw (e, action_of) refl)

-- ---- the image that it gives a child row

module _ (s : Schema) (k : ForeignKey) (new x : Row) where
  pub cascade_image : cascaded s k new x ≡ action_image Cascade s k new x
  unfolding cascaded action_image deletes_child
  cascade_image = by (live new)
    where
      by : (b : Bool) → ◌≡◌ {A = Row} (elim b [ true ↦ child_image Cascade s k new x | false ↦ deleted_image ]) (elim (not b) [ true ↦ deleted_image | false ↦ child_image Cascade s k new x ])
      by true = refl
      by false = refl

  module _ (a : Action) where
    pub image_deleted : deletes_child a new ≡ true → replicate 9 𝟘 ≡ action_image a s k new x
    unfolding action_image deleted_image
    image_deleted e = sym (ap {B = Row} (λ b. elim b [ true ↦ deleted_image | false ↦ child_image a s k new x ]) e)

    pub image_kept : deletes_child a new ≡ false → child_image a s k new x ≡ action_image a s k new x
    unfolding action_image
    image_kept e = sym (ap {B = Row} (λ b. elim b [ true ↦ deleted_image | false ↦ child_image a s k new x ]) e)
