-- Two statements on different families, accepted one after the other in one transaction, in the other order.
-- Assumes nothing.
use mathlib.Core.Path.{◌≡◌, refl, sym, ◌∙◌, ap, ap₂, subst}
use mathlib.Core.Bool.{Bool, true, false, ◌||◌}
use mathlib.Core.List.{List, [], ◌++◌}
use mathlib.Core.Logic.{◌⊎◌, inl, inr}
use Prim.Native.Nat.{ℕ, ◌+◌, ◌-◌, ◌≤◌}
use native.Mathlib.Omega.{arith}
use lib.IntN.{◌-ℤ◌}
use lib.ListN.{length, get_or, drop, length-drop}
use lib.Seq.{drop-drop}
use Rattle.schema.specs.ParentKey.{Mem}
use Rattle.schema.specs.Records.{ForeignKey, Schema}
use Rattle.rules.specs.Lists.{𝟘, less}
use Rattle.rules.specs.Values.{same_word}
use Rattle.rules.specs.Refusals.{accepted}
use Rattle.rules.specs.Rows.{Tables}
use Rattle.rules.specs.Keys.{counts}
use Rattle.rules.specs.Book.{Entry, Work, Book, undo_all}
use Rattle.rules.specs.Calls.{Call}
use Rattle.rules.specs.State.{in_transaction}
use Rattle.rules.specs.Change.{go}
use Rattle.rules.specs.Statement.{Turn, immediate_zero}
use Rattle.rules.specs.Step.{act}
use Rattle.laws.proofs.Back.{Good, moved}
use Rattle.families.proofs.Writes.{Write, put_all, entries, write_all, undo_entries, Agree, Within, entries_agree, hit, hit_within, missed, outside, put_all_swap}
use Rattle.families.proofs.Traces.{Trace, trace, Closed}
use Rattle.families.proofs.Settled.{Settled}
use Rattle.families.proofs.Statements.{StatementOf, Accepts, turn_to, accepts_turn, accepts_good, accepted_accepts}
use Rattle.families.proofs.Movements.{counted, zero_at, orphans_same, orphans_none, zero_at_lem, zero_all, less_same, none_moved}

-- c, then d: from b's work to w₁, then to w₁₂; d, then c: to w₂, then to w₂₁
pub record Swapped (s : Schema) (c d : Call) (b : Book) : Type 0 where
  pub w₁ : Work
  pub w₁₂ : Work
  pub w₂ : Work
  pub w₂₁ : Work
  pub first : act s c b ≡ turn_to s w₁ b
  pub both : act s d (moved (counts s w₁.tabs) w₁ b) ≡ turn_to s w₁₂ (moved (counts s w₁.tabs) w₁ b)
  pub other : act s d b ≡ turn_to s w₂ b
  pub swapped : act s c (moved (counts s w₂.tabs) w₂ b) ≡ turn_to s w₂₁ (moved (counts s w₂.tabs) w₂ b)
  pub net₁ : less (counts s w₂₁.tabs) (counts s w₂.tabs) ≡ less (counts s w₁.tabs) (counts s b.work.tabs)
  pub net₂ : less (counts s w₂.tabs) (counts s b.work.tabs) ≡ less (counts s w₁₂.tabs) (counts s w₁.tabs)
  pub tabs_same : w₂₁.tabs ≡ w₁₂.tabs
  pub spare_same : w₂₁.spare ≡ w₁₂.spare
  pub records₁ : List Entry  -- of c, newest first
  pub records₂ : List Entry  -- of d
  pub used₁ : w₁.used ≡ records₁ ++ b.work.used
  pub used₁₂ : w₁₂.used ≡ records₂ ++ (records₁ ++ b.work.used)
  pub used₂ : w₂.used ≡ records₂ ++ b.work.used
  pub used₂₁ : w₂₁.used ≡ records₁ ++ (records₂ ++ b.work.used)
  -- undone newest first, they give b's rows back
  pub undone₁₂ : undo_all records₁ (undo_all records₂ w₁₂.tabs) ≡ b.work.tabs
  pub undone₂₁ : undo_all records₂ (undo_all records₁ w₂₁.tabs) ≡ b.work.tabs

-- the writes leave the number counted of a key as it is
abbrev Spared : ForeignKey → List Write → Type 0
Spared k zs = (tabs : Tables) → counted (put_all zs tabs) k ≡ counted tabs k

-- of each key, the writes to tables of P or those to tables of Q leave the number as it is
module _ (s : Schema) (P Q : ℕ → Type 0) (closed : Closed s Q) (disjoint : (t : ℕ) → P t → Q t → ⊥) (xs ys : List Write) (in_p : Within P xs) (in-q : Within Q ys) where
  spared : (k : ForeignKey) → Mem k s.keys → Spared k xs ⊎ Spared k ys
  spared k m = by k.broken (hit k.child ys) (hit k.parent ys) refl refl refl
    where
      not_p : k.broken ≡ false → Q k.child → Spared k xs
      not_p h q tabs =
          orphans_same k (put_all xs tabs) tabs
          (outside P k.child xs tabs in_p (λ p. disjoint k.child p q))
          (outside P k.parent xs tabs in_p (λ p. disjoint k.parent p (closed.up k m h q)))

      by : (c a b : Bool) → k.broken ≡ c → hit k.child ys ≡ a → hit k.parent ys ≡ b → Spared k xs ⊎ Spared k ys
      by true a b h e f = inl (λ tabs. orphans_none k h (put_all xs tabs) ∙ sym (orphans_none k h tabs))
      by false true b h e f = inl (not_p h (hit_within Q k.child ys in-q e))
      by false false true h e f = inl (not_p h (closed.down k m h (hit_within Q k.parent ys in-q f)))
      by false false false h e f = inr (λ tabs. orphans_same k (put_all ys tabs) tabs (missed k.child ys tabs e) (missed k.parent ys tabs f))

-- c leads from b's work to w₁, d from there to w₁₂
module _ {s : Schema} {b : Book} (g : Good s b) (i : in_transaction b.levels ≡ true) (z : Settled s b) (P Q : ℕ → Type 0) (closed : Closed s Q) (disjoint : (t : ℕ) → P t → Q t → ⊥) {c d : Call} (p : StatementOf s P c) (q : StatementOf s Q d)
    (w₁ w₁₂ : Work) (a₁ : Accepts s P c p b w₁) (a₂ : Accepts s Q d q (moved (counts s w₁.tabs) w₁ b) w₁₂) where
  abbrev w : Work
  w = b.work

  t₁ : Trace P p.body b.work w₁
  t₁ = trace P p.body p.local w w₁ a₁.body_is

  t₂ : Trace Q q.body w₁ w₁₂
  t₂ = trace Q q.body q.local w₁ w₁₂ a₂.body_is

  xs : List Write
  xs = t₁.writes

  ys : List Write
  ys = t₂.writes

  w₂ : Work
  w₂ = write_all ys b.work

  w₂₁ : Work
  w₂₁ = write_all xs w₂

  -- tables of either family where only the other's were written
  agree_q : (tabs : Tables) → Agree Q (put_all xs tabs) tabs
  unfolding xs
  agree_q tabs t h = outside P t xs tabs t₁.within (λ p. disjoint t p h)

  agree_p : (tabs : Tables) → Agree P (put_all ys tabs) tabs
  unfolding ys
  agree_p tabs t h = outside Q t ys tabs t₂.within (λ q. disjoint t h q)

  tabs₁ : w₁.tabs ≡ put_all xs b.work.tabs
  unfolding xs write_all
  tabs₁ = ap (λ (x : Work). x.tabs) t₁.done

  spare₁ : w₁.spare ≡ drop (length xs) b.work.spare
  unfolding xs write_all
  spare₁ = ap (λ (x : Work). x.spare) t₁.done

  tabs₁₂ : w₁₂.tabs ≡ put_all ys w₁.tabs
  unfolding ys write_all
  tabs₁₂ = ap (λ (x : Work). x.tabs) t₂.done

  tabs₂ : w₂.tabs ≡ put_all ys b.work.tabs
  unfolding w₂ write_all
  tabs₂ = refl

  tabs₂₁ : w₂₁.tabs ≡ put_all xs w₂.tabs
  unfolding w₂₁ write_all
  tabs₂₁ = refl

  same_tabs : w₂₁.tabs ≡ w₁₂.tabs
  unfolding xs ys
  same_tabs =
      tabs₂₁ ∙ ap (put_all xs) tabs₂ ∙ put_all_swap P Q disjoint xs ys w.tabs t₁.within t₂.within ∙ sym (tabs₁₂ ∙ ap (put_all ys) tabs₁)

  -- there is room for both
  room : length xs + length ys ≤ length b.work.spare
  unfolding xs ys
  room = omega (arith, t₁.room, t₂.room, ap length spare₁ ∙ length-drop (length xs) w.spare)

  other_body : q.body b.work ≡ go w₂
  unfolding w₂ ys
  other_body = t₂.again w (subst (λ (tabs : Tables). Agree Q tabs w.tabs) (sym tabs₁) (agree_q w.tabs)) (omega (arith, room))

  swapped_body : p.body w₂ ≡ go w₂₁
  unfolding w₂₁ xs
  swapped_body =
      let l : length w₂.spare ≡ length w.spare - length ys = (unfold w₂ write_all in length-drop (length ys) w.spare) in
      t₁.again w₂ (λ t h. sym (ap (λ tabs. get_or tabs t []) tabs₂ ∙ agree_p w.tabs t h)) (omega (arith, room))

  -- of each key, either c moves nothing or d moves nothing
  module _ (k : ForeignKey) (m : Mem k s.keys) where
    abbrev Still₁ : Type 0
    Still₁ = (counted w₁.tabs k ≡ counted b.work.tabs k) × (counted w₁₂.tabs k ≡ counted w₂.tabs k)

    abbrev Still₂ : Type 0
    Still₂ = (counted w₂.tabs k ≡ counted b.work.tabs k) × (counted w₁₂.tabs k ≡ counted w₁.tabs k)

    number : {tabs tabs' : Tables} → tabs ≡ tabs' → counted tabs k ≡ counted tabs' k
    number e = ap (λ (tabs : Tables). counted tabs k) e

    still : Still₁ ⊎ Still₂
    unfolding xs ys
    still = by (spared s P Q closed disjoint t₁.writes t₂.writes t₁.within t₂.within k m)
      where
        by : Spared k t₁.writes ⊎ Spared k t₂.writes → Still₁ ⊎ Still₂
        by (inl e) = inl (number tabs₁ ∙ e w.tabs, number (sym same_tabs ∙ tabs₂₁) ∙ e w₂.tabs)
        by (inr e) = inr (number tabs₂ ∙ e w.tabs, number tabs₁₂ ∙ e w₁.tabs)

    zero₂ : zero_at w₂.tabs k ≡ true
    zero₂ = by still
      where
        by : Still₁ ⊎ Still₂ → zero_at w₂.tabs k ≡ true
        by (inl (e, f)) = ap (λ x. k.deferred || same_word 𝟘 x) (sym f) ∙ zero_at_lem s w₁₂.tabs a₂.zero k m
        by (inr (e, f)) =
            ap (λ x. k.deferred || same_word 𝟘 x) e ∙ zero_at_lem s w.tabs (ap (immediate_zero s.keys) (sym g.counted) ∙ z.now) k m

    moves₁ : counted w₁₂.tabs k -ℤ counted w₂.tabs k ≡ counted w₁.tabs k -ℤ counted b.work.tabs k
    moves₁ = by still
      where
        by : Still₁ ⊎ Still₂ → counted w₁₂.tabs k -ℤ counted w₂.tabs k ≡ counted w₁.tabs k -ℤ counted w.tabs k
        by (inl (e, f)) = rw (e, f) (none_moved (counted w₂.tabs k) (counted w.tabs k))
        by (inr (e, f)) = rw (e, f) refl

    moves₂ : counted w₂.tabs k -ℤ counted b.work.tabs k ≡ counted w₁₂.tabs k -ℤ counted w₁.tabs k
    moves₂ = by still
      where
        by : Still₁ ⊎ Still₂ → counted w₂.tabs k -ℤ counted w.tabs k ≡ counted w₁₂.tabs k -ℤ counted w₁.tabs k
        by (inl (e, f)) = rw (e, f) refl
        by (inr (e, f)) = rw (e, f) (none_moved (counted w.tabs k) (counted w₁.tabs k))

  -- d is accepted first, then c
  a_other : Accepts s Q d q b w₂
  a_other =
      record {
        fits_is = sym (q.reads w₁.tabs w.tabs (subst (λ (tabs : Tables). Agree Q tabs w.tabs) (sym tabs₁) (agree_q w.tabs))) ∙ a₂.fits_is;
        body_is = other_body;
        zero = zero_all s w₂.tabs zero₂;
      }

  a_swapped : Accepts s P c p (moved (counts s w₂.tabs) w₂ b) w₂₁
  a_swapped =
      record {
        fits_is = p.reads w₂.tabs w.tabs (λ t h. ap (λ tabs. get_or tabs t []) tabs₂ ∙ agree_p w.tabs t h) ∙ a₁.fits_is;
        body_is = swapped_body;
        zero = ap (λ (tabs : Tables). immediate_zero s.keys (counts s tabs)) same_tabs ∙ a₂.zero;
      }

  -- ---- the journal

  same_spare : w₂₁.spare ≡ w₁₂.spare
  unfolding w₂₁ w₂ ys write_all
  same_spare =
      let n : length ys + length xs ≡ length xs + length ys = omega arith in
      drop-drop (length xs) (length ys) w.spare
      ∙ ap (λ m. drop m w.spare) n
      ∙ sym (drop-drop (length ys) (length xs) w.spare)
      ∙ ap (drop (length ys)) (sym spare₁)
      ∙ sym (ap (λ (x : Work). x.spare) t₂.done)

  es : List Entry
  es = entries xs b.work.tabs

  fs : List Entry
  fs = entries ys b.work.tabs

  -- d's records after c, and c's after d
  fs_after : fs ≡ entries ys w₁.tabs
  unfolding fs ys
  fs_after = entries_agree Q ys w.tabs w₁.tabs (λ t h. sym (ap (λ tabs. get_or tabs t []) tabs₁ ∙ agree_q w.tabs t h)) t₂.within

  es_after : es ≡ entries xs w₂.tabs
  unfolding es xs
  es_after = entries_agree P xs w.tabs w₂.tabs (λ t h. sym (ap (λ tabs. get_or tabs t []) tabs₂ ∙ agree_p w.tabs t h)) t₁.within

  undone_1 : undo_all es w₁.tabs ≡ b.work.tabs
  unfolding es
  undone_1 = ap (undo_all es) tabs₁ ∙ undo_entries xs w.tabs

  undone_2 : undo_all fs w₂.tabs ≡ b.work.tabs
  unfolding fs
  undone_2 = ap (undo_all fs) tabs₂ ∙ undo_entries ys w.tabs

  undone_12 : undo_all fs w₁₂.tabs ≡ w₁.tabs
  undone_12 = ap₂ undo_all fs_after tabs₁₂ ∙ undo_entries ys w₁.tabs

  undone_21 : undo_all es w₂₁.tabs ≡ w₂.tabs
  undone_21 = ap₂ undo_all es_after tabs₂₁ ∙ undo_entries xs w₂.tabs

  used_1 : w₁.used ≡ es ++ b.work.used
  unfolding es xs write_all
  used_1 = ap (λ (x : Work). x.used) t₁.done

  used_12 : w₁₂.used ≡ fs ++ (es ++ b.work.used)
  unfolding ys write_all
  used_12 = ap (λ (x : Work). x.used) t₂.done ∙ ap₂ (λ l m. l ++ m) (sym fs_after) used_1

  used_2 : w₂.used ≡ fs ++ b.work.used
  unfolding w₂ fs write_all
  used_2 = refl

  used_21 : w₂₁.used ≡ es ++ (fs ++ b.work.used)
  unfolding w₂₁ write_all
  used_21 = ap₂ (λ l m. l ++ m) (sym es_after) used_2

  pub swap : Swapped s c d b
  swap =
      let g₁ : Good s (moved (counts s w₁.tabs) w₁ b) = accepts_good g i p w₁ a₁ in
      let g₂ : Good s (moved (counts s w₂.tabs) w₂ b) = accepts_good g i q w₂ a_other in
      record {
        w₁ = w₁;
        w₁₂ = w₁₂;
        w₂ = w₂;
        w₂₁ = w₂₁;
        first = accepts_turn g i p w₁ a₁;
        both = accepts_turn g₁ i q w₁₂ a₂;
        other = accepts_turn g i q w₂ a_other;
        swapped = accepts_turn g₂ i p w₂₁ a_swapped;
        net₁ = ap (λ (tabs : Tables). less (counts s tabs) (counts s w₂.tabs)) same_tabs ∙ less_same s w₁₂.tabs w₂.tabs w₁.tabs w.tabs moves₁;
        net₂ = less_same s w₂.tabs w.tabs w₁₂.tabs w₁.tabs moves₂;
        tabs_same = same_tabs;
        spare_same = same_spare;
        records₁ = es;
        records₂ = fs;
        used₁ = used_1;
        used₁₂ = used_12;
        used₂ = used_2;
        used₂₁ = used_21;
        undone₁₂ = ap (undo_all es) undone_12 ∙ undone_1;
        undone₂₁ = ap (undo_all fs) undone_21 ∙ undone_2;
      }

-- two statements accepted one after the other
pub swap_accepted : {s : Schema} {b : Book} → Good s b → in_transaction b.levels ≡ true → Settled s b → (P Q : ℕ → Type 0) → Closed s Q → ((t : ℕ) → P t → Q t → ⊥) → {c d : Call} → StatementOf s P c → StatementOf s Q d
    → accepted (act s c b).0 ≡ true → accepted (act s d (act s c b).1).0 ≡ true → Swapped s c d b
swap_accepted {s} {b} g i z P Q closed disjoint {c} {d} p q h₁ h₂ =
    let (w₁, a₁) = accepted_accepts g i p h₁ in
    let e : (act s c b).1 ≡ moved (counts s w₁.tabs) w₁ b = ap {B = Book} (λ (t : Turn). t.1) (accepts_turn g i p w₁ a₁) in
    let (w₁₂, a₂) = accepted_accepts (accepts_good g i p w₁ a₁) i q (ap (λ b'. accepted (act s d b').0) (sym e) ∙ h₂) in
    swap g i z P Q closed disjoint p q w₁ w₁₂ a₁ a₂
