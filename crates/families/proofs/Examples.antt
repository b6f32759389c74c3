-- Worked examples: two families, in either order; one family, where the order matters; and why a transaction must be open, and the area be one that calls led to.
-- Assumes nothing.
use mathlib.Core.Path.{◌≡◌, refl, sym, ap, ◌∙◌}
use mathlib.Core.Bool.{true, false, true≢false}
use mathlib.Core.List.{List, [], ◌∷◌, ◌++◌, map}
use mathlib.Core.Logic.{inl, inr}
use Prim.Native.Nat.{ℕ, ◌/◌}
use native.Mathlib.Omega.{arith}
use lib.IntN.{ℤ, pos, negsuc}
use lib.ListN.{length, get_or, set}
use Rattle.schema.specs.Bytes.{column_mask}
use Rattle.schema.specs.Ranges.{all_from, any_from, list_from}
use Rattle.schema.specs.ParentKey.{Mem}
use Rattle.schema.specs.Records.{ForeignKey}
use Rattle.schema.specs.Fields.{column_rule, unique_is, has_parent_key, has_end, is_broken, key_from, schema_of}
use Rattle.rules.specs.Refusals.{number, shown}
use Rattle.rules.specs.Lists.{𝟘, chunks}
use Rattle.rules.specs.Area.{AreaTurn, fresh_words}
use Rattle.rules.specs.Strike.{end_of}
use Rattle.rules.proofs.Inputs.{schema_bytes, table_bytes, key_bytes, insert, update, delete, begin, savepoint, rollback_to, rollback, commit, update_where}
use Rattle.rules.proofs.Computed.{on_book, on_area, ran, show, Shown, answers, same_area}
use Rattle.families.specs.Families.{Joined, Apart}
use Rattle.families.specs.Families.Joined.{directly, turned, through}
use Rattle.families.specs.EitherOrder.{used_words, both, swapped, OneAfterOther, EitherOrder}
use Rattle.families.proofs.FamilyLaws.{apart_by}
use Rattle.families.proofs.EitherOrder.{either_order}

-- ---- two families

-- horses, visits of a horse and trims of a visit, tables 0 to 2; sensors and readings of a sensor, tables 3 and 4. CASCADE; the readings' key is deferred
unfoldable yards : List ℕ
unfolding schema_bytes table_bytes key_bytes
yards =
    schema_bytes 5 3 8
    (table_bytes 2 1 1 1
    ++ table_bytes 2 2 1 1
    ++ table_bytes 2 1 0 0
    ++ table_bytes 2 1 1 1
    ++ table_bytes 2 1 0 0
    ++ key_bytes 1 1 0 0 0 4 4
    ++ key_bytes 2 0 1 0 0 4 4
    ++ key_bytes 4 0 3 0 1 4 4)

-- horses and trims are joined through visits, by both keys
horses_trims : Joined (schema_of yards) 0 2
unfolding yards schema_of list_from key_from is_broken has_parent_key has_end unique_is column_rule column_mask all_from any_from Mem
horses_trims = through (turned (directly (key_from yards 0) (inl refl) refl)) (turned (directly (key_from yards 1) (inr (inl refl)) refl))

-- sensors and readings, by a deferred key
sensors_readings : Joined (schema_of yards) 3 4
unfolding yards schema_of list_from key_from is_broken has_parent_key has_end unique_is column_rule column_mask all_from any_from Mem
sensors_readings = turned (directly (key_from yards 2) (inr (inr (inl refl))) refl)

-- horses and sensors are not joined
horses_sensors : Apart (schema_of yards) 0 3
unfolding yards schema_of list_from key_from Mem
horses_sensors = apart_by (schema_of yards) (λ t. t / 3) stays (λ e. omega arith)
  where
    stays : (k : ForeignKey) → Mem k (schema_of yards).keys → k.broken ≡ false → k.child / 3 ≡ k.parent / 3
    stays k (inl e) h = rw e refl
    stays k (inr (inl e)) h = rw e refl
    stays k (inr (inr (inl e))) h = rw e refl
    stays k (inr (inr (inr e))) h = absurd e

-- a horse with a visit and its trim, a sensor with a reading; a transaction and a level
unfoldable before : List (List ℤ)
unfolding insert begin savepoint
before =
    insert 0 0 0 (pos 5 ∷ [])
    ∷ insert 1 0 0 (pos 1 ∷ pos 5 ∷ [])
    ∷ insert 2 0 0 (pos 1 ∷ [])
    ∷ insert 3 0 0 (pos 5 ∷ [])
    ∷ insert 4 0 0 (pos 5 ∷ [])
    ∷ begin
    ∷ savepoint
    ∷ []

unfoldable reached_area : List ℤ
reached_area = end_of yards (fresh_words (schema_of yards)) before

-- the horse is deleted, with its visit and trim; the sensor is renumbered, and its reading follows
unfoldable call_c : List ℤ
unfolding delete
call_c = delete 0 0

unfoldable call_d : List ℤ
unfolding update
call_d = update 3 0 0 (pos 6 ∷ [])

abbrev rows : ℕ → ℕ × ℕ × ℤ
rows n = (0, n, pos 0)

abbrev started : Shown
started = rows 1 ∷ rows 1 ∷ rows 1 ∷ rows 1 ∷ rows 1 ∷ rows 0 ∷ rows 0 ∷ []

c_then_d : answers on_book yards (before ++ (call_c ∷ call_d ∷ [])) ≡ started ++ (rows 3 ∷ rows 2 ∷ [])
unfolding on_book answers yards before call_c call_d
c_then_d = refl

d_then_c : answers on_book yards (before ++ (call_d ∷ call_c ∷ [])) ≡ started ++ (rows 2 ∷ rows 3 ∷ [])
unfolding on_book answers yards before call_c call_d
d_then_c = refl

-- the rows that the records name, table × 1,024 + row, oldest first
unfoldable places : List ℤ → List ℤ
unfolding chunks
places ws = map (λ r. get_or r 0 𝟘) (chunks 10 5 ws)

records_exchanged :
    map (λ (t : AreaTurn). places (used_words (schema_of yards) t.1)) (both yards reached_area call_c call_d ∷ swapped yards reached_area call_c call_d ∷ [])
    ≡ (pos 0 ∷ pos 1024 ∷ pos 2048 ∷ pos 3072 ∷ pos 4096 ∷ []) ∷ (pos 3072 ∷ pos 4096 ∷ pos 0 ∷ pos 1024 ∷ pos 2048 ∷ []) ∷ []
unfolding on_area ran reached_area yards before call_c call_d places
records_exchanged = refl

-- calls that follow both, and whether the areas of both orders are then the same in every word
unfoldable follows : List (List (List ℤ))
unfolding insert savepoint rollback_to rollback commit
follows =
    []
    ∷ (rollback_to 2 ∷ [])
    ∷ (rollback ∷ [])
    ∷ (commit ∷ [])
    ∷ (savepoint ∷ insert 2 1 1 (pos 0 ∷ []) ∷ [])
    ∷ (savepoint ∷ insert 2 1 1 (pos 0 ∷ []) ∷ rollback_to 3 ∷ [])
    ∷ (savepoint ∷ insert 2 1 1 (pos 0 ∷ []) ∷ rollback_to 2 ∷ [])
    ∷ []

areas_after : map (λ xs. same_area on_book yards (before ++ (call_c ∷ call_d ∷ xs)) (before ++ (call_d ∷ call_c ∷ xs))) follows ≡ false ∷ true ∷ true ∷ true ∷ false ∷ false ∷ true ∷ []
unfolding on_book same_area yards before call_c call_d follows
areas_after = refl

-- the theorem is about them
yards_taken : OneAfterOther yards reached_area call_c call_d
unfolding on_area ran reached_area yards before call_c call_d Mem
yards_taken =
    record {
      reached = record { accepted = refl; calls = before; is = refl };
      opened = omega arith;
      table_c = 0;
      table_d = 3;
      on_c = record { kind = inr (inr (inl refl)); table = refl };
      on_d = record { kind = inr (inl refl); table = refl };
      apart = horses_sensors;
      accepted_c = refl;
      accepted_d = refl;
    }

yards_either : EitherOrder yards reached_area call_c call_d
yards_either = either_order yards reached_area call_c call_d yards_taken

-- ---- the conditions are needed

-- one family: the visit's horse must be there (20)
one_family :
    map (answers on_book yards)
    ((begin ∷ insert 0 0 0 (pos 5 ∷ []) ∷ insert 1 0 0 (pos 1 ∷ pos 5 ∷ []) ∷ [])
    ∷ (begin ∷ insert 1 0 0 (pos 1 ∷ pos 5 ∷ []) ∷ insert 0 0 0 (pos 5 ∷ []) ∷ [])
    ∷ [])
    ≡ (rows 0 ∷ rows 1 ∷ rows 1 ∷ []) ∷ (rows 0 ∷ (20, 0, pos 0) ∷ rows 1 ∷ []) ∷ []
unfolding on_book answers yards begin insert
one_family = refl

-- tables that are joined through another: a trim is moved to no visit, and stays when the horse goes, or goes with it and is not found
unfoldable moved_trim : List ℤ
unfolding update_where
moved_trim = update_where 2 0 2 (pos 1) 0 (pos 0)

through_another :
    map (answers on_book yards) ((before ++ (moved_trim ∷ call_c ∷ [])) ∷ (before ++ (call_c ∷ moved_trim ∷ [])) ∷ [])
    ≡ (started ++ (rows 1 ∷ rows 2 ∷ [])) ∷ (started ++ (rows 3 ∷ rows 0 ∷ [])) ∷ []
unfolding on_book answers yards before call_c moved_trim
through_another = refl

-- so the claim does not hold of them
through_no_claim : ¬ (EitherOrder yards reached_area moved_trim call_c)
unfolding on_area ran reached_area yards before call_c moved_trim shown number
through_no_claim h = omega (arith, ap (λ a. (shown a).1) h.answer_c)

-- no transaction: both are accepted in either order, but no record stays in use
unfoldable outside : List ℤ
unfolding insert
outside = end_of yards (fresh_words (schema_of yards)) (insert 0 0 0 (pos 5 ∷ []) ∷ [])

unfoldable alone_c : List ℤ
unfolding insert
alone_c = insert 0 1 0 (pos 6 ∷ [])

unfoldable alone_d : List ℤ
unfolding insert
alone_d = insert 3 0 0 (pos 7 ∷ [])

outside_accepted : show (on_area yards outside (alone_c ∷ alone_d ∷ [])).0 ≡ rows 1 ∷ rows 1 ∷ []
unfolding on_area ran show outside yards alone_c alone_d
outside_accepted = refl

-- so such an area is not taken, and the claim does not hold of it
outside_not_taken : ¬ (OneAfterOther yards outside alone_c alone_d)
unfolding on_area ran outside yards
outside_not_taken h = omega (arith, h.opened)

outside_no_records : ¬ (EitherOrder yards outside alone_c alone_d)
unfolding on_area ran outside yards alone_c alone_d shown
outside_no_records h = omega (arith, h.size_c, ap length h.used_first)

-- an area that no calls led to: a visit without its horse under an immediate key (the horse's row, word 333, is vacant; word 4 keeps an orphan). The horse mends it; without it a call on the other family is refused by 20
unfoldable orphaned : List ℤ
unfolding insert begin
orphaned = set (set (end_of yards (fresh_words (schema_of yards)) (insert 0 0 0 (pos 5 ∷ []) ∷ insert 1 0 0 (pos 1 ∷ pos 5 ∷ []) ∷ begin ∷ [])) 333 (pos 0)) 4 (pos 1)

unfoldable mending : List ℤ
unfolding insert
mending = insert 0 1 0 (pos 5 ∷ [])

not_reached : map (λ cs. show (on_area yards orphaned cs).0) ((mending ∷ alone_d ∷ []) ∷ (alone_d ∷ mending ∷ []) ∷ []) ≡ ((0, 1, negsuc 0) ∷ rows 1 ∷ []) ∷ ((20, 0, pos 0) ∷ (0, 1, negsuc 0) ∷ []) ∷ []
unfolding on_area ran show orphaned yards mending alone_d
not_reached = refl

-- ---- a foreign key that is broken joins nothing

-- horses, trims of a horse and of a sensor, and sensors, on which no unique key is drawn
unfoldable half_drawn : List ℕ
unfolding schema_bytes table_bytes key_bytes
half_drawn = schema_bytes 3 2 8 (table_bytes 2 1 1 1 ++ table_bytes 2 2 0 0 ++ table_bytes 2 1 1 0 ++ key_bytes 1 0 0 0 0 4 4 ++ key_bytes 1 1 2 0 0 4 4)

horses_from_sensors : Apart (schema_of half_drawn) 0 2
unfolding half_drawn schema_of list_from key_from is_broken has_parent_key unique_is column_rule column_mask all_from any_from Mem
horses_from_sensors = apart_by (schema_of half_drawn) (λ t. t / 2) stays (λ e. omega arith)
  where
    stays : (k : ForeignKey) → Mem k (schema_of half_drawn).keys → k.broken ≡ false → k.child / 2 ≡ k.parent / 2
    stays k (inl e) h = rw e refl
    stays k (inr (inl e)) h = absurd (true≢false (sym (ap (λ (k : ForeignKey). k.broken) e) ∙ h))
    stays k (inr (inr e)) h = absurd e

unfoldable half_before : List (List ℤ)
unfolding insert begin
half_before = insert 0 0 0 (pos 5 ∷ []) ∷ begin ∷ []

-- horses are renumbered, and a sensor is entered
unfoldable half_c : List ℤ
unfolding update_where
half_c = update_where 0 0 0 (pos 5) 0 (pos 6)

unfoldable half_d : List ℤ
unfolding insert
half_d = insert 2 0 0 (pos 8 ∷ [])

unfoldable half_area : List ℤ
half_area = end_of half_drawn (fresh_words (schema_of half_drawn)) half_before

half_drawn_taken : OneAfterOther half_drawn half_area half_c half_d
unfolding on_area ran half_area half_drawn half_before half_c half_d Mem
half_drawn_taken =
    record {
      reached = record { accepted = refl; calls = half_before; is = refl };
      opened = omega arith;
      table_c = 0;
      table_d = 2;
      on_c = record { kind = inr (inr (inr (inr (inl refl)))); table = refl };
      on_d = record { kind = inl refl; table = refl };
      apart = horses_from_sensors;
      accepted_c = refl;
      accepted_d = refl;
    }
