-- A field that was read at its place is the field of the schema, and within its bounds. Assumes nothing.
use mathlib.Core.Path.{◌≡◌, refl, sym, ap, ◌∙◌}
use mathlib.Core.Bool.{Bool, true, false, not, cond, ◌&&◌}
use mathlib.Core.List.{List, [], ◌∷◌}
use mathlib.Core.Logic.{◌⊎◌, inl, inr}
use Prim.Native.Nat.{ℕ, zero, suc, ◌+◌, ◌-◌, ◌<◌, ◌≤◌}
use native.Mathlib.Nat.{zero-add}
use native.Mathlib.Omega.{arith}
use borrow.Author.Tests.{ltb-true, eqb-true, eq-eqb, ne_false}
use lib.Count.{ones}
use lib.Dec.{ltb, eqb}
use lib.IntN.{ℤ, pos}
use lib.ListN.{length, get_or, take, drop}
use lib.Seq.{get_or-take}
use Rattle.schema.specs.declared.Action.{Action}
use Rattle.schema.specs.declared.Action.TheVariants.{NoAction, Restrict}
use Rattle.schema.specs.declared.Match.{Match}
use Rattle.schema.specs.Check.{Accepted}
use Rattle.schema.specs.Ranges.{all_from, any_from, list_from}
use Rattle.schema.specs.Bounds.{Within, Columns}
use Rattle.schema.specs.Records.{Table, Window, ForeignKey, child_key, unique_columns, table_of, key_of}
use Rattle.schema.specs.Bytes
use Rattle.schema.specs.Bytes.{column_mask}
use Rattle.schema.specs.Fields
use Rattle.schema.specs.Fields.{table_from, key_from, schema_of}
use Rattle.schema.specs.Check
use Rattle.schema.proofs.RangeLaws.{and_left, all_at, any_same}
use Rattle.schema.proofs.Formed.{formed, Sizes, Codes}
use Rattle.schema.proofs.CheckLaws.{parent_no}
use Rattle.schema.proofs.ListLaws.{length_from, get_list}
use Rattle.schema.proofs.SchemaLaws.{tables_are, keys_are, room_is, table_is, key_is, accepted_formed}
use Rattle.schema.proofs.KeyLaws.{any_some, unique_byte, parent_distinct, parent_rest, child_key_is, unique_columns_are, parent_key, parent_below, has_end}
use Rattle.schema.proofs.MaskLaws.{mask_ones}

pub byte_assoc : (bs : List ℕ) (a b i : ℕ) → Bytes.byte bs (a + (b + i)) ≡ Bytes.byte bs (a + b + i)
byte_assoc bs a b i = let e : a + (b + i) ≡ a + b + i = omega arith in ap (Bytes.byte bs) e

pub byte_zero : (bs : List ℕ) (a : ℕ) → Bytes.byte bs (a + 0) ≡ Bytes.byte bs a
byte_zero bs a = let e : a + 0 ≡ a = omega arith in ap (Bytes.byte bs) e

-- the first n of four columns
first_columns : (f : ℕ → ℕ) (n : ℕ) → n ≤ 4 → take n (f 0 ∷ f 1 ∷ f 2 ∷ f 3 ∷ 0 ∷ 0 ∷ 0 ∷ 0 ∷ []) ≡ list_from f n 0
unfolding list_from
first_columns f zero h = refl
first_columns f (suc zero) h = refl
first_columns f (suc (suc zero)) h = refl
first_columns f (suc (suc (suc zero))) h = refl
first_columns f (suc (suc (suc (suc zero)))) h = refl
first_columns f (suc (suc (suc (suc (suc n))))) h = absurd (omega arith)

columns_are : (bs : List ℕ) (p n w : ℕ) {cs r : List ℕ} → n ≤ 4 → cs ≡ list_from (λ i. Bytes.byte bs (p + i)) n 0 → ((i : ℕ) → i < n → get_or cs i 0 < w) → r ≡ Bytes.four bs p → (take n r ≡ cs) × Columns (suc w) n r
columns_are bs p n w {cs} {r} h e below q =
    let t : take n r ≡ cs = ap (take n) (q ∙ ap (λ (x : ℕ). x ∷ drop 1 (Bytes.four bs p)) (sym (byte_zero bs p))) ∙ first_columns (λ i. Bytes.byte bs (p + i)) n h ∙ sym e in (
      t,
      record {
        few = omega arith;
        size = ap length q;
        within = λ i l. let g : get_or r i 0 ≡ get_or cs i 0 = sym (get_or-take n r i 0 l) ∙ ap (λ (x : List ℕ). get_or x i 0) t in omega (arith, below i l);
      },
    )

-- an action code below 2
low_action : (c : ℕ) → c < 2 → {a : Action} → Fields.action_from c ≡ a → (a ≡ NoAction) ⊎ (a ≡ Restrict)
unfolding Fields.action_from
low_action zero l e = inl (sym e)
low_action (suc zero) l e = inr (sym e)
low_action (suc (suc c)) l e = absurd (omega arith)

module _ (bs : List ℕ) (acc : Check.check_schema bs ≡ Accepted) where
  w : Check.well_formed bs ≡ true
  w = accepted_formed bs acc

  -- the header is within the bytes
  pub header_within : 16 ≤ length bs
  header_within = omega (arith, (formed bs w).header)

  pub count_tables : {r : ℕ} → r ≡ Fields.table_count bs → (r ≡ length (schema_of bs).tables) × Within 1 16 r
  count_tables e = (e ∙ sym (tables_are bs), rw e (formed bs w).header.tables)

  pub count_keys : {r : ℕ} → r ≡ Fields.key_count bs → (r ≡ length (schema_of bs).keys) × (r ≤ 32)
  count_keys e = (e ∙ sym (keys_are bs), rw e (formed bs w).header.keys)

  pub read_room : {r : ℕ} → r ≡ Fields.room_of bs → (r ≡ (schema_of bs).room) × Within 1 4096 r
  read_room e = (e ∙ sym (room_is bs), rw e (formed bs w).header.room)

  pub tables_few : length (schema_of bs).tables ≤ 16
  tables_few = (count_tables (tables_are bs)).1.high

  pub room_few : (schema_of bs).room ≤ 4096
  room_few = (read_room (room_is bs)).1.high

  module _ (t : ℕ) (h : t < length (schema_of bs).tables) where
    -- the record of table t is within the bytes
    pub table_within : Fields.table_start t + 80 ≤ length bs
    table_within = omega (arith, (formed bs w).header, tables_are bs)

    size_here : Sizes bs t
    size_here = ((formed bs w).table t (omega (arith, tables_are bs))).sizes

    pub read_rows : {r : ℕ} → r ≡ Fields.rows_of bs t → (r ≡ (table_of (schema_of bs) t).rows) × Within 1 1024 r
    unfolding table_from
    read_rows e = (e ∙ sym (ap (λ (x : Table). x.rows) (table_is bs t h)), rw e size_here.rows)

    pub read_columns : {r : ℕ} → r ≡ Fields.columns_of bs t → (r ≡ (table_of (schema_of bs) t).columns) × Within 1 8 r
    unfolding table_from
    read_columns e = (e ∙ sym (ap (λ (x : Table). x.columns) (table_is bs t h)), rw e size_here.columns)

    pub columns_few : (table_of (schema_of bs) t).columns ≤ 8
    columns_few = let q = read_columns refl in omega (arith, q.0, q.1)

    pub read_not_null : {r : ℕ} → r ≡ Fields.not_null_of bs t → r ≡ (table_of (schema_of bs) t).not_null
    unfolding table_from
    read_not_null e = e ∙ sym (ap (λ (x : Table). x.not_null) (table_is bs t h))

    pub read_default_null : {r : ℕ} → r ≡ Fields.default_null_of bs t → r ≡ (table_of (schema_of bs) t).default_null
    unfolding table_from
    read_default_null e = e ∙ sym (ap (λ (x : Table). x.default_null) (table_is bs t h))

    pub read_folded : {r : ℕ} → r ≡ Fields.folded_of bs t → r ≡ (table_of (schema_of bs) t).folded
    unfolding table_from
    read_folded e = e ∙ sym (ap (λ (x : Table). x.folded) (table_is bs t h))

    pub read_default : (c : ℕ) → c < 8 → {r : ℤ} → r ≡ Fields.default_of bs t c → r ≡ get_or (table_of (schema_of bs) t).defaults c (pos 0)
    unfolding table_from
    read_default c l e = e ∙ sym (ap (λ (x : Table). get_or x.defaults c (pos 0)) (table_is bs t h) ∙ get_list (Fields.default_of bs t) 8 c (pos 0) l)

    pub read_unique : (i : ℕ) → i < 4 → {r : ℕ} → r ≡ Fields.unique_of bs t i → r ≡ get_or (table_of (schema_of bs) t).uniques i 0
    unfolding table_from
    read_unique i l e = e ∙ sym (ap (λ (x : Table). get_or x.uniques i 0) (table_is bs t h) ∙ get_list (Fields.unique_of bs t) 4 i 0 l)

  module _ (k : ℕ) (h : k < length (schema_of bs).keys) where
    -- the record of foreign key k is within the bytes
    pub key_within : Fields.key_start bs k + 16 ≤ length bs
    key_within = omega (arith, (formed bs w).header, keys_are bs)

    codes_here : Codes bs k
    codes_here = ((formed bs w).key k (omega (arith, keys_are bs))).codes

    child_key_lem : child_key (key_of (schema_of bs) k) ≡ list_from (Fields.child_column_of bs k) (Fields.width_of bs k) 0
    child_key_lem = ap child_key (key_is bs k h) ∙ child_key_is bs k codes_here

    unique_columns_lem : unique_columns (key_of (schema_of bs) k) ≡ list_from (Fields.parent_column_of bs k) (Fields.width_of bs k) 0
    unique_columns_lem = ap unique_columns (key_is bs k h) ∙ unique_columns_are bs k codes_here

    width_is : length (child_key (key_of (schema_of bs) k)) ≡ Fields.width_of bs k
    width_is = ap length child_key_lem ∙ length_from (Fields.child_column_of bs k) (Fields.width_of bs k) 0

    pub read_child : {r : ℕ} → r ≡ Fields.child_of bs k → (r ≡ (key_of (schema_of bs) k).child) × (r < length (schema_of bs).tables)
    unfolding key_from
    read_child e = (e ∙ sym (ap (λ (x : ForeignKey). x.child) (key_is bs k h)), omega (arith, codes_here.child, tables_are bs))

    pub read_parent : {r : ℕ} → r ≡ Fields.parent_of bs k → r ≡ (key_of (schema_of bs) k).parent
    unfolding key_from
    read_parent e = e ∙ sym (ap (λ (x : ForeignKey). x.parent) (key_is bs k h))

    pub read_broken : {r : Bool} → r ≡ Fields.is_broken bs k → r ≡ (key_of (schema_of bs) k).broken
    unfolding key_from
    read_broken e = e ∙ sym (ap (λ (x : ForeignKey). x.broken) (key_is bs k h))

    -- where the parent table is not there
    pub broken_table : Fields.table_count bs ≤ Fields.parent_of bs k → true ≡ (key_of (schema_of bs) k).broken
    unfolding Fields.is_broken
    broken_table l = read_broken (ap (λ (a : Bool). not (a && Fields.has_end bs k)) (parent_no bs k l))

    -- or where the mask of the parent columns is no byte, so that no unique key is it
    pub broken_wide : Fields.parent_of bs k < Fields.table_count bs → 256 ≤ column_mask (Fields.parent_column_of bs k) (Fields.width_of bs k) → true ≡ (key_of (schema_of bs) k).broken
    unfolding Fields.is_broken Fields.unique_is any_from
    broken_wide l wide =
        let f = formed bs w in
        let apart : (i : ℕ) → i < 4 → false ≡ eqb (Fields.unique_of bs (Fields.parent_of bs k) i) (column_mask (Fields.parent_column_of bs k) (Fields.width_of bs k)) =
        λ i g. let u = unique_byte bs f (Fields.parent_of bs k) l i g in ne_false _ _ (λ e. omega arith) in
        read_broken
        (ap (λ (a : Bool). not (a && Fields.has_end bs k))
        (any_same (λ i. false) (Fields.unique_is bs k) 4 0 (λ i g. apart i (omega arith))
        ∙ sym (parent_rest bs f k l)))

    -- else by that mask, and by the end of its window
    pub broken_mask : Fields.parent_of bs k < Fields.table_count bs → {m : ℕ} → m ≡ column_mask (Fields.parent_column_of bs k) (Fields.width_of bs k) → not (any_from (λ i. eqb (Fields.unique_of bs (Fields.parent_of bs k) i) m) 4 0 && Fields.has_end bs k) ≡ (key_of (schema_of bs) k).broken
    unfolding Fields.is_broken Fields.unique_is
    broken_mask l e =
        read_broken
        (ap (λ (a : Bool). not (a && Fields.has_end bs k))
        (ap (λ (x : ℕ). any_from (λ i. eqb (Fields.unique_of bs (Fields.parent_of bs k) i) x) 4 0) e ∙ sym (parent_rest bs (formed bs w) k l)))

    -- or by a number that no byte tells from that mask
    pub broken_by_bytes : (m : ℕ) → Fields.parent_of bs k < Fields.table_count bs → ((u : ℕ) → u < 256 → eqb u m ≡ eqb u (column_mask (Fields.parent_column_of bs k) (Fields.width_of bs k))) → not (any_from (λ i. eqb (Fields.unique_of bs (Fields.parent_of bs k) i) m) 4 0 && Fields.has_end bs k) ≡ (key_of (schema_of bs) k).broken
    unfolding Fields.is_broken Fields.unique_is
    broken_by_bytes m l e =
        let f = formed bs w in
        read_broken
        (ap (λ (a : Bool). not (a && Fields.has_end bs k))
        (any_same _ (Fields.unique_is bs k) 4 0 (λ i g. e (Fields.unique_of bs (Fields.parent_of bs k) i) (unique_byte bs f (Fields.parent_of bs k) l i (omega arith)))
        ∙ sym (parent_rest bs f k l)))

    -- and the mask has as many ones as there are columns
    pub parent_ones : ones (column_mask (Fields.parent_column_of bs k) (Fields.width_of bs k)) ≡ length (child_key (key_of (schema_of bs) k))
    parent_ones =
        mask_ones (Fields.parent_column_of bs k) (Fields.width_of bs k) (parent_distinct bs (formed bs w) k (omega (arith, keys_are bs))) ∙ sym width_is

    -- a byte that is a number that no byte tells from the mask has as many
    pub ones_by_bytes : (m : ℕ) → ((u : ℕ) → u < 256 → eqb u m ≡ eqb u (column_mask (Fields.parent_column_of bs k) (Fields.width_of bs k))) → (u : ℕ) → u < 256 → u ≡ m → ones u ≡ length (child_key (key_of (schema_of bs) k))
    ones_by_bytes m e u l q =
        let is : u ≡ column_mask (Fields.parent_column_of bs k) (Fields.width_of bs k) = eqb-true _ _ (sym (e u l) ∙ eq-eqb u m q) in
        ap ones is ∙ parent_ones

    -- such a number that is a unique key of the parent table is the mask
    pub parent_mask_is : (m : ℕ) → Fields.parent_of bs k < Fields.table_count bs → ((u : ℕ) → u < 256 → eqb u m ≡ eqb u (column_mask (Fields.parent_column_of bs k) (Fields.width_of bs k))) → any_from (λ i. eqb (Fields.unique_of bs (Fields.parent_of bs k) i) m) 4 0 ≡ true → m ≡ column_mask (Fields.parent_column_of bs k) (Fields.width_of bs k)
    parent_mask_is m l e a =
        let s = any_some (λ i. eqb (Fields.unique_of bs (Fields.parent_of bs k) i) m) 4 0 a in
        let u : ℕ = Fields.unique_of bs (Fields.parent_of bs k) s.place in
        let is : u ≡ m = eqb-true _ _ s.passes in
        let b : u < 256 = unique_byte bs (formed bs w) (Fields.parent_of bs k) l s.place (omega (arith, s.below)) in
        sym is ∙ eqb-true _ _ (sym (e u b) ∙ eq-eqb u m is)

    pub read_deferred : {r : Bool} → r ≡ eqb (Fields.deferred_of bs k) 1 → r ≡ (key_of (schema_of bs) k).deferred
    unfolding key_from
    read_deferred e = e ∙ sym (ap (λ (x : ForeignKey). x.deferred) (key_is bs k h))

    pub read_on_delete : {r : Action} → r ≡ Fields.action_from (Fields.on_delete_of bs k) → r ≡ (key_of (schema_of bs) k).on_delete
    unfolding key_from
    read_on_delete e = e ∙ sym (ap (λ (x : ForeignKey). x.on_delete) (key_is bs k h))

    pub read_on_update : {r : Action} → r ≡ Fields.action_from (Fields.on_update_of bs k) → r ≡ (key_of (schema_of bs) k).on_update
    unfolding key_from
    read_on_update e = e ∙ sym (ap (λ (x : ForeignKey). x.on_update) (key_is bs k h))

    pub read_match : {r : Match} → r ≡ Fields.match_from (Fields.match_of bs k) → r ≡ (key_of (schema_of bs) k).match
    unfolding key_from
    read_match e = e ∙ sym (ap (λ (x : ForeignKey). x.match) (key_is bs k h))

    -- a key that is not broken compares its pairs as the parent table marks their columns
    pub folds_are : (key_of (schema_of bs) k).broken ≡ false → (key_of (schema_of bs) k).folds ≡ Bytes.folds_of (table_of (schema_of bs) (key_of (schema_of bs) k).parent).folded (key_of (schema_of bs) k).parent_columns
    unfolding key_from table_from Fields.key_folds
    folds_are u =
        let there : Fields.parent_of bs k < length (schema_of bs).tables = rw (key_is bs k h) at (parent_key bs acc k h u).there in
        rw (key_is bs k h, table_is bs (Fields.parent_of bs k) there) refl

    -- as many parent columns as child columns
    pub same_width : length (key_of (schema_of bs) k).parent_columns ≡ length (key_of (schema_of bs) k).child_columns
    unfolding key_from
    same_width =
        ap (λ (x : ForeignKey). length x.parent_columns) (key_is bs k h)
        ∙ length_from (Fields.parent_column_of bs k) (Fields.pairs_of bs k) 0
        ∙ sym (length_from (Fields.child_column_of bs k) (Fields.pairs_of bs k) 0)
        ∙ sym (ap (λ (x : ForeignKey). length x.child_columns) (key_is bs k h))

    pub read_width : {r : ℕ} → r ≡ Fields.width_of bs k → (r ≡ length (child_key (key_of (schema_of bs) k))) × Within 1 4 r
    read_width e = (e ∙ sym width_is, rw e codes_here.width)

    -- one pair or more is beside the window
    pub pairs_some : 1 ≤ length (key_of (schema_of bs) k).child_columns
    unfolding key_from
    pairs_some = omega (arith, ap (λ (x : ForeignKey). length x.child_columns) (key_is bs k h), length_from (Fields.child_column_of bs k) (Fields.pairs_of bs k) 0, codes_here.pairs)

    windows_are : (key_of (schema_of bs) k).windows ≡ cond (eqb (Fields.windowed_of bs k) 1) (record { day = Fields.day_of bs k; first = Fields.first_of bs k } ∷ []) []
    unfolding key_from Fields.key_windows
    windows_are = ap (λ (x : ForeignKey). x.windows) (key_is bs k h)

    pub read_windows : {r : ℕ} → r ≡ Fields.windowed_of bs k → (r ≡ length (key_of (schema_of bs) k).windows) × (r ≤ 1)
    read_windows e = (e ∙ by (Fields.windowed_of bs k) codes_here.windowed ∙ sym (ap length windows_are), omega (arith, codes_here.windowed))
      where
        by : (n : ℕ) → n ≤ 1 → n ≡ length {A = Window} (cond (eqb n 1) (record { day = Fields.day_of bs k; first = Fields.first_of bs k } ∷ []) [])
        by zero l = refl
        by (suc zero) l = refl
        by (suc (suc n)) l = absurd (omega arith)

    -- a windowed key takes no action, or refuses
    pub window_actions : length (key_of (schema_of bs) k).windows ≡ 1
        → (((key_of (schema_of bs) k).on_delete ≡ NoAction) ⊎ ((key_of (schema_of bs) k).on_delete ≡ Restrict)) × (((key_of (schema_of bs) k).on_update ≡ NoAction) ⊎ ((key_of (schema_of bs) k).on_update ≡ Restrict))
    window_actions one =
        let low = codes_here.low ((read_windows refl).0 ∙ one) in
        (low_action (Fields.on_delete_of bs k) low.0 (read_on_delete refl), low_action (Fields.on_update_of bs k) low.1 (read_on_update refl))

    -- the end's column is the one behind the last parent column
    pub read_end : (n : ℕ) → n ≡ length (child_key (key_of (schema_of bs) k)) → {r : ℕ} → r ≡ Bytes.byte bs (Fields.key_start bs k + (9 + n)) → r + 1 ≡ Fields.end_of bs k
    read_end n q e =
        let at : Fields.key_start bs k + (9 + n) ≡ Fields.key_start bs k + 10 + (Fields.width_of bs k - 1) = omega (arith, q, width_is, codes_here.width.low) in
        rw (e, at) (omega arith)

    module _ (i : ℕ) (l : i < Fields.width_of bs k) where
      below : Fields.child_column_of bs k i < Fields.columns_of bs (Fields.child_of bs k)
      unfolding Fields.column_rule
      below =
          let f = ((formed bs w).key k (omega (arith, keys_are bs))).child_columns in
          ltb-true _ _
          (rw (zero-add i) at
          (all_at (Fields.column_rule bs (Fields.key_start bs k + 6) (Fields.columns_of bs (Fields.child_of bs k))) (Fields.width_of bs k) 0 f i l))

      child_column_below : Fields.child_column_of bs k i < (table_of (schema_of bs) (key_of (schema_of bs) k).child).columns
      unfolding key_from table_from
      child_column_below =
          let t = table_is bs (Fields.child_of bs k) (omega (arith, codes_here.child, tables_are bs)) in
          rw (key_is bs k h, t) below

      -- a key that is not broken has its parent columns in the parent table
      parent_column_below : (key_of (schema_of bs) k).broken ≡ false → Fields.parent_column_of bs k i < (table_of (schema_of bs) (key_of (schema_of bs) k).parent).columns
      unfolding key_from table_from
      parent_column_below u =
          let there : Fields.parent_of bs k < length (schema_of bs).tables = rw (key_is bs k h) at (parent_key bs acc k h u).there in
          rw (key_is bs k h, table_is bs (Fields.parent_of bs k) there) (parent_below bs acc k h u i l)

    -- and the end of its window
    end_below : (key_of (schema_of bs) k).broken ≡ false → Fields.windowed_of bs k ≡ 1 → Fields.end_of bs k < (table_of (schema_of bs) (key_of (schema_of bs) k).parent).columns
    unfolding key_from table_from Fields.has_end
    end_below u e =
        let there : Fields.parent_of bs k < length (schema_of bs).tables = rw (key_is bs k h) at (parent_key bs acc k h u).there in
        let r : ltb (Fields.end_of bs k) (Fields.columns_of bs (Fields.parent_of bs k)) && all_from (Fields.not_end bs k) (Fields.width_of bs k) 0 ≡ true = rw e at (has_end bs acc k h u) in
        rw (key_is bs k h, table_is bs (Fields.parent_of bs k) there)
        (ltb-true _ _ (and_left (ltb (Fields.end_of bs k) (Fields.columns_of bs (Fields.parent_of bs k))) (all_from (Fields.not_end bs k) (Fields.width_of bs k) 0) r))

    -- all columns, zeros behind them
    pub read_child_columns : {r : List ℕ} → r ≡ Bytes.four bs (Fields.key_start bs k + 6) → (take (length (child_key (key_of (schema_of bs) k))) r ≡ child_key (key_of (schema_of bs) k)) × Columns (suc (table_of (schema_of bs) (key_of (schema_of bs) k).child).columns) (length (child_key (key_of (schema_of bs) k))) r
    read_child_columns e =
        rw width_is
        (columns_are bs (Fields.key_start bs k + 6) _ _ codes_here.width.high child_key_lem
        (λ i l. rw (child_key_lem, get_list (Fields.child_column_of bs k) (Fields.width_of bs k) i 0 l) (child_column_below i l))
        e)

    pub read_parent_columns : (key_of (schema_of bs) k).broken ≡ false → {r : List ℕ} → r ≡ Bytes.four bs (Fields.key_start bs k + 10) → (take (length (unique_columns (key_of (schema_of bs) k))) r ≡ unique_columns (key_of (schema_of bs) k)) × Columns (suc (table_of (schema_of bs) (key_of (schema_of bs) k).parent).columns) (length (unique_columns (key_of (schema_of bs) k))) r
    read_parent_columns u e =
        let long : length (unique_columns (key_of (schema_of bs) k)) ≡ Fields.width_of bs k = ap length unique_columns_lem ∙ length_from (Fields.parent_column_of bs k) (Fields.width_of bs k) 0 in
        rw long
        (columns_are bs (Fields.key_start bs k + 10) _ _ codes_here.width.high unique_columns_lem
        (λ i l. rw (unique_columns_lem, get_list (Fields.parent_column_of bs k) (Fields.width_of bs k) i 0 l) (parent_column_below i l u))
        e)

    -- the window of a key that is not broken: its day is in the child table, its end in the parent table
    pub window_below : (key_of (schema_of bs) k).broken ≡ false → (w : Window) → (key_of (schema_of bs) k).windows ≡ w ∷ [] → (w.day < (table_of (schema_of bs) (key_of (schema_of bs) k).child).columns) × (suc w.first < (table_of (schema_of bs) (key_of (schema_of bs) k).parent).columns)
    window_below u w e =
        let one : Fields.windowed_of bs k ≡ 1 = (read_windows refl).0 ∙ ap length e in
        let is : record { day = Fields.day_of bs k; first = Fields.first_of bs k } ∷ [] ≡ w ∷ [] = ap (λ (n : ℕ). cond (eqb n 1) (record { day = Fields.day_of bs k; first = Fields.first_of bs k } ∷ []) []) (sym one) ∙ sym windows_are ∙ e in
        let day : Fields.day_of bs k ≡ w.day = ap (λ (l : List Window). days l) is in
        let first : Fields.first_of bs k ≡ w.first = ap (λ (l : List Window). firsts l) is in
        (rw (← day) (child_column_below (Fields.width_of bs k - 1) (omega (arith, codes_here.width))), rw (← first) (end_below u one))
      where
        days : List Window → ℕ
        days [] = 0
        days (w ∷ ws) = w.day

        firsts : List Window → ℕ
        firsts [] = 0
        firsts (w ∷ ws) = w.first
