-- A row change: "depth; journal room; NOT NULL; unique ..; the old words go to the journal and the row is written; then actions".
-- Assumes nothing.
use Rattle.std.specs.Prelude.{Bool, true, false, not, ◌&&◌, ◌||◌, List, [], ◌∷◌, ℕ, zero, suc, ◌+◌, ◌-◌, ◌^◌, eqb, ℤ, pos, length, get_or, set, Ok, Err}
use Rattle.std.specs.Int.Signed.{le_z}
use Rattle.schema.specs.Bytes.{bit, folds_of}
use Rattle.schema.specs.declared.Action.{Action}
use Rattle.schema.specs.declared.Action.TheVariants.{NoAction, Restrict, SetNull, SetDefault, Cascade}
use Rattle.schema.specs.Records.{Table, Window, ForeignKey, Schema, table_of, parent_key}
use Rattle.rules.specs.declared.Refusal.{Refusal}
use Rattle.rules.specs.declared.Refusal.TheVariants.{TooDeep, JournalFull, BrokenKey, NotNull, NotUnique, BadWindow, Restricted}
use Rattle.rules.specs.Lists.{𝟘, any, except, up_from}
use Rattle.rules.specs.Refusals.{Verdict, failing}
use Rattle.rules.specs.Rows.{Row, row_at, image, deleted_image, live, null_at, value_at, mask_of, normal}
use Rattle.rules.specs.Keys.{same_key, full_key, mask_columns, first_day, end_day, shares_day, serves, takes, same_parent, fires, uses_broken}
use Rattle.rules.specs.Book.{Work, write}

-- a statement goes on, or is refused; with what it has written so far
pub data Result : Type 0 where
  go : Work → Result
  stop : Refusal → Work → Result

unfoldable pub then : Result → (Work → Result) → Result
then (go w) k = k w
then (stop c w) k = stop c w

-- where the test holds, go on by k
unfoldable pub given : Bool → (Work → Result) → Work → Result
given true k w = k w
given false k w = go w

-- one row after the other
unfoldable pub in_turn : (ℕ → Work → Result) → List ℕ → Work → Result
in_turn turn [] w = go w
in_turn turn (i ∷ is) w = then (turn i w) (in_turn turn is)

-- one row changed at some depth: table, row, the new image
abbrev pub Change : Type 0
Change = ℕ → ℕ → Row → Work → Result

-- ---- the checks

unfoldable pub not_null_broken : Table → Row → Bool
not_null_broken t new = any (λ c. bit c t.not_null && null_at new c) (up_from 0 t.columns)

-- a row other than r is live and has the new row's key
unfoldable pub twice : List Bool → List ℕ → ℕ → Row → List Row → Bool
twice fs cs r new rows = any (λ x. live x && same_key fs cs cs x new) (except r rows)

-- the unique key of a mask is broken, in a table with these folded columns: not "no other live row equal, a key with NULL equals none". "Unique keys .. use their own column's marking"
unfoldable pub mask_broken : ℕ → ℕ → Row → List Row → ℕ → Bool
mask_broken folded r new rows m = not (eqb m 0) && (full_key (mask_columns m) new && twice (folds_of folded (mask_columns m)) (mask_columns m) r new rows)

unfoldable pub unique_broken : Table → ℕ → Row → List Row → Bool
unique_broken t r new rows = any (mask_broken t.folded r new rows) t.uniques

-- another live row has no NULL in its parent key, is "equal in the other key columns", and its window "shares a day" with the new row's
unfoldable pub clashes : ForeignKey → Row → Window → Row → Bool
clashes k new w x = full_key (parent_key k) x && (same_parent k new x && shares_day (first_day w x) (end_day w x) (first_day w new) (end_day w new))

-- the new row "has end ≤ first day, or its window shares a day with that of another live row"
unfoldable pub window_broken : ForeignKey → ℕ → Row → List Row → Window → Bool
window_broken k r new rows w = le_z (end_day w new) (first_day w new) || any (clashes k new w) (except r rows)

-- 24: "a written parent row of an unbroken windowed key"; "rows with NULL in any of these columns .. are passed over"
unfoldable pub bad_window : ℕ → ℕ → Row → List Row → ForeignKey → Bool
bad_window t r new rows k =
    (eqb k.parent t && not k.broken) && (full_key (parent_key k) new && any (window_broken k r new rows) k.windows)

-- 15, 23, 16, 17, 24, in this order: 23 "comes between 15 and 16", 24 "comes right after 17"; "a deletion passes" 16, 17 and 24
unfoldable pub admits : Schema → ℕ → ℕ → Row → Work → Verdict
admits s t r new w =
    failing (eqb (length w.spare) 0) JournalFull
    (failing (any (uses_broken new t (row_at t r w.tabs)) s.keys) BrokenKey
    (failing (live new && not_null_broken (table_of s t) new) NotNull
    (failing (live new && unique_broken (table_of s t) r new (get_or w.tabs t [])) NotUnique
    (failing (live new && any (bad_window t r new (get_or w.tabs t [])) s.keys) BadWindow (Ok tt)))))

unfoldable pub admitted : Verdict → (Work → Result) → Work → Result
admitted (Ok tt) k w = k w
admitted (Err c) k w = stop c w

-- ---- the image that an action gives a child row

-- bit c of a mask set or cleared
unfoldable pub flag : ℕ → Bool → ℕ → ℕ
flag c true m = elim (bit c m) [ true ↦ m | false ↦ m + 2 ^ c ]
flag c false m = elim (bit c m) [ true ↦ m - 2 ^ c | false ↦ m ]

-- another value, or NULL, in column c
unfoldable pub set_cell : ℕ → Bool → ℤ → Row → Row
set_cell c null v x = set (set x 0 (pos (256 + flag c null (mask_of x)))) (suc c) v

-- whether an action makes child column c, whose parent column is p, NULL; t is the child table, new the parent's new image
unfoldable pub fills_null : Action → Table → Row → ℕ → ℕ → Bool
fills_null NoAction t new c p = false
fills_null Restrict t new c p = false
fills_null SetNull t new c p = true
fills_null SetDefault t new c p = bit c t.default_null
fills_null Cascade t new c p = null_at new p

-- and the value that it gives
unfoldable pub filler : Action → Table → Row → ℕ → ℕ → ℤ
filler NoAction t new c p = 𝟘
filler Restrict t new c p = 𝟘
filler SetNull t new c p = 𝟘
filler SetDefault t new c p = get_or t.defaults c 𝟘
filler Cascade t new c p = value_at new p

unfoldable pub refilled : Action → Table → Row → List ℕ → List ℕ → Row → Row
refilled a t new [] ps x = x
refilled a t new (c ∷ cs) [] x = x
refilled a t new (c ∷ cs) (p ∷ ps) x = refilled a t new cs ps (set_cell c (fills_null a t new c p) (filler a t new c p) x)

-- the child row x with its child key filled anew
unfoldable pub child_image : Action → Schema → ForeignKey → Row → Row → Row
child_image a s k new x =
    normal (table_of s k.child).columns (refilled a (table_of s k.child) new k.child_columns k.parent_columns x)

-- "CASCADE deletes the child, or gives it the new key of this same change."
unfoldable pub cascaded : Schema → ForeignKey → Row → Row → Row
cascaded s k new x = elim (live new) [ true ↦ child_image Cascade s k new x | false ↦ deleted_image ]

-- ---- the actions

unfoldable pub action_of : Row → ForeignKey → Action
action_of new k = elim (live new) [ true ↦ k.on_update | false ↦ k.on_delete ]

-- `change` is a row change one level deeper; `new` the parent's new image
module _ (change : Change) (s : Schema) (new : Row) where
  -- "NO ACTION takes none. RESTRICT refuses at the first. SET NULL and SET DEFAULT update the child key."
  -- "RESTRICT refuses an update only where a child so taken doesn't map to the row this change wrote": without a window none does
  unfoldable pub taken : Action → ForeignKey → ℕ → Row → Work → Result
  taken NoAction k i x w = go w
  taken Restrict k i x w = given (not (serves k x new)) (stop Restricted) w
  taken SetNull k i x w = change k.child i (child_image SetNull s k new x) w
  taken SetDefault k i x w = change k.child i (child_image SetDefault s k new x) w
  taken Cascade k i x w = change k.child i (cascaded s k new x) w

  unfoldable pub row_turn : ForeignKey → Row → ℕ → Work → Result
  row_turn k old i w = given (takes k old (row_at k.child i w.tabs)) (taken (action_of new k) k i (image k.child i w.tabs)) w

  -- "child rows go by rising number"
  unfoldable pub children : ForeignKey → Row → List ℕ → Work → Result
  children k old = in_turn (row_turn k old)

  unfoldable pub key_turn : ℕ → Row → ForeignKey → Work → Result
  key_turn t old k w = given (fires new t old k) (children k old (up_from 0 (table_of s k.child).rows)) w

  -- "Foreign keys go by number."
  unfoldable pub actions : ℕ → Row → List ForeignKey → Work → Result
  actions t old [] w = go w
  actions t old (k ∷ ks) w = then (key_turn t old k w) (actions t old ks)

-- ---- the row change, with so many levels left under depth 17

unfoldable pub change : ℕ → Schema → Change
change zero s t r new w = stop TooDeep w
change (suc levels) s t r new w =
    admitted (admits s t r new w) (λ w. actions (change levels s) s new t (image t r w.tabs) s.keys (write t r new w)) w
