-- What an action makes of a child row, and what the walk over child rows is given.
-- Assumes nothing.
use Rattle.std.specs.Prelude.{◌≡◌, Bool, true, false, not, List, [], ℕ, ℤ, Ok, Err}
use Rattle.schema.specs.declared.Action.{Action}
use Rattle.schema.specs.declared.Action.TheVariants.{NoAction, Restrict, SetNull, SetDefault, Cascade}
use Rattle.schema.specs.Records.{ForeignKey, Schema, parent_key, key_of}
use Rattle.schema.specs.Fields.{schema_of}
use Rattle.rules.specs.Rows.{Row, deleted_image, live}
use Rattle.rules.specs.declared.Refusal.TheVariants.{Restricted}
use Rattle.rules.specs.Refusals.{Verdict}
use Rattle.rules.specs.Book.{Work}
use Rattle.rules.specs.Change.{Change, child_image, action_of, key_turn}
use Rattle.bridge.specs.Ready.{result_of}
use Rattle.rules.specs.Keys.{serves}
use Rattle.rules.specs.KeyValues.{key_values, has_old_key}
use Rattle.rows.specs.Standing.{RowsOf}
use Rattle.rows.specs.KeyColumns.{KeyColumns}
use Rattle.rows.specs.declared.KeyPairs.{KeyPairs}
use Rattle.rows.specs.Sought.{compared_values, SoughtIn}
use Rattle.change_parts.specs.declared.Followers.{Followers}

-- an action deletes the child row: CASCADE, where the parent row is deleted
unfoldable pub deletes_child : Action → Row → Bool
deletes_child NoAction new = false
deletes_child Restrict new = false
deletes_child SetNull new = false
deletes_child SetDefault new = false
deletes_child Cascade new = not (live new)

-- the image that an action gives the child row x
unfoldable pub action_image : Action → Schema → ForeignKey → Row → Row → Row
action_image a s k new x = elim (deletes_child a new) [ true ↦ deleted_image | false ↦ child_image a s k new x ]

-- the old parent key as plain values, as they are compared with a child row's
unfoldable pub old_key : ForeignKey → Row → List ℤ
old_key k old = compared_values k.folds (key_values (parent_key k) old)

-- the column pairs by which child rows are gone through
abbrev pub pairs_of : Followers → KeyPairs
pairs_of x = record { n = x.key.n; folded = x.key.folded; cs = x.key.cs; ps = x.ps }

-- what the child rows of foreign key k, which has no window, are gone through by, when the parent row becomes `new`; whatever
-- the old key is
pub record FollowersOf (b : List ℕ) (k : ℕ) (new : Row) (x : Followers) : Type 0 where
  pub columns : KeyColumns b k (pairs_of x)
  pub plain : (key_of (schema_of b) k).windows ≡ []
  pub sought : SoughtIn x.rows.width x.key
  pub table_is : x.table ≡ (key_of (schema_of b) k).child
  pub stand : RowsOf b x.table x.rows
  pub action_is : x.action ≡ action_of new (key_of (schema_of b) k)

-- no row that is live and has the old key, given by its values, maps to the parent row as it is now
pub record Unserved (k : ForeignKey) (vs : List ℤ) (new : Row) : Type 0 where
  pub none : (row : Row) → has_old_key k vs row ≡ true → serves k row new ≡ false

-- ---- keys with a window

-- RESTRICT refuses where the test holds
unfoldable pub restricted : Bool → Verdict
restricted true = Err Restricted
restricted false = Ok tt

-- the turn of foreign key k, which has a window, ends in this verdict and changes no row, whatever a row change is
pub record WindowTurn (s : Schema) (new : Row) (t : ℕ) (old : Row) (k : ForeignKey) (w : Work) (o : Verdict) : Type 0 where
  pub turn : (change : Change) → key_turn change s new t old k w ≡ result_of o w
