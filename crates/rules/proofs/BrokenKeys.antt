-- Worked examples of broken keys: what uses one is refused by 23, everything else goes on.
-- Assumes nothing.
use mathlib.Core.Path.{◌≡◌, refl}
use mathlib.Core.Bool.{Bool, true, false}
use mathlib.Core.List.{List, [], ◌∷◌, map}
use Prim.Native.Nat.{ℕ}
use lib.IntN.{pos}
use lib.ListN.{replicate}
use Rattle.schema.specs.Bytes.{bit}
use Rattle.schema.specs.Ranges.{all}
use Rattle.schema.specs.Records.{ForeignKey, Schema, child_key, unique_columns, parent_key}
use Rattle.schema.specs.declared.Action.TheVariants.{Cascade}
use Rattle.schema.specs.declared.Match.{Match}
use Rattle.schema.specs.declared.Match.TheVariants.{Simple, Full}
use Rattle.rules.specs.declared.Refusal.TheVariants.{JournalFull, BrokenKey, NotNull}
use Rattle.std.specs.Prelude.{Err}
use Rattle.rules.specs.Lists.{any, up_from}
use Rattle.rules.specs.Refusals.{failing}
use Rattle.rules.specs.Values.{nat_of, same_word, folded, same_value}
use Rattle.rules.specs.Rows.{Row, row_at, live_state, live, null_at, value_at}
use Rattle.rules.specs.Keys.{same_cell, same_key, full_key, half_key, maps_to, half_due, due, serves, orphan, same_parent, same_parent_key, fires, uses, uses_broken}
use Rattle.rules.specs.Book.{Work}
use Rattle.rules.specs.Change.{not_null_broken, admits}
use Rattle.rules.proofs.Inputs.{half_drawn, not_drawn, insert, update, delete, begin, commit, delete_where, update_where}
use Rattle.rules.proofs.Computed.{Turns, on_book, answers, answers_with}
use Rattle.rules.proofs.PaperCases.{Case, Hold, none, one, refused}

-- ---- the definitions on rows

-- a foreign key from table 1 to table 0, of a match, broken or not
abbrev tie : Match → Bool → ForeignKey
tie m b = record { child = 1; parent = 0; deferred = false; on_delete = Cascade; on_update = Cascade; child_columns = 0 ∷ 1 ∷ []; parent_columns = 0 ∷ 1 ∷ []; match = m; broken = b; folds = []; windows = [] }

abbrev vacant : Row
vacant = pos 0 ∷ pos 0 ∷ pos 0 ∷ []

abbrev full : Row
full = pos 256 ∷ pos 7 ∷ pos 8 ∷ []

abbrev half : Row
half = pos 257 ∷ pos 0 ∷ pos 8 ∷ []

-- "A broken key has no orphans", under either match: a full row and a half-filled one that nobody serves
pub orphans_of_broken : map (λ (k : ForeignKey). map (orphan k []) (full ∷ half ∷ [])) (tie Simple false ∷ tie Full false ∷ tie Simple true ∷ tie Full true ∷ [])
    ≡ (true ∷ false ∷ []) ∷ (true ∷ true ∷ []) ∷ (false ∷ false ∷ []) ∷ (false ∷ false ∷ []) ∷ []
unfolding orphan due half_due half_key full_key serves child_key maps_to same_key same_cell live live_state null_at value_at nat_of same_word folded same_value bit any all
orphans_of_broken = refl

-- an insert, an update and a deletion, in the parent table, in the child table and in another: which use a broken key
pub uses_of_broken : map (λ (t : ℕ). uses_broken full t vacant (tie Simple true) ∷ uses_broken full t full (tie Simple true) ∷ uses_broken vacant t full (tie Simple true) ∷ []) (0 ∷ 1 ∷ 2 ∷ [])
    ≡ (false ∷ true ∷ true ∷ []) ∷ (true ∷ true ∷ false ∷ []) ∷ replicate 3 false ∷ []
unfolding uses_broken uses live live_state nat_of
uses_of_broken = refl

-- a key that is not broken is used without harm; of a broken one no actions follow
pub whole_and_broken : map (λ (b : Bool). uses_broken full 1 vacant (tie Simple b) ∷ fires vacant 0 full (tie Simple b) ∷ []) (false ∷ true ∷ []) ≡ (false ∷ true ∷ []) ∷ (true ∷ false ∷ []) ∷ []
unfolding uses_broken uses fires unique_columns parent_key full_key same_parent same_parent_key same_key same_cell live live_state null_at value_at nat_of same_word folded same_value bit any
whole_and_broken = refl

-- ---- the order of the checks

-- a table of one NOT NULL column whose key names the table itself, broken or not
abbrev alone : Bool → Schema
alone b =
    record {
      tables = record { rows = 1; columns = 1; not_null = 1; uniques = replicate 4 0; default_null = 0; folded = 0; defaults = replicate 8 (pos 0) } ∷ [];
      keys = record { child = 0; parent = 0; deferred = true; on_delete = Cascade; on_update = Cascade; child_columns = 0 ∷ []; parent_columns = 0 ∷ []; match = Simple; broken = b; folds = []; windows = [] } ∷ [];
      room = 1;
    }

-- its row is vacant, and so many journal records are left
abbrev room : ℕ → Work
room n = record { tabs = (vacant ∷ []) ∷ []; used = []; spare = replicate n [] }

-- "it comes between 15 and 16"
pub checks_in_order : map (λ (n : ℕ). map (λ (b : Bool). admits (alone b) 0 0 half (room n)) (false ∷ true ∷ [])) (0 ∷ 1 ∷ [])
    ≡ (Err JournalFull ∷ Err JournalFull ∷ []) ∷ (Err NotNull ∷ Err BrokenKey ∷ []) ∷ []
unfolding admits failing not_null_broken uses_broken uses live live_state null_at nat_of row_at bit any up_from
checks_in_order = refl

-- ---- calls

unfoldable pub broken_keys : List Case
unfolding half_drawn not_drawn insert update delete begin commit delete_where update_where
broken_keys =
    -- horses and trims are entered while the readings' key is broken. A reading is not, not even without a trim: 23 before 16
    record {
      schema = half_drawn 4 8;
      sent =
          insert 0 0 0 (pos 5 ∷ [])
          ∷ insert 0 1 0 (pos 6 ∷ [])
          ∷ insert 1 0 0 (pos 21 ∷ pos 5 ∷ [])
          ∷ insert 2 0 0 (pos 21 ∷ [])
          ∷ insert 2 0 1 []
          ∷ update 0 1 0 (pos 7 ∷ [])
          ∷ delete 0 1
          ∷ [];
      answered = one ∷ one ∷ one ∷ refused 23 ∷ refused 23 ∷ one ∷ one ∷ [];
    }
    -- a trim, a parent row, is neither updated, though nothing is altered, nor deleted. A cascade that reaches it is refused, and all is put back
    ∷ record {
      schema = half_drawn 4 8;
      sent =
          insert 0 0 0 (pos 5 ∷ [])
          ∷ insert 1 0 0 (pos 21 ∷ pos 5 ∷ [])
          ∷ update 1 0 0 (pos 21 ∷ pos 5 ∷ [])
          ∷ delete 1 0
          ∷ delete 0 0
          ∷ update 0 0 0 (pos 7 ∷ [])
          ∷ insert 0 0 0 (pos 5 ∷ [])
          ∷ insert 1 0 0 (pos 21 ∷ pos 5 ∷ [])
          ∷ [];
      answered = one ∷ one ∷ refused 23 ∷ refused 23 ∷ refused 23 ∷ refused 23 ∷ refused 11 ∷ refused 11 ∷ [];
    }
    -- likewise SET NULL and SET DEFAULT; RESTRICT and NO ACTION change no trim
    ∷ record { schema = half_drawn 2 8; sent = insert 0 0 0 (pos 5 ∷ []) ∷ insert 1 0 0 (pos 21 ∷ pos 5 ∷ []) ∷ delete 0 0 ∷ []; answered = one ∷ one ∷ refused 23 ∷ [] }
    ∷ record { schema = half_drawn 3 8; sent = insert 0 0 0 (pos 5 ∷ []) ∷ insert 1 0 0 (pos 21 ∷ pos 5 ∷ []) ∷ delete 0 0 ∷ []; answered = one ∷ one ∷ refused 23 ∷ [] }
    ∷ record { schema = half_drawn 1 8; sent = insert 0 0 0 (pos 5 ∷ []) ∷ insert 1 0 0 (pos 21 ∷ pos 5 ∷ []) ∷ delete 0 0 ∷ []; answered = one ∷ one ∷ refused 18 ∷ [] }
    ∷ record { schema = half_drawn 0 8; sent = insert 0 0 0 (pos 5 ∷ []) ∷ insert 1 0 0 (pos 21 ∷ pos 5 ∷ []) ∷ begin ∷ delete 0 0 ∷ []; answered = one ∷ one ∷ none ∷ (0, 1, pos 1) ∷ [] }
    -- a deferred key puts nothing off. 15 comes before 23
    ∷ record { schema = half_drawn 4 1; sent = begin ∷ insert 2 0 0 (pos 21 ∷ []) ∷ insert 0 0 0 (pos 5 ∷ []) ∷ insert 2 0 0 (pos 21 ∷ []) ∷ commit ∷ []; answered = none ∷ refused 23 ∷ one ∷ refused 15 ∷ none ∷ [] }
    -- every row found is a row change: no row, no use
    ∷ record {
      schema = half_drawn 4 8;
      sent = insert 1 0 1 (pos 0 ∷ []) ∷ delete_where 1 0 0 (pos 22) ∷ insert 1 0 2 (pos 21 ∷ []) ∷ delete_where 1 0 0 (pos 22) ∷ delete_where 1 0 0 (pos 21) ∷ update_where 1 0 0 (pos 21) 0 (pos 22) ∷ delete_where 2 0 0 (pos 21) ∷ [];
      answered = refused 16 ∷ none ∷ one ∷ none ∷ refused 23 ∷ refused 23 ∷ none ∷ [];
    }
    -- a parent table and a parent column that are not drawn; of the second key the child is the parent too
    ∷ record {
      schema = not_drawn;
      sent = insert 0 0 0 (pos 5 ∷ []) ∷ delete 0 0 ∷ insert 1 0 0 (pos 5 ∷ []) ∷ insert 2 0 0 (pos 5 ∷ []) ∷ [];
      answered = one ∷ one ∷ refused 23 ∷ refused 23 ∷ [];
    }
    ∷ []

pub broken_keys_lem : Hold on_book broken_keys
unfolding on_book answers broken_keys
broken_keys_lem = refl

-- ---- in areas that no calls led to

-- a reading is there (word 343 is the state of row 0): no orphan, it can be deleted and not updated
abbrev pub ChildDeleted : Turns → Type 0
ChildDeleted turns = answers_with turns (half_drawn 4 8) 343 (pos 256) (update 2 0 0 (pos 5 ∷ []) ∷ delete 2 0 ∷ delete 2 0 ∷ []) ≡ refused 23 ∷ one ∷ refused 11 ∷ []

pub child_deleted : ChildDeleted on_book
unfolding on_book answers_with half_drawn update delete
child_deleted = refl

-- the broken key's kept number is 1: judged like any other, by 20 and by 21
abbrev pub KeptJudged : Turns → Type 0
KeptJudged turns = answers_with turns (half_drawn 4 8) 5 (pos 1) (insert 0 0 0 (pos 5 ∷ []) ∷ begin ∷ insert 0 0 0 (pos 5 ∷ []) ∷ commit ∷ []) ≡ refused 20 ∷ none ∷ one ∷ refused 21 ∷ []

pub kept_judged : KeptJudged on_book
unfolding on_book answers_with half_drawn insert begin commit
kept_judged = refl
