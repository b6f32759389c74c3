-- Two calls on tables of different families, accepted one after the other: what is claimed of the other order.
-- Assumes nothing.
use Rattle.std.specs.Prelude.{◌≡◌, true, List, [], ◌∷◌, ◌++◌, ℕ, ◌+◌, ◌*◌, ◌≤◌, ◌<◌, ℤ, pos, length, get_or, take, drop}
use Rattle.schema.specs.Records.{Schema}
use Rattle.schema.specs.Sizes.{rows_start, rows_size}
use Rattle.schema.specs.Fields.{schema_of}
use Rattle.schema.specs.ParentKey.{Mem}
use Rattle.rules.specs.Lists.{𝟘}
use Rattle.rules.specs.Values.{nat_of}
use Rattle.rules.specs.Refusals.{Answer, shown, accepted}
use Rattle.rules.specs.Step.{Logged}
use Rattle.rules.specs.Area.{AreaTurn}
use Rattle.rules.specs.Engine.{call_on, run_on}
use Rattle.laws.specs.Reached.{Reached}
use Rattle.families.specs.Families.{Apart, OnTable}

-- ---- the parts of an area

-- word 0, "open levels", and word 2, "journal records used"
abbrev pub open_levels : List ℤ → ℕ
open_levels area = nat_of (get_or area 0 𝟘)

abbrev pub records_used : List ℤ → ℕ
records_used area = nat_of (get_or area 2 𝟘)

-- where the journal begins: "Then the tables. .. Last, J journal records of 10 words"
abbrev pub journal_start : Schema → ℕ
journal_start s = rows_start + rows_size s.tables

-- words 0 to 3, the kept numbers, the levels, the tables
abbrev pub before_journal : Schema → List ℤ → List ℤ
before_journal s area = take (journal_start s) area

-- the words of the journal records in use, and those of the others
abbrev pub used_words : Schema → List ℤ → List ℤ
used_words s area = take (records_used area * 10) (drop (journal_start s) area)

abbrev pub spare_words : Schema → List ℤ → List ℤ
spare_words s area = drop (records_used area * 10) (drop (journal_start s) area)

-- "Only the journal records may stand otherwise.": those in use, and there are as many of them (word 2)
pub record SameButRecords (s : Schema) (x y : List ℤ) : Type 0 where
  pub before : before_journal s x ≡ before_journal s y
  pub spare : spare_words s x ≡ spare_words s y

-- two lists of calls with their answers, and the areas they end in: the same answers, and the same areas but for records in use; where no more than n are in use, the same in every word
pub record SameRuns (s : Schema) (n : ℕ) (x y : List Logged × List ℤ) : Type 0 where
  pub answers : x.0 ≡ y.0
  pub areas : SameButRecords s x.1 y.1
  pub every_word : records_used y.1 ≤ n → x.1 ≡ y.1

-- ---- the claim

-- a call of kind 7 or 8
abbrev pub Rollback : List ℤ → Type 0
Rollback call = Mem (get_or call 0 𝟘) (pos 7 ∷ pos 8 ∷ [])

-- "Rows changed"
abbrev pub changed_of : Answer → ℕ
changed_of a = (shown a).1

-- calls c and d from an area
module _ (bs : List ℕ) (area c d : List ℤ) where
  -- c, and then d
  abbrev pub first : AreaTurn
  first = call_on bs c area

  abbrev pub both : AreaTurn
  both = call_on bs d (call_on bs c area).1

  -- d, and then c
  abbrev pub other : AreaTurn
  other = call_on bs d area

  abbrev pub swapped : AreaTurn
  swapped = call_on bs c (call_on bs d area).1

  -- "Take two calls of kinds 1, 2, 3, 10 or 11 on different families, accepted one after the other in one open transaction, in an area reached from a fresh one."
  pub record OneAfterOther : Type 0 where
    pub reached : Reached bs area
    pub opened : 0 < open_levels area
    pub table_c : ℕ
    pub table_d : ℕ
    pub on_c : OnTable table_c c
    pub on_d : OnTable table_d d
    pub apart : Apart (schema_of bs) table_c table_d
    pub accepted_c : accepted first.0 ≡ true
    pub accepted_d : accepted both.0 ≡ true

  pub record EitherOrder : Type 0 where
    -- "in the other order both are accepted with the same answers"
    pub answer_c : swapped.0 ≡ first.0
    pub answer_d : other.0 ≡ both.0
    -- the same "rows and kept numbers"
    pub areas : SameButRecords (schema_of bs) swapped.1 both.1
    -- the records in use: those from before, then those of c and those of d, each the same in both orders
    pub records_c : List ℤ
    pub records_d : List ℤ
    pub size_c : length records_c ≡ changed_of first.0 * 10
    pub size_d : length records_d ≡ changed_of both.0 * 10
    pub used_first : used_words (schema_of bs) first.1 ≡ used_words (schema_of bs) area ++ records_c
    pub used_other : used_words (schema_of bs) other.1 ≡ used_words (schema_of bs) area ++ records_d
    pub used_both : used_words (schema_of bs) both.1 ≡ used_words (schema_of bs) area ++ (records_c ++ records_d)
    pub used_swapped : used_words (schema_of bs) swapped.1 ≡ used_words (schema_of bs) area ++ (records_d ++ records_c)
    -- "an accepted rollback to a level opened before both gives the same area", in every word, and the same answer; so does a rollback of the transaction. All levels that are open were opened before both
    pub rolled_back : (r : List ℤ) → Rollback r → accepted (call_on bs r both.1).0 ≡ true → call_on bs r swapped.1 ≡ call_on bs r both.1
    -- whatever calls follow: the same answers, and once no more records are in use than before both, as after the end of the transaction and after a later rollback to such a level, the same in every word
    pub later : (cs : List (List ℤ)) → SameRuns (schema_of bs) (records_used area) (run_on bs cs swapped.1) (run_on bs cs both.1)
