-- The orphan list: "Into a lent list of records (foreign key, child row) go all orphans counted from the rows, each once; records past them keep what they held." "It shall go by foreign key number, then by rising child row."
-- Assumes nothing.
use Rattle.std.specs.Prelude.{Bool, true, false, ◌&&◌, ◌||◌, List, [], ◌∷◌, ◌++◌, ℕ, suc, ◌+◌, ltb, eqb, ℤ, pos, length, get_or, drop, Ok, Err}
use Rattle.schema.specs.Ranges.{all}
use Rattle.schema.specs.Records.{ForeignKey, Schema, key_of}
use Rattle.schema.specs.Fields.{schema_of}
use Rattle.rules.specs.declared.Refusal.TheVariants.{ListTooShort}
use Rattle.rules.specs.declared.Orphan.{Orphan}
use Rattle.rules.specs.declared.Listed.{Listed}
use Rattle.rules.specs.Lists.{𝟘}
use Rattle.rules.specs.Refusals.{Verdict, failing, number}
use Rattle.rules.specs.Rows.{Row, Tables, row_at}
use Rattle.rules.specs.Keys.{orphan, orphans}
use Rattle.rules.specs.Area.{view}
use Rattle.rules.specs.Questions.{area_verdict}

-- a record before others, if the row that it names is an orphan
unfoldable pub record_if : Bool → Orphan → List Orphan → List Orphan
record_if true o os = o ∷ os
record_if false o os = os

-- "by rising child row": the records of foreign key k, whose orphans pass the test, where the first row has number r
unfoldable pub orphan_rows : (Row → Bool) → ℕ → ℕ → List Row → List Orphan
orphan_rows p k r [] = []
orphan_rows p k r (x ∷ xs) = record_if (p x) (record { key = k; row = r }) (orphan_rows p k (suc r) xs)

-- "by foreign key number": the records of some foreign keys, where the first has number k
unfoldable pub orphans_from : Tables → ℕ → List ForeignKey → List Orphan
orphans_from tabs k [] = []
orphans_from tabs k (f ∷ fs) = orphan_rows (orphan f (get_or tabs f.parent [])) k 0 (get_or tabs f.child []) ++ orphans_from tabs (suc k) fs

-- the list
unfoldable pub orphan_list : Schema → Tables → List Orphan
orphan_list s tabs = orphans_from tabs 0 s.keys

-- "their number": the orphans of all foreign keys
unfoldable pub orphan_total : List ForeignKey → Tables → ℕ
orphan_total [] tabs = 0
orphan_total (k ∷ ks) tabs = orphans tabs k + orphan_total ks tabs

-- "Checks: 1, .. 3, 10, 22.": 2 is given no more
unfoldable pub list_verdict : List ℕ → List ℤ → ℕ → Verdict
list_verdict bs ws room =
    let s : Schema = schema_of bs in
    area_verdict bs ws (failing (ltb room (orphan_total s.keys (view s ws).work.tabs)) ListTooShort (Ok tt))

-- "The answer is code 0 and their number; refused, the code and 0."
unfoldable pub listed : Verdict → ℕ → Listed
listed (Ok tt) n = record { code = 𝟘; count = n }
listed (Err r) n = record { code = pos (number r); count = 0 }

-- the answer, where the lent list has `room` records
unfoldable pub list_answer : List ℕ → List ℤ → ℕ → Listed
list_answer bs ws room = listed (list_verdict bs ws room) (orphan_total (schema_of bs).keys (view (schema_of bs) ws).work.tabs)

-- the lent list at exit, where it held `before`: the orphans, then what stood past them; refused, what it was
unfoldable pub lent_after : Verdict → List Orphan → List Orphan → List Orphan
lent_after (Ok tt) os before = os ++ drop (length os) before
lent_after (Err r) os before = before

-- the orphan list: the answer, and the lent list at exit
unfoldable pub list_orphans : List ℕ → List ℤ → List Orphan → Listed × List Orphan
list_orphans bs ws before =
    let s : Schema = schema_of bs in
    let room : ℕ = length before in
    (list_answer bs ws room, lent_after (list_verdict bs ws room) (orphan_list s (view s ws).work.tabs) before)

-- ---- what the list is held to

-- "all orphans .., each once": row r of the child table is an orphan of foreign key k
unfoldable pub is_orphan : Schema → Tables → ℕ → ℕ → Bool
is_orphan s tabs k r =
    ltb k (length s.keys) && orphan (key_of s k) (get_or tabs (key_of s k).parent []) (row_at (key_of s k).child r tabs)

-- the record of row r under foreign key k
unfoldable pub is_record : ℕ → ℕ → Orphan → Bool
is_record k r o = eqb o.key k && eqb o.row r

-- record x stands before record y: "by foreign key number, then by rising child row"
unfoldable pub stands_before : Orphan → Orphan → Bool
stands_before x y = ltb x.key y.key || (eqb x.key y.key && ltb x.row y.row)

-- each record stands before all that follow it
unfoldable pub rising : List Orphan → Bool
rising [] = true
rising (o ∷ os) = all (stands_before o) os && rising os
