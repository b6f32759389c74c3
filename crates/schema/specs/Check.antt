-- The check of schema bytes: refusal 1, the bytes break a rule.
-- Assumes nothing.
use Rattle.std.specs.Prelude.{Bool, not, cond, ◌&&◌, ◌||◌, List, [], ◌∷◌, ℕ, ◌+◌, ◌-◌, ◌*◌, ◌/◌, ◌^◌, leb, ltb, eqb, length, Ok, Err, Result}
use Rattle.schema.specs.Bytes.{byte, half, word, bit}
use Rattle.schema.specs.declared.SchemaError.{SchemaError}
use Rattle.schema.specs.declared.SchemaError.TheVariants.{Malformed}
use Rattle.schema.specs.Ranges.{all_from, every}
use Rattle.schema.specs.Fields

-- lo to hi
abbrev pub within : ℕ → ℕ → ℕ → Bool
within lo hi x = leb lo x && leb x hi

-- byte at + i is b
abbrev pub is_byte : List ℕ → ℕ → ℕ → ℕ → Bool
is_byte bs at b i = eqb (byte bs (at + i)) b

-- ---- the header

-- 46 4B 42 31
abbrev pub magic : List ℕ
magic = 0x46 ∷ 0x4B ∷ 0x42 ∷ 0x31 ∷ []

-- the bytes have the given ones at i
abbrev pub same_at : List ℕ → List ℕ → ℕ → Bool
same_at bs start i = eqb (byte bs i) (byte start i)

unfoldable pub starts_with : List ℕ → List ℕ → Bool
starts_with start bs = leb (length start) (length bs) && all_from (same_at bs start) (length start) 0

-- tables, foreign keys, offsets, journal room, whole length
unfoldable pub header_rest : List ℕ → Bool
header_rest bs =
    every
    (within 1 16 (Fields.table_count bs)
    ∷ leb (Fields.key_count bs) 32
    ∷ eqb (half bs 8) 16
    ∷ eqb (half bs 10) (16 + 80 * Fields.table_count bs)
    ∷ within 1 4096 (Fields.room_of bs)
    ∷ eqb (half bs 14) (16 + 80 * Fields.table_count bs + 16 * Fields.key_count bs)
    ∷ eqb (length bs) (16 + 80 * Fields.table_count bs + 16 * Fields.key_count bs)  -- the number of bytes handed over
    ∷ [])

unfoldable pub header_rules : List ℕ → Bool
header_rules bs = leb 16 (length bs) && starts_with magic bs && header_rest bs

-- ---- a table record

-- the mask at + i has no bit at `columns` and above
unfoldable pub mask_rule : List ℕ → ℕ → ℕ → ℕ → Bool
mask_rule bs at columns i = eqb (byte bs (at + i) / 2 ^ columns) 0

-- unique-key mask i + 1 is not used after an unused one
abbrev pub unique_rule : List ℕ → ℕ → ℕ → Bool
unique_rule bs t i = eqb (Fields.unique_of bs t (i + 1)) 0 || not (eqb (Fields.unique_of bs t i) 0)

-- default c is 0 where NULL or no such column
abbrev pub default_rule : List ℕ → ℕ → ℕ → Bool
default_rule bs t c =
    eqb (word bs (Fields.table_start t + 16 + 8 * c)) 0 || ltb c (Fields.columns_of bs t) && not (bit c (Fields.default_null_of bs t))

-- rows R, columns C
unfoldable pub size_rules : List ℕ → ℕ → Bool
size_rules bs t =
    every
    (within 1 1024 (Fields.rows_of bs t)
    ∷ within 1 8 (Fields.columns_of bs t)
    ∷ [])

-- masks, zero bytes, defaults
unfoldable pub table_rest : List ℕ → ℕ → Bool
table_rest bs t =
    every
    (all_from (mask_rule bs (Fields.table_start t + 3) (Fields.columns_of bs t)) 7 0  -- NOT NULL, four unique keys, default-is-NULL, folded
    ∷ unique_rule bs t 0
    ∷ unique_rule bs t 1
    ∷ unique_rule bs t 2
    ∷ all_from (is_byte bs (Fields.table_start t + 10) 0) 6 0  -- six zero bytes
    ∷ all_from (default_rule bs t) 8 0
    ∷ [])

unfoldable pub table_rules : List ℕ → ℕ → Bool
table_rules bs t = size_rules bs t && table_rest bs t

-- ---- a foreign key record

abbrev pub action_rule : ℕ → Bool
action_rule c = leb c 4

-- columns i and j of those at `at` differ
abbrev pub differ : List ℕ → ℕ → ℕ → ℕ → Bool
differ bs at i j = not (eqb (byte bs (at + i)) (byte bs (at + j)))

-- column i is none of those before it
unfoldable pub new_column : List ℕ → ℕ → ℕ → Bool
new_column bs at i = all_from (differ bs at i) i 0

-- of four columns at `at`, the first n are distinct, and those past n are 255
unfoldable pub columns_rule : List ℕ → ℕ → ℕ → Bool
columns_rule bs at n = all_from (new_column bs at) n 0 && all_from (is_byte bs at 255) (4 - n) n

-- "windowed needs n of 2 or more and both actions below 2"
unfoldable pub windowed_rule : List ℕ → ℕ → Bool
windowed_rule bs k = eqb (Fields.windowed_of bs k) 0 || (leb 2 (Fields.width_of bs k) && (ltb (Fields.on_delete_of bs k) 2 && ltb (Fields.on_update_of bs k) 2))

-- child table, deferred, actions, column count, match, window
unfoldable pub code_rules : List ℕ → ℕ → Bool
code_rules bs k =
    every
    (ltb (Fields.child_of bs k) (Fields.table_count bs)
    ∷ leb (Fields.deferred_of bs k) 1
    ∷ action_rule (Fields.on_delete_of bs k)
    ∷ action_rule (Fields.on_update_of bs k)
    ∷ within 1 4 (Fields.width_of bs k)
    ∷ leb (Fields.match_of bs k) 1
    ∷ leb (Fields.windowed_of bs k) 1
    ∷ windowed_rule bs k
    ∷ [])

-- columns
unfoldable pub key_rest : List ℕ → ℕ → Bool
key_rest bs k =
    every
    (all_from (Fields.column_rule bs (Fields.key_start bs k + 6) (Fields.columns_of bs (Fields.child_of bs k))) (Fields.width_of bs k) 0
    ∷ columns_rule bs (Fields.key_start bs k + 6) (Fields.width_of bs k)  -- child columns
    ∷ columns_rule bs (Fields.key_start bs k + 10) (Fields.width_of bs k)  -- parent columns
    ∷ [])

unfoldable pub key_rules : List ℕ → ℕ → Bool
key_rules bs k = code_rules bs k && key_rest bs k

-- ---- refusal 1

unfoldable pub well_formed : List ℕ → Bool
well_formed bs =
    header_rules bs
    && all_from (table_rules bs) (Fields.table_count bs) 0
    && all_from (key_rules bs) (Fields.key_count bs) 0

-- ---- the answer

abbrev pub SchemaAnswer : Type 0
SchemaAnswer = Result (Unit {0}) SchemaError

abbrev pub Accepted : SchemaAnswer
Accepted = Ok tt

unfoldable pub check_schema : List ℕ → SchemaAnswer
check_schema bs = cond (well_formed bs) Accepted (Err Malformed)

-- the paper's number of an answer; 0 is accepted
abbrev pub number_of : SchemaAnswer → ℕ
number_of (Ok tt) = 0
number_of (Err Malformed) = 1
