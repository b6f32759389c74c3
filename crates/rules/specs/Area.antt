-- The area: "Signed 64-bit words", and the book that they are.
-- Assumes nothing.
use Rattle.std.specs.Prelude.{Bool, true, false, List, [], ◌∷◌, ◌++◌, map, reverse, ℕ, suc, ◌+◌, ◌*◌, ◌/◌, ◌%◌, leb, eqb, ℤ, pos, length, get_or, take, drop, replicate, Err}
use Rattle.schema.specs.Ranges.{all, every}
use Rattle.schema.specs.Records.{Table, Schema}
use Rattle.schema.specs.Sizes.{table_size, rows_size, area_size}
use Rattle.rules.specs.declared.Refusal.{Refusal}
use Rattle.rules.specs.declared.Refusal.TheVariants.{WrongLength, BadCall, Damaged}
use Rattle.rules.specs.Refusals.{Answer}
use Rattle.rules.specs.Lists.{𝟘, flat, chunks}
use Rattle.rules.specs.Values.{nat_of, natural, same_word}
use Rattle.rules.specs.Rows.{Tables}
use Rattle.rules.specs.Book.{Entry, Level, Book}
use Rattle.rules.specs.Calls.{parse, allowed}
use Rattle.rules.specs.Statement.{Turn}
use Rattle.rules.specs.Step.{step, Logged, run_all}

-- ---- from the book to the words

-- "nine levels of 33 words, each the journal use and the 32 kept numbers when it opened"
unfoldable pub level_words : Level → List ℤ
level_words l = pos l.base ∷ l.kept

-- "journal records of 10 words: table × 1,024 + row; the old state; the old values"
unfoldable pub entry_words : Entry → List ℤ
entry_words e = pos (e.table * 1024 + e.row) ∷ e.old

-- "Words 0 to 3: open levels; opened by; journal records used; zero. Words 4 to 35: kept orphans .. Words 36 to 332: nine levels .. Then the tables. .. Last, J journal records"
unfoldable pub words : Book → List ℤ
words b =
    (pos (length b.levels) ∷ pos b.opener ∷ pos (length b.work.used) ∷ 𝟘 ∷ [])
    ++ (b.kept
    ++ (flat (map level_words (reverse b.levels) ++ b.closed)
    ++ (flat (map flat b.work.tabs)
    ++ flat (map entry_words (reverse b.work.used) ++ b.work.spare))))

-- ---- from the words to the book

unfoldable pub level_of : List ℤ → Level
level_of [] = record { base = 0; kept = [] }
level_of (w ∷ ws) = record { base = nat_of w; kept = ws }

unfoldable pub entry_of : List ℤ → Entry
entry_of [] = record { table = 0; row = 0; old = [] }
entry_of (w ∷ ws) = record { table = nat_of w / 1024; row = nat_of w % 1024; old = ws }

-- "Each table's rows are a part of the area that begins where the table before it ends"
unfoldable pub tables_of : List Table → List ℤ → Tables
tables_of [] ws = []
tables_of (t ∷ ts) ws = chunks (suc t.columns) t.rows (take (table_size t) ws) ∷ tables_of ts (drop (table_size t) ws)

-- the parts of an area's words: levels, from the tables on, journal records
unfoldable pub level_part : List ℤ → List (List ℤ)
level_part ws = chunks 33 9 (take 297 (drop 32 (drop 4 ws)))

unfoldable pub row_part : List ℤ → List ℤ
row_part ws = drop 297 (drop 32 (drop 4 ws))

unfoldable pub record_part : Schema → List ℤ → List (List ℤ)
record_part s ws = chunks 10 s.room (drop (rows_size s.tables) (row_part ws))

unfoldable pub view : Schema → List ℤ → Book
view s ws =
    let n : ℕ = nat_of (get_or ws 0 𝟘) in
    let u : ℕ = nat_of (get_or ws 2 𝟘) in
    record {
      opener = nat_of (get_or ws 1 𝟘);
      kept = take 32 (drop 4 ws);
      levels = reverse (map level_of (take n (level_part ws)));
      closed = drop n (level_part ws);
      work = record {
        tabs = tables_of s.tables (take (rows_size s.tables) (row_part ws));
        used = reverse (map entry_of (take u (record_part s ws)));
        spare = drop u (record_part s ws);
      };
    }

unfoldable pub natural_head : List ℤ → Bool
natural_head [] = false
natural_head (w ∷ ws) = natural w

-- the words are a book: the part of refusal 10 that only they can tell. "words 0 to 3 out of range"; uses of open levels and used places below 0
unfoldable pub legible : Schema → List ℤ → Bool
legible s ws =
    every
    (natural (get_or ws 0 𝟘)
    ∷ leb (nat_of (get_or ws 0 𝟘)) 9
    ∷ natural (get_or ws 1 𝟘)
    ∷ natural (get_or ws 2 𝟘)
    ∷ leb (nat_of (get_or ws 2 𝟘)) s.room
    ∷ same_word 𝟘 (get_or ws 3 𝟘)
    ∷ all natural_head (take (nat_of (get_or ws 0 𝟘)) (level_part ws))
    ∷ all natural_head (take (nat_of (get_or ws 2 𝟘)) (record_part s ws))
    ∷ [])

-- ---- a call on an area's words

abbrev pub AreaTurn : Type 0
AreaTurn = Answer × List ℤ

-- a turn on a book, by the book's words
abbrev pub on_words : Turn → AreaTurn
on_words t = (t.0, words t.1)

-- where the test fails, refused with nothing written
unfoldable pub ensure : Bool → Refusal → (List ℤ → AreaTurn) → List ℤ → AreaTurn
ensure true r k ws = k ws
ensure false r k ws = (Err r, ws)

-- "Order: .. 3, 4, 10, .."
unfoldable pub area_step : Schema → List ℤ → List ℤ → AreaTurn
area_step s c ws =
    ensure (eqb (length ws) (area_size s)) WrongLength
    (ensure (allowed s (parse c)) BadCall
    (ensure (legible s ws) Damaged
    (λ ws. on_words (step s c (view s ws)))))
    ws

abbrev pub area_run : Schema → List (List ℤ) → List ℤ → List Logged × List ℤ
area_run s = run_all (area_step s)

-- "A fresh area is all zeros"
unfoldable pub fresh_words : Schema → List ℤ
fresh_words s = replicate (area_size s) 𝟘
