-- A statement: row changes, and what is settled at its end.
-- Assumes nothing.
use Rattle.std.specs.Prelude.{Bool, true, false, ◌&&◌, ◌||◌, List, [], ◌∷◌, ℕ, ◌-◌, ℤ, length, Err}
use Rattle.schema.specs.Records.{ForeignKey, Schema}
use Rattle.rules.specs.declared.Refusal.{Refusal}
use Rattle.rules.specs.declared.Refusal.TheVariants.{RowState, KeptOutOfRange, OrphansLeft}
use Rattle.rules.specs.Refusals.{Answer, did}
use Rattle.rules.specs.Lists.{𝟘, sum, less, plus}
use Rattle.rules.specs.Values.{same_word, all_zero}
use Rattle.rules.specs.Rows.{Row}
use Rattle.rules.specs.Keys.{counts}
use Rattle.rules.specs.Book.{Work, Book, emptied, cleared}
use Rattle.rules.specs.State.{in_transaction, kept_in_range}
use Rattle.rules.specs.Change.{Result, go, stop, change}

-- an answer, and the book after the call
abbrev pub Turn : Type 0
Turn = Answer × Book

-- where the test fails, refused: "nothing written"
unfoldable pub check : Bool → Refusal → (Book → Turn) → Book → Turn
check true r k b = k b
check false r k b = (Err r, b)

-- where the test fails, refused "inside a statement"
unfoldable pub demand : Bool → Refusal → (Book → Turn) → Book → Turn
demand true r k b = k b
demand false r k b = (Err r, cleared b)

-- every kept number of an immediate key is 0
unfoldable pub immediate_zero : List ForeignKey → List ℤ → Bool
immediate_zero ks [] = true
immediate_zero [] (x ∷ xs) = true
immediate_zero (k ∷ ks) (x ∷ xs) = (k.deferred || same_word 𝟘 x) && immediate_zero ks xs

-- not refused by 20: not "an immediate key, or outside a transaction any key, has a kept number not zero"
unfoldable pub enforced : Bool → Schema → List ℤ → Bool
enforced true s kept = immediate_zero s.keys kept
enforced false s kept = all_zero kept

-- "Outside a transaction .. the journal is then emptied."
unfoldable pub journal_after : Bool → Work → Work
journal_after true w = w
journal_after false w = emptied w

-- the book after an accepted statement
unfoldable pub after_statement : Work → List ℤ → Book → Book
after_statement w kept b = record { opener = b.opener; kept = kept; levels = b.levels; closed = b.closed; work = journal_after (in_transaction b.levels) w }

-- "At the end each kept number moves by the orphans counted after less those before." Refused by 19, then by 20
unfoldable pub settle : Schema → Work → List ℤ → Book → Turn
settle s w movement b =
    let kept : List ℤ = plus b.kept movement in
    demand (kept_in_range s s.keys kept) KeptOutOfRange
    (demand (enforced (in_transaction b.levels) s kept) OrphansLeft
    (λ b. (did (length w.used - length b.work.used) (sum movement), after_statement w kept b)))
    b

unfoldable pub conclude : Schema → Result → Book → Turn
conclude s (stop c w) b = (Err c, cleared b)
conclude s (go w) b = settle s w (less (counts s w.tabs) (counts s b.work.tabs)) b

-- a statement runs its row changes, then settles
unfoldable pub statement : Schema → (Work → Result) → Book → Turn
statement s body b = conclude s (body b.work) b

-- insert, update, delete: refused by 11 where the row's state does not fit; "The statement's own row is depth 1", 16 levels are left
unfoldable pub row_statement : Schema → Bool → ℕ → ℕ → Row → Book → Turn
row_statement s fits t r new = check fits RowState (statement s (change 16 s t r new))
