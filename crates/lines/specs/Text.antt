-- The program's lines: "code, rows changed, net", and the tally, "printed last".
-- Assumes nothing.
use Rattle.std.specs.Prelude.{◌≡◌, cond, List, [], ◌∷◌, ◌++◌, ℕ, zero, suc, ◌+◌, ◌/◌, ◌%◌, ltb, ℤ, pos, negsuc, length}
use Rattle.std.proofs.lemmas.List.Edits.{sets}
use Rattle.lines.specs.declared.Text.{Text}

-- a text written into a buffer: where it ends, and the buffer
unfoldable pub put : List ℕ → ℕ × List ℕ → ℕ × List ℕ
put text p = (p.0 + length text, sets p.1 p.0 text)

-- where a buffer's text ends, and the buffer
abbrev pub held : Text → ℕ × List ℕ
held t = (t.used, t.out.now)

-- the same buffer before and after: the reference, and how long it is
pub record SameBuffer (before after : Text) : Type 0 where
  pub reference : after.out.ghost_name ≡ before.out.ghost_name
  pub size : length after.out.now ≡ length before.out.now

-- a buffer before and after a text was written into it
pub record Puts (text : List ℕ) (before after : Text) : Type 0 where
  pub written : held after ≡ put text (held before)
  pub same : SameBuffer before after

-- the decimal digits of n, of which there are at most k
unfoldable pub decimal_up_to : ℕ → ℕ → List ℕ
decimal_up_to zero n = []
decimal_up_to (suc k) n = cond (ltb n 10) ((48 + n) ∷ []) (decimal_up_to k (n / 10) ++ ((48 + n % 10) ∷ []))

-- a number in decimal digits, no zero in front
unfoldable pub decimal : ℕ → List ℕ
decimal n = decimal_up_to (suc n) n

-- a signed number: `-` where it is negative
unfoldable pub signed_text : ℤ → List ℕ
signed_text (pos n) = decimal n
signed_text (negsuc n) = 45 ∷ decimal (suc n)

-- `,`
abbrev pub comma : List ℕ
comma = 44 ∷ []

-- the end of a line
abbrev pub newline : List ℕ
newline = 10 ∷ []

-- `code,changed,net`
unfoldable pub answer_line : ℕ → ℕ → ℤ → List ℕ
answer_line code changed net = decimal code ++ comma ++ decimal changed ++ comma ++ signed_text net ++ newline

-- `accepted,`
abbrev pub accepted_text : List ℕ
accepted_text = 97 ∷ 99 ∷ 99 ∷ 101 ∷ 112 ∷ 116 ∷ 101 ∷ 100 ∷ 44 ∷ []

-- `,refused,`
abbrev pub refused_text : List ℕ
refused_text = 44 ∷ 114 ∷ 101 ∷ 102 ∷ 117 ∷ 115 ∷ 101 ∷ 100 ∷ 44 ∷ []

-- `,rows,`
abbrev pub rows_text : List ℕ
rows_text = 44 ∷ 114 ∷ 111 ∷ 119 ∷ 115 ∷ 44 ∷ []

-- `accepted,A,refused,B,rows,C`
unfoldable pub tally_line : ℕ → ℕ → ℕ → List ℕ
tally_line accepted refused rows = accepted_text ++ decimal accepted ++ refused_text ++ decimal refused ++ rows_text ++ decimal rows ++ newline
