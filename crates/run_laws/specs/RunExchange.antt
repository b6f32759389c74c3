-- Two calls on tables of different families, in either order, of `runs::run`.
-- Assumes nothing.
use Rattle.std.specs.Prelude.{◌≡◌, Bool, List, ◌∷◌, ◌++◌, ℕ, ◌*◌, ◌≤◌, eqb, ℤ, length}
use Rattle.schema.specs.Fields.{schema_of}
use Rattle.rules.specs.Lists.{flat}
use Rattle.rules.specs.Area.{fresh_words}
use Rattle.rules.specs.Strike.{end_of}
use Rattle.families.specs.EitherOrder.{records_used, SameButRecords}
use Rattle.runs.specs.Runs.{run_calls}

-- a call of twelve words
abbrev pub twelve : List ℤ → Bool
twelve call = eqb (length call) 12

-- from a fresh area, calls laid end to end: some calls, then c and d in either order, then others, with these words lent for the answers
module _ (bs : List ℕ) (cs : List (List ℤ)) (c d : List ℤ) (more : List (List ℤ)) (lent : List ℤ) where
  abbrev pub run_both : ℕ × List ℤ × List ℤ
  run_both = run_calls bs (flat (cs ++ (c ∷ d ∷ more))) (fresh_words (schema_of bs)) lent

  abbrev pub run_swapped : ℕ × List ℤ × List ℤ
  run_swapped = run_calls bs (flat (cs ++ (d ∷ c ∷ more))) (fresh_words (schema_of bs)) lent

  pub record RunsExchanged : Type 0 where
    -- as many calls are run
    pub count : run_swapped.0 ≡ run_both.0
    -- the areas, in every word where no more records are in use than before c and d
    pub areas : SameButRecords (schema_of bs) run_swapped.1 run_both.1
    pub every_word : records_used run_both.1 ≤ records_used (end_of bs (fresh_words (schema_of bs)) cs) → run_swapped.1 ≡ run_both.1
    -- the answers: three words a call; those of c and d are exchanged, and every other word is the same
    pub words_before : List ℤ
    pub words_c : List ℤ
    pub words_d : List ℤ
    pub words_after : List ℤ
    pub place : length words_before ≡ length cs * 3
    pub size_c : length words_c ≡ 3
    pub size_d : length words_d ≡ 3
    pub answers_both : run_both.2 ≡ words_before ++ (words_c ++ (words_d ++ words_after))
    pub answers_swapped : run_swapped.2 ≡ words_before ++ (words_d ++ (words_c ++ words_after))
