-- Rows passed over four at a time; those that cannot have a key, by two of its columns.
-- Assumes nothing.
use Rattle.std.specs.Prelude.{◌≡◌, Bool, false, ◌&&◌, ◌||◌, List, [], ℕ, suc, ◌+◌, ◌*◌, ◌≤◌, ◌<◌, ℤ, get_or}
use Rattle.schema.specs.Bytes.{bit}
use Rattle.rules.specs.Lists.{𝟘}
use Rattle.rules.specs.Values.{same_word}
use Rattle.rules.specs.Rows.{Row}
use Rattle.bridge.specs.Ready.{row_in}
use Rattle.folding.specs.Masks.{masked, first_mask}
use Rattle.rows.specs.declared.SoughtKey.{SoughtKey}
use Rattle.rows.specs.declared.TableRows.{TableRows}
use Rattle.rows.specs.Standing.{rows_in}
use Rattle.skips.specs.declared.Word.{Word}
use Rattle.skips.specs.declared.MaskedWord.{MaskedWord}
use Rattle.skips.specs.declared.Both.{Both}

-- a row has a word
unfoldable pub has_word : Word → Row → Bool
has_word s row = same_word (get_or row s.place 𝟘) s.value

-- it has a word under its mask
unfoldable pub has_masked : MaskedWord → Row → Bool
has_masked s row = same_word (masked s.mask (get_or row s.place 𝟘)) s.value

-- it passes two tests
unfoldable pub both : (Row → Bool) → (Row → Bool) → Row → Bool
both p q row = p row && q row

-- ---- what is looked at of a sought key

-- the word of column i
unfoldable pub word_of : SoughtKey → ℕ → Word
word_of key i = record { place = suc (get_or key.cs i 0); value = get_or key.vs i 𝟘 }

-- those of its first two columns
unfoldable pub first_words : SoughtKey → Both Word Word
first_words key = record { first = word_of key 0; second = word_of key 1 }

-- the word of column i, under the bits that it is looked at by first
unfoldable pub masked_word : SoughtKey → ℕ → MaskedWord
masked_word key i =
    record {
      place = suc (get_or key.cs i 0);
      mask = first_mask (bit i key.folded);
      value = masked (first_mask (bit i key.folded)) (get_or key.vs i 𝟘);
    }

-- those of its first two columns
unfoldable pub masked_pair : SoughtKey → Both MaskedWord MaskedWord
masked_pair key = record { first = masked_word key 0; second = masked_word key 1 }

-- ---- four rows

-- one of four rows from row j on passes a test
unfoldable pub one_of_four : (Row → Bool) → List ℤ → ℕ → ℕ → ℕ → Bool
one_of_four p a start w j = p (row_in a (start + j * w) w) || (p (row_in a (start + (j + 1) * w) w) || (p (row_in a (start + (j + 2) * w) w) || p (row_in a (start + (j + 3) * w) w)))

-- x is a row from row `from` on, or the end; no row between passes the test
pub record Skipped (p : Row → Bool) (a : List ℤ) (t : TableRows) (from x : ℕ) : Type 0 where
  pub low : from ≤ x
  pub high : x ≤ t.count
  pub none : (j : ℕ) → from ≤ j → j < x → p (get_or (rows_in a t) j []) ≡ false
