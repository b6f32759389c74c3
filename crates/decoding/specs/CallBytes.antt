-- "calls of 96 bytes, words little-endian"
-- Assumes nothing.
use Rattle.std.specs.Prelude.{List, [], ◌∷◌, map, ℕ, ◌+◌, ℤ}
use Rattle.schema.specs.Bytes.{signed_word}

-- the twelve signed words of the 96 bytes that start at i
unfoldable pub words_at : List ℕ → ℕ → List ℤ
words_at bs i = map (signed_word bs) (i ∷ (i + 8) ∷ (i + 16) ∷ (i + 24) ∷ (i + 32) ∷ (i + 40) ∷ (i + 48) ∷ (i + 56) ∷ (i + 64) ∷ (i + 72) ∷ (i + 80) ∷ (i + 88) ∷ [])
