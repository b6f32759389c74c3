-- A refused statement, put back: every word is that of the book at its entry, cleared.
-- Assumes nothing.
use mathlib.Core.Path.{◌≡◌, ap, ◌∙◌}
use mathlib.Core.List.{List}
use lib.IntN.{ℤ}
use lib.ListN.{length}
use Rattle.schema.specs.Records.{Schema}
use Rattle.rules.specs.Area.{words, view}
use Rattle.rules.specs.Book.{cleared}
use Rattle.bridge.specs.Fit.{work_of, Fit, Keeps}
use Rattle.bridge.proofs.ClearWords.{cleared_back}
use Rattle.bridge.proofs.Undo.{Undoes}
use Rattle.area.specs.Undone.{Undone}

pub refused_words : {s : Schema} {a a₁ a₂ : List ℤ} → Fit s a → Keeps s a a₁ → Undoes s (work_of s a) (work_of s a₁) → Undone s (length (work_of s a).used) a₁ a₂ → a₂ ≡ words (cleared (view s a))
refused_words f k u d = d.cleared_is ∙ ap words (cleared_back f k u d.keeps d.work)
