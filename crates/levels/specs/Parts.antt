-- A book with one of its parts replaced.
-- Assumes nothing.
use Rattle.std.specs.Prelude.{List, ℕ, ℤ}
use Rattle.rules.specs.Book.{Book}

abbrev pub with_kept : List ℤ → Book → Book
with_kept kept b = record { opener = b.opener; kept = kept; levels = b.levels; closed = b.closed; work = b.work }

abbrev pub with_opener : ℕ → Book → Book
with_opener opener b = record { opener = opener; kept = b.kept; levels = b.levels; closed = b.closed; work = b.work }
