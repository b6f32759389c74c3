-- A tally that follows the counts.
-- Assumes nothing.
use mathlib.Core.Path.{refl, ◌∙◌, ap}
use mathlib.Core.List.{List}
use Prim.Native.Nat.{ℕ}
use lib.IntN.{ℤ}
use Rattle.schema.specs.Ranges.{all}
use Rattle.schema.specs.Records.{Schema}
use Rattle.schema.specs.Fields.{schema_of}
use Rattle.rules.specs.Values.{in_range}
use Rattle.bridge.specs.Fit.{Fit}
use Rattle.bridge.proofs.RowWords.{keeps_refl, keeps_trans}
use Rattle.moves.specs.Tally.{Follows, Tallied}

pub follows_refl : {s : Schema} {tally a : List ℤ} → Fit s a → Follows s tally a tally a
follows_refl f = record { keeps = keeps_refl f; even = refl; size = refl }

pub follows_trans : {s : Schema} {m a n b p c : List ℤ} → Follows s m a n b → Follows s n b p c → Follows s m a p c
follows_trans x y = record { keeps = keeps_trans x.keeps y.keeps; even = y.even ∙ x.even; size = y.size ∙ x.size }

-- what is required still holds afterwards
pub tallied_after : {b : List ℕ} {m a n a' : List ℤ} → Tallied b m a → Follows (schema_of b) m a n a' → Tallied b n a'
tallied_after t f =
    record {
      ready = record { accepted = t.ready.accepted; fit = f.keeps.fit };
      size = f.size ∙ t.size;
      small = ap (all (in_range 1024)) f.even ∙ t.small;
    }
