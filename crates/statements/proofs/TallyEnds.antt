-- The tally of a statement, zero when it begins: at its end it is the movement of the counted orphans.
-- Assumes nothing.
use mathlib.Core.Path.{◌≡◌, refl, sym, ◌∙◌, ap}
use mathlib.Core.Bool.{true}
use mathlib.Core.List.{List}
use Prim.Native.Nat.{ℕ}
use lib.IntN.{ℤ}
use lib.ListN.{replicate}
use Rattle.schema.specs.Records.{Schema}
use Rattle.schema.specs.Fields.{schema_of}
use Rattle.schema.specs.Ranges.{all}
use Rattle.schema.proofs.SchemaLaws.{Valid, accepted_valid}
use Rattle.rules.specs.Lists.{𝟘, less}
use Rattle.rules.specs.Values.{in_range}
use Rattle.rules.specs.Keys.{counts}
use Rattle.bridge.specs.Fit.{work_of, Fit}
use Rattle.bridge.specs.Ready.{Ready}
use Rattle.bridge.proofs.RowWords.{formed_fit}
use Rattle.bridge.proofs.Counts.{length_counts_32}
use Rattle.bridge.proofs.CountBounds.{counts_limited}
use Rattle.moves.specs.Tally.{ahead, Follows, Tallied}
use Rattle.moves.proofs.Telescope.{off_start, off_end}
use Rattle.sums.specs.Small.{Small}
use Rattle.sums.proofs.KeptSmall.{range_less}

abbrev zeros : List ℤ
zeros = replicate 32 𝟘

module _ {s : Schema} (v : Valid s) where
  limited : {a : List ℤ} → Fit s a → all (in_range 1024) (counts s (work_of s a).tabs) ≡ true
  unfolding work_of
  limited {a} f = counts_limited v (work_of s a).tabs (formed_fit f).shaped

  ahead_start : (a : List ℤ) → ahead s zeros a ≡ counts s (work_of s a).tabs
  unfolding ahead
  ahead_start a = off_start s v.few (work_of s a).tabs

  module _ {a tally a₁ : List ℤ} (f : Fit s a) (h : Follows s zeros a tally a₁) where
    pub movement_is : tally ≡ less (counts s (work_of s a₁).tabs) (counts s (work_of s a).tabs)
    unfolding ahead
    movement_is = off_end s v.few (work_of s a).tabs (work_of s a₁).tabs tally h.size (h.even ∙ ahead_start a)

    pub movement_small : Small 1024 tally
    movement_small =
        let n = length_counts_32 s v.few in
        rw movement_is (range_less _ _ (n (work_of s a).tabs ∙ sym (n (work_of s a₁).tabs)) (limited h.keeps.fit) (limited f))

-- what a row change requires of the tally when a statement begins
pub tally_begins : (b : List ℕ) {a : List ℤ} → Ready b a → Tallied b (replicate 32 𝟘) a
tally_begins b {a} r =
    let v : Valid (schema_of b) = accepted_valid b r.accepted in
    record { ready = r; size = refl; small = ap (all (in_range 1024)) (ahead_start v a) ∙ limited v r.fit }
