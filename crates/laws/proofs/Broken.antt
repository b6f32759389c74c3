-- A broken key has no orphans: on every area reached from a fresh one its kept number is 0.
-- Assumes nothing.
use mathlib.Core.Path.{◌≡◌, ◌∙◌, ap}
use mathlib.Core.Bool.{true}
use mathlib.Core.List.{List, [], ◌∷◌, map}
use Prim.Native.Nat.{ℕ, zero, suc, ◌-◌, ◌<◌}
use native.Mathlib.Omega.{arith}
use lib.IntN.{ℤ, pos}
use lib.ListN.{length, get_or, replicate, length-map, get_or-append}
use Rattle.schema.specs.Check.{Accepted, check_schema}
use Rattle.schema.specs.Records.{ForeignKey, Schema, no_key, key_of}
use Rattle.schema.specs.Fields.{schema_of}
use Rattle.rules.specs.Lists.{𝟘}
use Rattle.rules.specs.Rows.{Tables}
use Rattle.rules.specs.Keys.{orphans, counts}
use Rattle.rules.specs.Area.{view, fresh_words}
use Rattle.rules.specs.Strike.{end_of, kept_words}
use Rattle.bridge.proofs.BrokenKeys.{broken_none}
use Rattle.laws.proofs.Demand3.{fresh_demand_3}

module _ (tabs : Tables) where
  counted_at : (ks : List ForeignKey) (i : ℕ) → i < length ks → (get_or ks i no_key).broken ≡ true → get_or (map (λ k. pos (orphans tabs k)) ks) i 𝟘 ≡ 𝟘
  counted_at [] i h u = absurd (omega arith)
  counted_at (k ∷ ks) zero h u = ap pos (broken_none k u tabs)
  counted_at (k ∷ ks) (suc i) h u = counted_at ks i (omega arith) u

  pub broken_counted : (s : Schema) (i : ℕ) → i < length s.keys → (key_of s i).broken ≡ true → get_or (counts s tabs) i 𝟘 ≡ 𝟘
  unfolding counts
  broken_counted s i h u =
      get_or-append (map (λ k. pos (orphans tabs k)) s.keys) (replicate (32 - length (map (λ k. pos (orphans tabs k)) s.keys)) 𝟘) 𝟘 i (simp length-map (omega arith))
      ∙ counted_at s.keys i h u

pub broken_kept : (bs : List ℕ) (acc : check_schema bs ≡ Accepted) (cs : List (List ℤ)) (i : ℕ) → i < length (schema_of bs).keys → (key_of (schema_of bs) i).broken ≡ true
    → get_or (kept_words (end_of bs (fresh_words (schema_of bs)) cs)) i 𝟘 ≡ 𝟘
broken_kept bs acc cs i h u =
    ap (λ (l : List ℤ). get_or l i 𝟘) (fresh_demand_3 bs acc cs).counted
    ∙ broken_counted (view (schema_of bs) (end_of bs (fresh_words (schema_of bs)) cs)).work.tabs (schema_of bs) i h u
