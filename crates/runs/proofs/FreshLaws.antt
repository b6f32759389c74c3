-- A fresh area is one that calls lead to.
-- Assumes nothing.
use Rattle.std.specs.Prelude.{Ok, Err}
use mathlib.Core.Path.{◌≡◌, refl, sym, ap, ap₂, subst, ◌∙◌}
use mathlib.Core.Bool.{true}
use mathlib.Core.List.{List, [], ◌∷◌}
use Prim.Native.Nat.{ℕ}
use lib.IntN.{ℤ}
use lib.ListN.{length, replicate}
use Rattle.schema.specs.Check.{SchemaAnswer, Accepted, check_schema}
use Rattle.schema.specs.declared.SchemaError.TheVariants.{Malformed}
use Rattle.schema.specs.Fields.{schema_of}
use Rattle.rules.specs.Lists.{𝟘}
use Rattle.rules.specs.Values.{all_zero, same_word}
use Rattle.rules.specs.Area.{fresh_words}
use Rattle.bridge.proofs.Bits.{same_eq}
use Rattle.bridge.proofs.Tests.{all_head, all_tail}
use Rattle.laws.specs.Reached.{Reached}
use Rattle.laws.proofs.Reached.{reached_fresh}
use Rattle.fresh_area.specs.Fresh.{area_words}
use Rattle.fresh_area.proofs.FreshLaws.{words_accepted, words_malformed}

all_zeros : (ws : List ℤ) → all_zero ws ≡ true → ws ≡ replicate (length ws) 𝟘
unfolding all_zero
all_zeros [] h = refl
all_zeros (w ∷ ws) h = ap₂ (λ (x : ℤ) (xs : List ℤ). x ∷ xs) (sym (same_eq 𝟘 w (all_head (same_word 𝟘) w ws h))) (all_zeros ws (all_tail (same_word 𝟘) w ws h))

-- as long as the schema needs, and all zeros
pub blank_reached : (bs : List ℕ) (ws : List ℤ) → (area_words bs ≡ 0 → ⊥) → length ws ≡ area_words bs → all_zero ws ≡ true → Reached bs ws
unfolding fresh_words
blank_reached bs ws some size zero = by (check_schema bs) refl
  where
    by : (k : SchemaAnswer) → check_schema bs ≡ k → Reached bs ws
    by (Err Malformed) e = absurd (some (sym (words_malformed bs e)))
    by (Ok tt) e =
        let fresh : ws ≡ fresh_words (schema_of bs) = all_zeros ws zero ∙ ap (λ n. replicate n 𝟘) (size ∙ sym (words_accepted bs e refl)) in
        subst (Reached bs) (sym fresh) (reached_fresh bs e)
