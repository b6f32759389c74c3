-- Families of tables.
-- Assumes nothing.
use Rattle.std.specs.Prelude.{◌≡◌, false, List, [], ◌∷◌, ℕ, ℤ, pos, get_or}
use Rattle.schema.specs.Records.{ForeignKey, Schema}
use Rattle.schema.specs.ParentKey.{Mem}
use Rattle.rules.specs.Lists.{𝟘}

-- "Tables joined by foreign keys, directly or through others, form a family." A broken foreign key joins nothing: no accepted call uses one
pub data Joined (s : Schema) : ℕ → ℕ → Type 0 where
  itself : {t : ℕ} → Joined s t t
  directly : (k : ForeignKey) → Mem k s.keys → k.broken ≡ false → Joined s k.child k.parent
  turned : {t u : ℕ} → Joined s t u → Joined s u t
  through : {t u v : ℕ} → Joined s t u → Joined s u v → Joined s t v

-- tables of "different families"
abbrev pub Apart : Schema → ℕ → ℕ → Type 0
Apart s t u = ¬ (Joined s t u)

-- "kinds 1, 2, 3, 10 or 11"
abbrev pub row_kinds : List ℤ
row_kinds = pos 1 ∷ pos 2 ∷ pos 3 ∷ pos 10 ∷ pos 11 ∷ []

-- a call of one of these kinds on table t: word 1, "a is the table"
pub record OnTable (t : ℕ) (call : List ℤ) : Type 0 where
  pub kind : Mem (get_or call 0 𝟘) row_kinds
  pub table : get_or call 1 𝟘 ≡ pos t
