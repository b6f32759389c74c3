-- The columns of a foreign key as they are read: those of the pairs come first, that of a window behind them.
-- Assumes nothing.
use mathlib.Core.Path.{◌≡◌, sym, ap, ◌∙◌}
use mathlib.Core.List.{List, ◌++◌, map}
use Prim.Native.Nat.{ℕ, ◌+◌, ◌≤◌}
use native.Mathlib.Omega.{arith}
use lib.ListN.{length, take, length-append, length-map}
use lib.Seq.{take-take, take_at}
use Rattle.schema.specs.Bounds.{Columns}
use Rattle.schema.specs.Records.{ForeignKey, child_key, unique_columns}

-- fewer columns of the same array
pub fewer : {w n : ℕ} (m : ℕ) {cs : List ℕ} → m ≤ n → Columns w n cs → Columns w m cs
fewer m l c = record { few = omega (arith, c.few); size = c.size; within = λ i h. c.within i (omega arith) }

-- the first of a list that begins with ys
begins : (m : ℕ) (xs ys zs : List ℕ) (j : ℕ) → take m xs ≡ ys ++ zs → length ys ≡ j → j ≤ m → take j xs ≡ ys
begins m xs ys zs j e l h = sym (take-take j m xs h) ∙ ap (take j) e ∙ take_at ys zs j l

module _ (k : ForeignKey) where
  pub child_length : length (child_key k) ≡ length k.child_columns + length k.windows
  unfolding child_key
  child_length = length-append k.child_columns (map (λ w. w.day) k.windows) ∙ ap (λ (n : ℕ). length k.child_columns + n) (length-map k.windows (λ w. w.day))

  unique_length : length (unique_columns k) ≡ length k.parent_columns + length k.windows
  unfolding unique_columns
  unique_length = length-append k.parent_columns (map (λ w. w.first) k.windows) ∙ ap (λ (n : ℕ). length k.parent_columns + n) (length-map k.windows (λ w. w.first))

  -- of arrays that begin with the whole keys, the pairs
  pub child_pairs_lem : (cs : List ℕ) (n : ℕ) → n ≡ length k.child_columns → take (length (child_key k)) cs ≡ child_key k → (take n cs ≡ k.child_columns) × (n ≤ length (child_key k))
  unfolding child_key
  child_pairs_lem cs n e h =
      let l : n ≤ length (child_key k) = omega (arith, e, child_length) in
      (begins (length (child_key k)) cs k.child_columns (map (λ w. w.day) k.windows) n h (sym e) l, l)

  pub parent_pairs_lem : (ps : List ℕ) (n : ℕ) → n ≡ length k.parent_columns → take (length (unique_columns k)) ps ≡ unique_columns k → (take n ps ≡ k.parent_columns) × (n ≤ length (unique_columns k))
  unfolding unique_columns
  parent_pairs_lem ps n e h =
      let l : n ≤ length (unique_columns k) = omega (arith, e, unique_length) in
      (begins (length (unique_columns k)) ps k.parent_columns (map (λ w. w.first) k.windows) n h (sym e) l, l)
