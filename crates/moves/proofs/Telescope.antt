-- How movements add up: a tally carried through row writes.
-- Assumes nothing.
use mathlib.Core.Path.{◌≡◌, refl, sym, ◌∙◌, ap, ap₂}
use mathlib.Core.List.{List, [], ◌∷◌, map, ◌++◌}
use Prim.Native.Nat.{ℕ, zero, suc, ◌-◌, ◌≤◌, ◌<◌}
use native.Mathlib.Omega.{arith}
use lib.IntN.{ℤ, pos, ◌+ℤ◌, ◌-ℤ◌, neg_ℤ, +ℤ_assoc, +ℤ_comm, +ℤ_idr, +ℤ_idl, +ℤ_invr, neg_ℤ-+ℤ, neg_ℤ-neg_ℤ, -ℤ-+ℤ_cancel, +ℤ-neg_ℤ_cancel}
use lib.ListN.{length, get_or, replicate, length-append, length-replicate, length-map}
use Rattle.schema.specs.Records.{ForeignKey, Schema}
use Rattle.rules.specs.Lists.{𝟘, plus, less}
use Rattle.rules.specs.Rows.{Row, Tables, row_at, put_row}
use Rattle.rules.specs.Keys.{orphans, counts}
use Rattle.bridge.proofs.Counts.{length_counts_32}
use Rattle.moves.specs.Movement.{movement, movements, Tells, RowWrite, writes, movements_of, InTables}
use Rattle.moves.proofs.Moved.{moved_is}

-- lists of signed numbers
plus_assoc : (a b c : List ℤ) → length b ≡ length a → length c ≡ length b → plus (plus a b) c ≡ plus a (plus b c)
unfolding plus
plus_assoc [] b c h l = refl
plus_assoc (x ∷ a) [] c h l = absurd (omega arith)
plus_assoc (x ∷ a) (y ∷ b) [] h l = absurd (omega arith)
plus_assoc (x ∷ a) (y ∷ b) (z ∷ c) h l = ap₂ (λ v w. v ∷ w) (+ℤ_assoc x y z) (plus_assoc a b c (omega arith) (omega arith))

plus_length : (a b : List ℤ) → length (plus a b) ≡ length a
unfolding plus
plus_length [] b = refl
plus_length (x ∷ a) [] = refl
plus_length (x ∷ a) (y ∷ b) = ap suc (plus_length a b)

pub plus_zeros : (n : ℕ) (a : List ℤ) → plus a (replicate n 𝟘) ≡ a
unfolding plus
plus_zeros n [] = refl
plus_zeros zero (x ∷ a) = refl
plus_zeros (suc n) (x ∷ a) = ap₂ (λ v w. v ∷ w) (+ℤ_idr x) (plus_zeros n a)

-- the move is after less before
less_plus : (a m : List ℤ) → length m ≡ length a → less (plus a m) a ≡ m
unfolding plus less
less_plus [] [] h = refl
less_plus [] (y ∷ m) h = absurd (omega arith)
less_plus (x ∷ a) [] h = absurd (omega arith)
less_plus (x ∷ a) (y ∷ m) h = ap₂ (λ v w. v ∷ w) (ap (λ z. z -ℤ x) (+ℤ_comm x y) ∙ +ℤ-neg_ℤ_cancel y x) (less_plus a m (omega arith))

plus_maps : (f g h : ForeignKey → ℤ) (ks : List ForeignKey) (n m : ℕ) → ((k : ForeignKey) → f k +ℤ g k ≡ h k) → plus (map f ks ++ replicate n 𝟘) (map g ks ++ replicate m 𝟘) ≡ map h ks ++ replicate n 𝟘
unfolding plus
plus_maps f g h [] n m e = plus_zeros m (replicate n 𝟘)
plus_maps f g h (k ∷ ks) n m e = ap₂ (λ v w. v ∷ w) (e k) (plus_maps f g h ks n m e)

module _ (s : Schema) (few : length s.keys ≤ 32) where
  pub tells_none : (tabs : Tables) → Tells s tabs tabs (replicate 32 𝟘)
  tells_none tabs = record { size = refl; told = plus_zeros 32 (counts s tabs) }

  pub tells_write : (t r : ℕ) (y : Row) (tabs : Tables) → r < length (get_or tabs t []) → Tells s tabs (put_row t r y tabs) (movements s t r y tabs)
  unfolding movements counts
  tells_write t r y tabs h =
      record {
        size = simp (length-append, length-replicate, length-map) (omega arith);
        told =
            simp length-map
            (plus_maps (λ k. pos (orphans tabs k)) (λ k. movement k t r (row_at t r tabs) y tabs (put_row t r y tabs)) (λ k. pos (orphans (put_row t r y tabs) k)) s.keys (32 - length s.keys) (32 - length s.keys) (λ k. moved_is k t r y tabs h));
      }

  -- tallies add up
  pub tells_then : {a b c : Tables} {m n : List ℤ} → Tells s a b m → Tells s b c n → Tells s a c (plus m n)
  tells_then {a} {b} {c} {m} {n} p q =
      let l : length (counts s a) ≡ 32 = length_counts_32 s few a in
      record {
        size = plus_length m n ∙ p.size;
        told = sym (plus_assoc (counts s a) m n (p.size ∙ sym l) (q.size ∙ sym p.size)) ∙ ap (λ l. plus l n) p.told ∙ q.told;
      }

-- one number added to both leaves the difference as it is
pub both_more : (x y z : ℤ) → x +ℤ z -ℤ (y +ℤ z) ≡ x -ℤ y
both_more x y z = rw (neg_ℤ-+ℤ y z, +ℤ_assoc x z (neg_ℤ y +ℤ neg_ℤ z), +ℤ_comm z (neg_ℤ y +ℤ neg_ℤ z), -ℤ-+ℤ_cancel (neg_ℤ y) z)

-- the counts less the tally stay as they are: so tallies telescope by `∙` alone
less_plus_both : (a m n : List ℤ) → length m ≡ length a → length n ≡ length a → less (plus a n) (plus m n) ≡ less a m
unfolding plus less
less_plus_both [] m n h l = refl
less_plus_both (x ∷ a) [] n h l = absurd (omega arith)
less_plus_both (x ∷ a) (y ∷ m) [] h l = absurd (omega arith)
less_plus_both (x ∷ a) (y ∷ m) (z ∷ n) h l = ap₂ (λ v w. v ∷ w) (both_more x y z) (less_plus_both a m n (omega arith) (omega arith))

pub less_zeros : (n : ℕ) (a : List ℤ) → less a (replicate n 𝟘) ≡ a
unfolding less
less_zeros n [] = refl
less_zeros zero (x ∷ a) = refl
less_zeros (suc n) (x ∷ a) = ap₂ (λ v w. v ∷ w) (+ℤ_idr x) (less_zeros n a)

pub less_turn : (a m b : List ℤ) → length m ≡ length a → less a m ≡ b → m ≡ less a b
unfolding less
less_turn [] [] b h e = refl
less_turn [] (y ∷ m) b h e = absurd (omega arith)
less_turn (x ∷ a) [] b h e = absurd (omega arith)
less_turn (x ∷ a) (y ∷ m) b h e = rw (← e) (ap₂ (λ v w. v ∷ w) (turn x y) (less_turn a m (less a m) (omega arith) refl))
  where
    turn : (x y : ℤ) → y ≡ x -ℤ (x -ℤ y)
    turn x y = rw (neg_ℤ-+ℤ x (neg_ℤ y), neg_ℤ-neg_ℤ y, ← (+ℤ_assoc x (neg_ℤ x) y), +ℤ_invr x, +ℤ_idl y)

module _ (s : Schema) (few : length s.keys ≤ 32) where
  -- one write
  pub off_write : (t r : ℕ) (y : Row) (tabs : Tables) (m : List ℤ) → r < length (get_or tabs t []) → length m ≡ 32
      → less (counts s (put_row t r y tabs)) (plus m (movements s t r y tabs)) ≡ less (counts s tabs) m
  off_write t r y tabs m h l =
      let w : Tells s tabs (put_row t r y tabs) (movements s t r y tabs) = tells_write s few t r y tabs h in
      let n : length (counts s tabs) ≡ 32 = length_counts_32 s few tabs in
      rw (← w.told) (less_plus_both (counts s tabs) m (movements s t r y tabs) (l ∙ sym n) (w.size ∙ sym n))

  -- the statement's start, and its end
  pub off_start : (tabs : Tables) → less (counts s tabs) (replicate 32 𝟘) ≡ counts s tabs
  off_start tabs = less_zeros 32 (counts s tabs)

  pub off_end : (tabs tabs' : Tables) (m : List ℤ) → length m ≡ 32 → less (counts s tabs') m ≡ counts s tabs → m ≡ less (counts s tabs') (counts s tabs)
  off_end tabs tabs' m l e = less_turn (counts s tabs') m (counts s tabs) (l ∙ sym (length_counts_32 s few tabs')) e

-- a list of writes, one after the other
module _ (s : Schema) (few : length s.keys ≤ 32) where
  pub tells_all : (ws : List RowWrite) (tabs : Tables) → InTables ws tabs → Tells s tabs (writes ws tabs) (movements_of s ws tabs)
  unfolding writes movements_of InTables
  tells_all [] tabs h = tells_none s few tabs
  tells_all (w ∷ ws) tabs h =
      tells_then s few (tells_write s few w.table w.row w.words tabs h.0) (tells_all ws (put_row w.table w.row w.words tabs) h.1)
