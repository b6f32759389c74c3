use mathlib.Core.Path.{◌≡◌, subst, ◌∙◌}
use mathlib.Core.List.{List, map}
use Prim.Native.Nat.{ℕ, zero, suc, ◌+◌, ◌*◌, ◌<◌}
use native.Mathlib.Nat.{add-zero, zero-add}
use native.Mathlib.Omega.{arith}
use borrow.Author.Rules.{rules}
use denote.Param.Members.{Mut}
use lib.IntN.{pos}
use lib.ListN.{get_or}
use Rattle.std.specs.Array.{IsFromFnResultFrom}
use Rattle.std.specs.Fn.{Called}
use Rattle.std.specs.List.{range_with_len}
use Rattle.std.proofs.lemmas.List.FromFn.{fill_by_all}
use Rattle.schema.specs.Bytes.{signed_word}
use Rattle.decoding.specs.CallBytes.{words_at}
use Rattle.decoding.proofs.words_at.Goals as goal

-- the words that start at each eighth byte are the twelve
words_are : (bs : List ℕ) (i : ℕ) → map (λ k. signed_word bs (i + 8 * k)) (range_with_len 0 12) ≡ words_at bs i
unfolding words_at
words_are bs i = simp add-zero

-- a closure that stays as it is, called at n numbers from i on
module _ {F B : Type 0} {g : Mut F (ℕ × Unit {0}) B} {f : F} (h : ℕ → B) (told : (x : ℕ) (r : B) (q : F) → Called g f (x, tt) r q → (q ≡ f) × (r ≡ h x)) where
  calls_give : (ys : List B) (i n : ℕ) → IsFromFnResultFrom g f ys i n → (k : ℕ) (d : B) → k < n → get_or ys (i + k) d ≡ h (i + k)
  calls_give ys i zero r k d l = absurd (omega arith)
  calls_give ys i (suc n) r zero d l = rw add-zero (r.2.1 d ∙ (told i r.1 r.0 r.3).1)
  calls_give ys i (suc n) r (suc k) d l =
      let s : i + suc k ≡ i + 1 + k = omega arith in
      rw s (calls_give ys (i + 1) n (subst (λ (x : F). IsFromFnResultFrom g x ys (i + 1) n) (told i r.1 r.0 r.3).0 r.4) k d (omega arith))

  calls_from_0 : (ys : List B) (n : ℕ) → IsFromFnResultFrom g f ys 0 n → (k : ℕ) (d : B) → k < n → get_or ys k d ≡ h k
  calls_from_0 ys n r k d l = rw zero-add at (calls_give ys 0 n r k d l)

pub returns : goal.returns
returns c =
    let bs = c.args.bytes.now in
    let i = c.args.i in
    let items = c.from_fn.ensures.items in
    fill_by_all (λ k. signed_word bs (i + 8 * k)) _ 12 (pos 0) items.long (λ k l. calls_from_0 (λ k. signed_word bs (i + 8 * k)) (λ x r q h. search rules) _ 12 items.each k (pos 0) l)
    ∙ words_are bs i
